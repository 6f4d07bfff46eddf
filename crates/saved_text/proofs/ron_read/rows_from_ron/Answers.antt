use Rattle.std.proofs.Common.{subst, IfOk}
use Rattle.saved_text.specs.RonReading.{ShowsRowsInRon}
use Rattle.saved_text.proofs.ron_read.rows_from_ron.Goals as goal

pub returns-in-Ok-clause-ok : goal.returns-in-Ok-clause-ok
returns-in-Ok-clause-ok c = subst (λ t. IfOk c.rows_of.result (λ rows. ShowsRowsInRon t rows.items))
    c.in-Ok.ensures.cases.0 c.rows_of.ensures.ok
