use Rattle.std.proofs.Common.{ap, ◌∙◌}
use Rattle.jiff.specs.Words.{civil_nanos}
use Rattle.cookie_store.specs.Rows.{Store}
use Rattle.cookie_jar.specs.Rows.{lent_rows}
use Rattle.cookie_jar.proofs.RowLemmas.{live_stay}
use Rattle.cookie_jar.proofs.jar.unexpired.Goals as goal

pub returns : goal.returns
returns c =
    ap (λ (s : Store). s.rows) c.in_ok-placed.ensures
    ∙ live_stay c.laws.ensures.parts (civil_nanos c.args.now) c.args.store.now.rows (lent_rows c.in_ok-rows.rows.items)
    c.iter_any-rows.ensures.grouped c.in_ok-rows.ensures
