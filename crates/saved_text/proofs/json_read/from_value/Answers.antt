use Rattle.serde_json.specs.View.{view}
use Rattle.saved_text.specs.Parts.{row_view}
use Rattle.saved_text.proofs.JsonReadLemmas.{row_err}
use Rattle.saved_text.proofs.json_read.from_value.Goals as goal

pub returns-in-Some-clause-err : goal.returns-in-Some-clause-err
returns-in-Some-clause-err c = row_err (view c.args.value.now) (row_view c.in-Some.parts) c.row_from.result
    c.in-Some.ensures c.row_from.ensures.err
