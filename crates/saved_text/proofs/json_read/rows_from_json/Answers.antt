use Rattle.std.proofs.lemmas.Result.{err_from_is_err_and}
use Rattle.serde_json.specs.View.{view}
use Rattle.saved_text.specs.JsonReading.{ShowsRowsInJson, AreNoRows}
use Rattle.saved_text.proofs.JsonReadLemmas.{fault_of_text, read_ok, read_err}
use Rattle.saved_text.proofs.json_read.rows_from_json.Goals as goal

pub returns-in_err-value-clause-err : goal.returns-in_err-value-clause-err
returns-in_err-value-clause-err c =
    let p = err_from_is_err_and c.from_residual-in_err-value.result c.from_residual-in_err-value.ensures.1 in
    rw (p.1, p.2) (fault_of_text AreNoRows c.args.text.now _ c.in_err-value.ensures.err)

pub returns-clause-ok : goal.returns-clause-ok
returns-clause-ok c = read_ok (λ d rows. ShowsRowsInJson d rows.items) c.args.text.now (view c.in_ok-value.value)
    c.rows_from_value.result c.in_ok-value.ensures.ok c.rows_from_value.ensures.ok

pub returns-clause-err : goal.returns-clause-err
returns-clause-err c = read_err AreNoRows c.args.text.now (view c.in_ok-value.value) c.rows_from_value.result
    c.in_ok-value.ensures.ok c.rows_from_value.ensures.err
