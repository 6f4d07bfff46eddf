use Rattle.std.proofs.Common.{codes}
use Rattle.std.proofs.lemmas.Result.{err_from_is_err_and}
use Rattle.saved_text.specs.Ron.{expires}
use Rattle.saved_text.proofs.FieldLemmas.{StopsAs-field, result_expires}
use Rattle.saved_text.proofs.ron_fields.expires_field.Goals as goal

pub returns-in_err-rest : goal.returns-in_err-rest
returns-in_err-rest c =
    let p = err_from_is_err_and c.from_residual.result c.from_residual.ensures.1 in
    rw (p.1, p.2) (StopsAs-field (codes "expires") expires c.args.text.now _ c.in_err-rest.ensures)

pub returns : goal.returns
returns c = result_expires c.args.text.now c.in_ok-rest.rest.now c.gap-rest.result.now c.read_expires.result
    c.in_ok-rest.ensures c.gap-rest.ensures c.read_expires.ensures
