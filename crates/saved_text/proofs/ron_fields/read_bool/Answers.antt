use Rattle.std.proofs.Common.{codes}
use Rattle.std.proofs.lemmas.Result.{err_from_is_err_and}
use Rattle.saved_text.specs.Ron.{bool}
use Rattle.saved_text.proofs.FieldLemmas.{bool_true, bool_false, Takes-picked_name, StopsAs-picked_name}
use Rattle.saved_text.proofs.ron_fields.read_bool.Goals as goal

pub returns-in_err-rest : goal.returns-in_err-rest
returns-in_err-rest c =
    let p = err_from_is_err_and c.from_residual.result c.from_residual.ensures.1 in
    rw (p.1, p.2) (StopsAs-picked_name bool (codes "true") c.args.text.now _
    (bool_true c.args.text.now c.if-begins.ensures) c.in_err-rest.ensures)

pub returns-then-begins : goal.returns-then-begins
returns-then-begins c = Takes-picked_name bool (codes "true") c.args.text.now c.in_ok-rest.rest.now
    (bool_true c.args.text.now c.if-begins.ensures) c.in_ok-rest.ensures

pub returns-in_err-rest-2 : goal.returns-in_err-rest-2
returns-in_err-rest-2 c =
    let p = err_from_is_err_and c.from_residual-in_err-rest-2.result c.from_residual-in_err-rest-2.ensures.1 in
    rw (p.1, p.2) (StopsAs-picked_name bool (codes "false") c.args.text.now _
    (bool_false c.args.text.now c.if-begins.ensures) c.in_err-rest-2.ensures)

pub returns : goal.returns
returns c = Takes-picked_name bool (codes "false") c.args.text.now c.in_ok-rest-2.rest.now
    (bool_false c.args.text.now c.if-begins.ensures) c.in_ok-rest-2.ensures
