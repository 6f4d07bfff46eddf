use Rattle.std.proofs.Common.{◌∷◌, [], codes}
use Rattle.std.proofs.lemmas.Result.{err_from_is_err_and}
use Rattle.saved_text.specs.Grammar.Word.{the_name}
use Rattle.saved_text.specs.Grammar.Grammar.{sign}
use Rattle.saved_text.specs.Words.{heading}
use Rattle.saved_text.proofs.FieldLemmas.{StopsAs-heading, heading_opens, result_rest_behind}
use Rattle.saved_text.proofs.ron_fields.heading.Goals as goal

pub returns-in_err-rest : goal.returns-in_err-rest
returns-in_err-rest c =
    let p = err_from_is_err_and c.from_residual.result c.from_residual.ensures.1 in
    rw (p.1, p.2) (StopsAs-heading c.args.name.now c.args.text.now _ c.in_err-rest.ensures)

pub returns : goal.returns
returns c = result_rest_behind (heading c.args.name.now) (sign (codes ":")) c.args.text.now c.gap-rest.result.now
    (the_name c.args.name.now ∷ []) c.sign_of.result
    (heading_opens c.args.name.now c.args.text.now c.in_ok-rest.rest.now c.gap-rest.result.now c.in_ok-rest.ensures
    c.gap-rest.ensures) c.sign_of.ensures
