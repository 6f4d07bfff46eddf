use Rattle.std.proofs.Common.{codes, refl, string_bytes, ◌++◌}
use Rattle.std.proofs.lemmas.Result.{err_from_is_err_and}
use Rattle.saved_text.specs.Ron.{path}
use Rattle.saved_text.specs.Words.{string_words}
use Rattle.saved_text.specs.RowWords.{bool_words}
use Rattle.saved_text.proofs.FieldLemmas.{StopsAs-field, result_field}
use Rattle.saved_text.proofs.ron_fields.path_field.Goals as goal

pub returns-in_err-rest : goal.returns-in_err-rest
returns-in_err-rest c =
    let p = err_from_is_err_and c.from_residual.result c.from_residual.ensures.1 in
    rw (p.1, p.2) (StopsAs-field (codes "path") path c.args.text.now _ c.in_err-rest.ensures)

pub returns : goal.returns
returns c = result_field (codes "path") path (λ p. string_words (string_bytes p.0) ++ bool_words p.1) (λ p. p.2.now)
    c.args.text.now c.in_ok-rest.rest.now c.gap-rest.result.now c.read_path.result refl refl c.in_ok-rest.ensures
    c.gap-rest.ensures c.read_path.ensures
