use Rattle.std.proofs.Common.{codes, refl}
use Rattle.std.proofs.lemmas.Result.{err_from_is_err_and}
use Rattle.saved_text.specs.Ron.{domain}
use Rattle.saved_text.specs.Words.{domain_words}
use Rattle.saved_text.specs.Saved.{domain_shown}
use Rattle.saved_text.proofs.FieldLemmas.{StopsAs-field, result_field}
use Rattle.saved_text.proofs.ron_fields.domain_field.Goals as goal

pub returns-in_err-rest : goal.returns-in_err-rest
returns-in_err-rest c =
    let p = err_from_is_err_and c.from_residual.result c.from_residual.ensures.1 in
    rw (p.1, p.2) (StopsAs-field (codes "domain") domain c.args.text.now _ c.in_err-rest.ensures)

pub returns : goal.returns
returns c = result_field (codes "domain") domain (λ p. domain_words (domain_shown p.0)) (λ p. p.1.now) c.args.text.now
    c.in_ok-rest.rest.now c.gap-rest.result.now c.read_domain.result refl refl c.in_ok-rest.ensures c.gap-rest.ensures
    c.read_domain.ensures
