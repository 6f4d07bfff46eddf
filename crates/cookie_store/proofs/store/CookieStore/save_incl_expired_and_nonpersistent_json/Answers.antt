use Rattle.std.proofs.Common.{subst, ap, ◌∙◌}
use Rattle.std.specs.Prelude.{string_bytes}
use Rattle.cookie_store.specs.SavedTexts.{IsRowFault}
use Rattle.cookie_store.specs.Formats.{IsJsonOfRow}
use Rattle.cookie_store.specs.StoredCookie.{stored_of}
use Rattle.cookie_store.proofs.JsonSaveLemmas.{saves, stops, steady}
use Rattle.cookie_store.proofs.store.CookieStore.save_incl_expired_and_nonpersistent_json.Goals as goal

pub returns-clause-ok : goal.returns-clause-ok
returns-clause-ok g c = saves _
    (λ f row text k printed. subst (λ r. IsJsonOfRow r (string_bytes text)) (ap stored_of printed.2.shows ∙ printed.1)
    printed.2.called.met.0)
    (λ f row e k printed. subst (λ r. IsRowFault r.death e) (ap stored_of printed.2.shows ∙ printed.1)
    printed.2.called.met.1.0)
    _ _ _ _ c.save_incl_expired_and_nonpersistent.result c.save_incl_expired_and_nonpersistent.ensures.ok

pub returns-clause-failures : goal.returns-clause-failures
returns-clause-failures g c = steady _
    (λ f row text k printed. subst (λ r. IsJsonOfRow r (string_bytes text)) (ap stored_of printed.2.shows ∙ printed.1)
    printed.2.called.met.0)
    (λ f row e k printed. subst (λ r. IsRowFault r.death e) (ap stored_of printed.2.shows ∙ printed.1)
    printed.2.called.met.1.0)
    _ _ _ _ c.save_incl_expired_and_nonpersistent.result c.save_incl_expired_and_nonpersistent.ensures.ok
    c.save_incl_expired_and_nonpersistent.ensures.err

pub returns-clause-err : goal.returns-clause-err
returns-clause-err g c = stops _
    (λ f row text k printed. subst (λ r. IsJsonOfRow r (string_bytes text)) (ap stored_of printed.2.shows ∙ printed.1)
    printed.2.called.met.0)
    (λ f row e k printed. subst (λ r. IsRowFault r.death e) (ap stored_of printed.2.shows ∙ printed.1)
    printed.2.called.met.1.0)
    _ _ _ _ c.save_incl_expired_and_nonpersistent.result c.save_incl_expired_and_nonpersistent.ensures.err
