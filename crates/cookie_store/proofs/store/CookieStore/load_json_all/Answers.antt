use Rattle.std.proofs.Common.{subst, pos}
use Rattle.saved_text.specs.JsonReading.{IsJsonFault, IsNoRow}
use Rattle.cookie_store.specs.SavedTexts as form
use Rattle.cookie_store.proofs.JsonLineLemmas.{loads, stops, ok_map, err_map}
use Rattle.cookie_store.proofs.store.CookieStore.load_json_all.Goals as goal

pub returns-clause-ok : goal.returns-clause-ok
returns-clause-ok g c =
    ok_map _ _ c.load_all.result (λ store h. loads _
    (λ f line row k made. subst (λ l. form.IsJsonRow l row) made.2.shows
    (subst (form.IsJsonRow made.2.shown.now) made.1 made.2.called.met.1.0))
    (λ f line e k called. subst (λ l. form.IsRefusal (IsJsonFault IsNoRow l) e) called.shows called.called.met.1.1)
    _ _ _ _ _ store (h (pos 0))) c.load_all.ensures.ok

pub returns-clause-err : goal.returns-clause-err
returns-clause-err g c =
    err_map _ _ c.load_all.result (λ error h. stops _
    (λ f line row k made. subst (λ l. form.IsJsonRow l row) made.2.shows
    (subst (form.IsJsonRow made.2.shown.now) made.1 made.2.called.met.1.0))
    (λ f line e k called. subst (λ l. form.IsRefusal (IsJsonFault IsNoRow l) e) called.shows called.called.met.1.1)
    _ _ _ error h) c.load_all.ensures.err
