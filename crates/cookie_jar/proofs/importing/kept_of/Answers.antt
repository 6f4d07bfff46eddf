use Rattle.std.proofs.Common.{◌∙◌, ◌++◌, ◌∷◌, [], ap, map, option_map, sym}
use Rattle.std.proofs.lemmas.List.{append-nil, map-append}
use Rattle.jiff.specs.Words.{civil_nanos}
use Rattle.cookie_store.specs.StoredCookie.{stored_of}
use Rattle.cookie_jar.specs.Importing.{lone}
use Rattle.cookie_jar.proofs.ImportLemmas.{kept_next}
use Rattle.cookie_jar.proofs.importing.kept_of.Goals as goal

pub loop-entry-preserved-in-Continue-1 : goal.loop-entry-preserved-in-Continue-1
loop-entry-preserved-in-Continue-1 c =
    let old = c.loop-entry.kept.items in
    let cookie = c.in-Some-kept_cookie.cookie in
    kept_next c.args.form (civil_nanos c.args.now) c.loop-entry.yielded c.in-Some.entry old c.push.new.self.items
    c.kept_cookie.result c.loop-entry.invariant c.kept_cookie.ensures
    (ap (map stored_of) c.in_ok-push-in-Some-kept_cookie.ensures.items
    ∙ (map-append stored_of old (cookie ∷ [])
    ∙ ap (λ o. map stored_of old ++ lone (option_map stored_of o)) (sym c.in-Some-kept_cookie.is)))

pub loop-entry-preserved : goal.loop-entry-preserved
loop-entry-preserved c =
    let old = c.loop-entry.kept.items in
    kept_next c.args.form (civil_nanos c.args.now) c.loop-entry.yielded c.in-Some.entry old old c.kept_cookie.result
    c.loop-entry.invariant c.kept_cookie.ensures
    (sym (append-nil (map stored_of old))
    ∙ ap (λ o. map stored_of old ++ lone (option_map stored_of o)) (sym c.in-None-kept_cookie.is))
