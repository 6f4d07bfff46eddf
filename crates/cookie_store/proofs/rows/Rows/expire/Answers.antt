use Rattle.std.proofs.Common.{◌≡◌, ◌∙◌, ap, map, refl, set, subst, sym}
use Rattle.std.specs.Box.{with_value}
use Rattle.std.specs.Prelude.{MatchOption, Some}
use Rattle.std.proofs.lemmas.List.{map-set}
use Rattle.cookie_store.specs.Indexed.{IsIndexed, StandsAt}
use Rattle.cookie_store.specs.Rows.{key, expired, found, has_key, put}
use Rattle.cookie_store.specs.StoredCookie.{stored_in, stored_of}
use Rattle.cookie_store.proofs.IndexedLemmas.{found_there, key_there, read_there, set_indexed, set_there}
use Rattle.cookie_store.proofs.PlaceLaws.{has_own_key}
use Rattle.cookie_store.proofs.PlaceLemmas.{find-none}
use Rattle.cookie_store.proofs.rows.Rows.expire.Goals as goal

pub invariant_of-self : goal.invariant_of-self
invariant_of-self c =
    let k = key c.args.domain.now c.args.path.now c.args.name.now in
    let items = c.self.inside.cookies.items in
    let rows = map stored_in items in
    let at = c.in-Some.at in
    let old = c.index_mut.result.now in
    let there = subst (λ r. StandsAt k r (Some at)) (sym c.self.view_is) c.in-Some.ensures.at in
    subst (λ r. IsIndexed r c.self.inside.index)
    (sym (map-set stored_in items at (with_value old c.expire.new.self)
    ∙ ap (set rows at) (c.expire.ensures ∙ ap (λ k. expired (stored_of k)) c.deref_mut.ensures.value)))
    (set_indexed (expired (stored_in old)) rows at (stored_in old)
    (read_there k items at there old c.index_mut.ensures.value) (has_own_key (stored_in old)) c.self.inside.index
    c.self.invariant)

pub returns-in-Some : goal.returns-in-Some
returns-in-Some c =
    let k = key c.args.domain.now c.args.path.now c.args.name.now in
    let items = c.self.inside.cookies.items in
    let rows = map stored_in items in
    let at = c.in-Some.at in
    let old = c.index_mut.result.now in
    let there = subst (λ r. StandsAt k r (Some at)) (sym c.self.view_is) c.in-Some.ensures.at in
    let is = read_there k items at there old c.index_mut.ensures.value in
    let new = map stored_in (set items at (with_value old c.expire.new.self)) in
    subst (λ r. MatchOption (found k r) (new ≡ r) (λ row. new ≡ put (expired row) r)) c.self.view_is
    (subst (λ o. MatchOption o (new ≡ rows) (λ row. new ≡ put (expired row) rows))
    (sym (found_there k rows at (stored_in old) c.self.invariant.apart is
    (key_there k items at there old c.index_mut.ensures.value)))
    (map-set stored_in items at (with_value old c.expire.new.self)
    ∙ ap (set rows at) (c.expire.ensures ∙ ap (λ k. expired (stored_of k)) c.deref_mut.ensures.value)
    ∙ set_there (expired (stored_in old)) rows at (stored_in old) is (has_own_key (stored_in old))
    c.self.invariant.apart))

pub returns-in_default : goal.returns-in_default
returns-in_default c =
    let k = key c.args.domain.now c.args.path.now c.args.name.now in
    let rows = c.args.self.now in
    subst (λ o. MatchOption o (rows ≡ rows) (λ row. rows ≡ put (expired row) rows))
    (sym (find-none (has_key k) rows c.in_default.ensures.at)) refl
