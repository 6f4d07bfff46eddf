use Rattle.std.proofs.Common.{◌∙◌, ap, map, subst, sym}
use Rattle.std.specs.Prelude.{Some, option_map}
use Rattle.cookie_store.specs.Indexed.{IsIndexed, StandsAt}
use Rattle.cookie_store.specs.Rows.{key, found, has_key, removed}
use Rattle.cookie_store.specs.StoredCookie.{stored_in, stored_of}
use Rattle.cookie_store.proofs.IndexedLemmas.{fits, found_there, has_row, key_there, map-remove, read_there}
use Rattle.cookie_store.proofs.IndexedLemmas.{removed_indexed, removed_there, stands, within_vec}
use Rattle.cookie_store.proofs.PlaceLemmas.{filter-none, find-none}
use Rattle.cookie_store.proofs.rows.Rows.remove.Goals as goal

pub returns-in_err-at-clause-cookie : goal.returns-in_err-at-clause-cookie
returns-in_err-at-clause-cookie c =
    let k = key c.args.domain.now c.args.path.now c.args.name.now in
    ap (option_map stored_of) c.from_residual.ensures
    ∙ sym (find-none (has_key k) c.args.self.now c.in_err-at.ensures.at)

pub returns-in_err-at-clause-rest : goal.returns-in_err-at-clause-rest
returns-in_err-at-clause-rest c =
    let k = key c.args.domain.now c.args.path.now c.args.name.now in
    sym (filter-none (has_key k) c.args.self.now c.in_err-at.ensures.at)

pub remove-requires : goal.remove-requires
remove-requires c =
    let k = key c.args.domain.now c.args.path.now c.args.name.now in
    let v = c.self.inside.cookies in
    let rows = map stored_in v.items in
    let at = c.in_ok-at.at in
    let row = stands k rows at (subst (λ r. StandsAt k r (Some at)) (sym c.self.view_is) c.in_ok-at.ensures.at) in
    has_row k rows at row.0 c.self.inside.index c.self.invariant row.1 row.2 (fits stored_in v)

pub remove-requires-2 : goal.remove-requires-2
remove-requires-2 c =
    let k = key c.args.domain.now c.args.path.now c.args.name.now in
    let v = c.self.inside.cookies in
    let at = c.in_ok-at.at in
    within_vec k v.items at (subst (λ r. StandsAt k r (Some at)) (sym c.self.view_is) c.in_ok-at.ensures.at)
    v.len v.ok.0

pub invariant_of-self : goal.invariant_of-self
invariant_of-self c =
    let k = key c.args.domain.now c.args.path.now c.args.name.now in
    let items = c.self.inside.cookies.items in
    let rows = map stored_in items in
    let at = c.in_ok-at.at in
    let row = stands k rows at (subst (λ r. StandsAt k r (Some at)) (sym c.self.view_is) c.in_ok-at.ensures.at) in
    subst (λ r. IsIndexed r c.remove.new.self)
    (sym (ap (map stored_in) c.remove-2.ensures.items ∙ map-remove stored_in items at))
    (removed_indexed k rows at row.0 c.self.inside.index c.self.invariant row.1 row.2 c.remove.new.self
    c.remove.ensures)

pub returns-clause-cookie : goal.returns-clause-cookie
returns-clause-cookie c =
    let k = key c.args.domain.now c.args.path.now c.args.name.now in
    let items = c.self.inside.cookies.items in
    let rows = map stored_in items in
    let at = c.in_ok-at.at in
    let cookie = c.remove-2.result in
    let there = subst (λ r. StandsAt k r (Some at)) (sym c.self.view_is) c.in_ok-at.ensures.at in
    ap (λ k. Some (stored_of k)) c.into_inner.ensures
    ∙ sym (found_there k rows at (stored_in cookie) c.self.invariant.apart
    (read_there k items at there cookie c.remove-2.ensures.value)
    (key_there k items at there cookie c.remove-2.ensures.value))
    ∙ ap (found k) c.self.view_is

pub returns-clause-rest : goal.returns-clause-rest
returns-clause-rest c =
    let k = key c.args.domain.now c.args.path.now c.args.name.now in
    let items = c.self.inside.cookies.items in
    let rows = map stored_in items in
    let at = c.in_ok-at.at in
    let row = stands k rows at (subst (λ r. StandsAt k r (Some at)) (sym c.self.view_is) c.in_ok-at.ensures.at) in
    ap (map stored_in) c.remove-2.ensures.items ∙ map-remove stored_in items at
    ∙ removed_there k rows at row.0 c.self.invariant.apart row.1 row.2 ∙ ap (removed k) c.self.view_is
