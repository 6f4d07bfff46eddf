use Rattle.std.proofs.Common.{◌∙◌, ap, map, subst, sym}
use Rattle.std.specs.Prelude.{Some, option_copied, option_map}
use Rattle.cookie_store.specs.Indexed.{StandsAt}
use Rattle.cookie_store.specs.Rows.{key, found, has_key}
use Rattle.cookie_store.specs.StoredCookie.{stored_in, stored_of}
use Rattle.cookie_store.proofs.IndexedLemmas.{found_there, key_there, read_there, within_vec}
use Rattle.cookie_store.proofs.PlaceLemmas.{find-none}
use Rattle.cookie_store.proofs.rows.Rows.get.Goals as goal

pub returns-in_err-at-clause-row : goal.returns-in_err-at-clause-row
returns-in_err-at-clause-row c =
    let k = key c.args.domain.now c.args.path.now c.args.name.now in
    ap (λ o. option_map stored_of (option_copied o)) c.from_residual.ensures
    ∙ sym (find-none (has_key k) c.args.self.now c.in_err-at.ensures.at)

pub index-requires : goal.index-requires
index-requires c =
    let k = key c.args.domain.now c.args.path.now c.args.name.now in
    let v = c.self.inside.cookies in
    let at = c.in_ok-at.at in
    within_vec k v.items at (subst (λ r. StandsAt k r (Some at)) (sym c.self.view_is) c.in_ok-at.ensures.at)
    v.len v.ok.0

pub returns-clause-row : goal.returns-clause-row
returns-clause-row c =
    let k = key c.args.domain.now c.args.path.now c.args.name.now in
    let items = c.self.inside.cookies.items in
    let rows = map stored_in items in
    let at = c.in_ok-at.at in
    let cookie = c.index.result.now in
    let there = subst (λ r. StandsAt k r (Some at)) (sym c.self.view_is) c.in_ok-at.ensures.at in
    ap (λ k. Some (stored_of k)) c.deref.ensures
    ∙ sym (found_there k rows at (stored_in cookie) c.self.invariant.apart
    (read_there k items at there cookie c.index.ensures) (key_there k items at there cookie c.index.ensures))
    ∙ ap (found k) c.self.view_is
