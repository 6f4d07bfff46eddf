use Rattle.std.proofs.Common.{◌∙◌, ap, map, subst, sym}
use Rattle.std.specs.Prelude.{Some}
use Rattle.std.specs.Box.{with_value}
use Rattle.std.specs.List.{list_any}
use Rattle.std.proofs.lemmas.Bool.{cond-true}
use Rattle.std.proofs.lemmas.List.{map-set}
use Rattle.cookie_store.specs.Indexed.{IsIndexed, StandsAt}
use Rattle.cookie_store.specs.Rows.{has_key_of, key, key_of, put}
use Rattle.cookie_store.specs.StoredCookie.{stored_in, stored_of}
use Rattle.cookie_store.proofs.IndexedLemmas.{any_there, set_indexed, set_there, stands}
use Rattle.cookie_store.proofs.rows.Rows.put.Goals as goal

pub invariant_of-self : goal.invariant_of-self
invariant_of-self c =
    let items = c.self.inside.cookies.items in
    let rows = map stored_in items in
    let new = stored_of c.args.cookie in
    let at = c.in-Some.at in
    let named = c.name.ensures ∙ ap (λ r. r.cookie.name) c.raw.ensures in
    let old = stands (key_of new) rows at
    (subst (λ r. StandsAt (key_of new) r (Some at)) (sym c.self.view_is)
    (subst (λ k. StandsAt k c.args.self.now (Some at))
    (λ i. key (c.domain_text.ensures i) (c.as_str.ensures i) (named i)) c.in-Some.ensures.at)) in
    subst (λ r. IsIndexed r c.self.inside.index)
    (sym (map-set stored_in items at (with_value c.index_mut.result.now c.args.cookie)))
    (set_indexed new rows at old.0 old.1 old.2 c.self.inside.index c.self.invariant)

pub returns-in-Some-clause-ok : goal.returns-in-Some-clause-ok
returns-in-Some-clause-ok c =
    let items = c.self.inside.cookies.items in
    let rows = map stored_in items in
    let new = stored_of c.args.cookie in
    let at = c.in-Some.at in
    let named = c.name.ensures ∙ ap (λ r. r.cookie.name) c.raw.ensures in
    let old = stands (key_of new) rows at
    (subst (λ r. StandsAt (key_of new) r (Some at)) (sym c.self.view_is)
    (subst (λ k. StandsAt k c.args.self.now (Some at))
    (λ i. key (c.domain_text.ensures i) (c.as_str.ensures i) (named i)) c.in-Some.ensures.at)) in
    map-set stored_in items at (with_value c.index_mut.result.now c.args.cookie)
    ∙ set_there new rows at old.0 old.1 old.2 c.self.invariant.apart
    ∙ ap (put new) c.self.view_is

pub returns-in-Some-clause-action : goal.returns-in-Some-clause-action
returns-in-Some-clause-action c =
    let rows = c.args.self.now in
    let new = stored_of c.args.cookie in
    let at = c.in-Some.at in
    let named = c.name.ensures ∙ ap (λ r. r.cookie.name) c.raw.ensures in
    sym (cond-true (list_any (has_key_of new) rows) _ _ (any_there (key_of new) rows at
    (subst (λ k. StandsAt k rows (Some at)) (λ i. key (c.domain_text.ensures i) (c.as_str.ensures i) (named i))
    c.in-Some.ensures.at)))
