use Rattle.std.proofs.Common.{◌≡◌, ◌∙◌, ap, arith, false, map, subst, sym}
use Rattle.std.specs.List.{insert, list_any}
use Rattle.std.proofs.lemmas.List.{length-map}
use Rattle.cookie_store.specs.Indexed.{IsIndexed}
use Rattle.cookie_store.specs.Rows.{domain_text, has_key_of, inserted}
use Rattle.cookie_store.specs.StoredCookie.{stored_in, stored_of}
use Rattle.cookie_store.proofs.IndexedLemmas.{insert_indexed, insert_there, insert_within, is_ready, map-insert}
use Rattle.cookie_store.proofs.rows.Rows.insert.Goals as goal

pub put-requires : goal.put-requires
put-requires c =
    let v = c.self.inside.cookies in
    let counted = c.len-rows.ensures ∙ c.reserve.ensures.len ∙ v.ok.0 ∙ sym (length-map v.items stored_in) in
    let rows = c.len-rows.ensures in
    let room = c.in_ok-reserve.ensures.ok in
    let small = c.reserve.new.self.small in
    let row = stored_in c.in_ok-cookie.cookie in
    let domain = c.domain_text.ensures ∙ ap (λ k. domain_text (stored_of k)) c.deref.ensures in
    let path = c.as_str.ensures ∙ ap (λ k. (stored_of k).path.text) c.deref-2.ensures in
    let named = c.name.ensures ∙ ap (λ r. r.cookie.name) c.raw.ensures
    ∙ ap (λ k. (stored_of k).raw.cookie.name) c.deref-3.ensures in
    is_ready row (map stored_in v.items) c.self.inside.index _ c.len-rows.result
    (λ i. record { domain = domain i; path = path i; name = named i }) c.self.invariant counted
    (omega (arith, rows, room, small))
    (subst (λ k. list_any (has_key_of (stored_of k)) (map stored_in v.items) ≡ false) (sym c.in_ok-cookie.ensures.ok)
    (subst (λ r. list_any (has_key_of (stored_of c.args.cookie)) r ≡ false) (sym c.self.view_is) c.requires))

pub insert-requires : goal.insert-requires
insert-requires c =
    let v = c.self.inside.cookies in
    let row = stored_in c.in_ok-cookie.cookie in
    let counted = c.len-rows.ensures ∙ c.reserve.ensures.len ∙ v.ok.0 ∙ sym (length-map v.items stored_in) in
    let domain = c.domain_text.ensures ∙ ap (λ k. domain_text (stored_of k)) c.deref.ensures in
    let path = c.as_str.ensures ∙ ap (λ k. (stored_of k).path.text) c.deref-2.ensures in
    let named = c.name.ensures ∙ ap (λ r. r.cookie.name) c.raw.ensures
    ∙ ap (λ k. (stored_of k).raw.cookie.name) c.deref-3.ensures in
    let within = insert_within row (map stored_in v.items) c.in_ok-at.at c.self.inside.index c.put.new.self
    c.self.invariant _ c.len-rows.result (λ i. record { domain = domain i; path = path i; name = named i }) counted
    c.in_ok-at.ensures.ok in
    let rows = c.len-rows.ensures in
    omega (arith, within, rows)

pub invariant_of-self-2 : goal.invariant_of-self-2
invariant_of-self-2 c =
    let v = c.self.inside.cookies in
    let cookie = c.in_ok-cookie.cookie in
    let row = stored_in cookie in
    let rows = map stored_in v.items in
    let at = c.in_ok-at.at in
    let counted = c.len-rows.ensures ∙ c.reserve.ensures.len ∙ v.ok.0 ∙ sym (length-map v.items stored_in) in
    let domain = c.domain_text.ensures ∙ ap (λ k. domain_text (stored_of k)) c.deref.ensures in
    let path = c.as_str.ensures ∙ ap (λ k. (stored_of k).path.text) c.deref-2.ensures in
    let named = c.name.ensures ∙ ap (λ r. r.cookie.name) c.raw.ensures
    ∙ ap (λ k. (stored_of k).raw.cookie.name) c.deref-3.ensures in
    subst (λ r. IsIndexed r c.put.new.self)
    (sym (ap (map stored_in)
    (c.in_ok-insert.ensures.items ∙ ap (λ items. insert items at cookie) c.reserve.ensures.items)
    ∙ map-insert stored_in v.items at cookie))
    (insert_indexed row rows at c.self.inside.index c.put.new.self c.self.invariant _ c.len-rows.result
    (λ i. record { domain = domain i; path = path i; name = named i }) counted c.in_ok-at.ensures.ok
    (subst (λ k. list_any (has_key_of (stored_of k)) rows ≡ false) (sym c.in_ok-cookie.ensures.ok)
    (subst (λ r. list_any (has_key_of (stored_of c.args.cookie)) r ≡ false) (sym c.self.view_is) c.requires)))

pub returns-clause-ok : goal.returns-clause-ok
returns-clause-ok c =
    let v = c.self.inside.cookies in
    let cookie = c.in_ok-cookie.cookie in
    let row = stored_in cookie in
    let rows = map stored_in v.items in
    let at = c.in_ok-at.at in
    let counted = c.len-rows.ensures ∙ c.reserve.ensures.len ∙ v.ok.0 ∙ sym (length-map v.items stored_in) in
    let domain = c.domain_text.ensures ∙ ap (λ k. domain_text (stored_of k)) c.deref.ensures in
    let path = c.as_str.ensures ∙ ap (λ k. (stored_of k).path.text) c.deref-2.ensures in
    let named = c.name.ensures ∙ ap (λ r. r.cookie.name) c.raw.ensures
    ∙ ap (λ k. (stored_of k).raw.cookie.name) c.deref-3.ensures in
    ap (map stored_in)
    (c.in_ok-insert.ensures.items ∙ ap (λ items. insert items at cookie) c.reserve.ensures.items)
    ∙ map-insert stored_in v.items at cookie
    ∙ insert_there row rows at c.self.inside.index c.put.new.self c.self.invariant _ c.len-rows.result
    (λ i. record { domain = domain i; path = path i; name = named i }) counted c.in_ok-at.ensures.ok
    ∙ (λ i. inserted (stored_of (c.in_ok-cookie.ensures.ok i)) (c.self.view_is i))
