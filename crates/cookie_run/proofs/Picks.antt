-- Rows under some texts alone, through what is put among all of them.
use Rattle.std.proofs.Common.{◌≡◌, ℕ, ℤ, Bool, true, false, cond, ◌&&◌, ◌||◌, List, [], ◌∷◌, sym, refl, ap, ◌∙◌, subst}
use Rattle.std.proofs.Common.{⊎_elim, inl, inr}
use Rattle.std.specs.Prelude.{map, not}
use Rattle.std.specs.List.{filter, list_any, AllByRecursion}
use Rattle.std.proofs.lemmas.Bool.{cases_Bool}
use Rattle.cookie_text.specs.ReadingBack.{Pairwise}
use Rattle.store_parts.specs.DomainMatch.{text_or_empty}
use Rattle.store_parts.specs.Expiry.{is_dead}
use Rattle.cookie_store.specs.Given.{ArePicked}
use Rattle.cookie_store.specs.Insertion.{settled}
use Rattle.cookie_store.specs.Placing.{is_saved, saved}
use Rattle.cookie_store.specs.Rows.{Row, domain_text, has_domain_of, has_place_of, has_key_of, is_live, is_live_of}
use Rattle.cookie_store.specs.Rows.{live}
use Rattle.cookie_store.specs.Rows.{behind_last, inserted, put}
use Rattle.cookie_store.specs.SavedRows.{IsReread}
use Rattle.cookie_client.specs.Keeping.{Keeps}
use Rattle.cookie_run.proofs.OwnRows.{first_and}
use Rattle.cookie_client.proofs.Lines.{at_epoch}
use Rattle.cookie_run.proofs.Received.{epoch_domain, replaced_domain}
use Rattle.cookie_client.proofs.Texts.{same_text}

module _ (In : List ℕ → Type 0) where
  abbrev pub Under : Row → Type 0
  Under row = In (domain_text row)

  abbrev pub PickedOf : List Row → List Row → Type 0
  PickedOf rows zs = ArePicked Under rows zs

  -- ---- tests

  pub any_picked : (test : Row → Bool) → ((r : Row) → test r ≡ true → Under r) → (rows zs : List Row)
      → PickedOf rows zs → list_any test rows ≡ list_any test zs
  any_picked test only [] zs p = ap (list_any test) (sym p)
  any_picked test only (r ∷ rs) zs (l, h, inl is) =
      ap (λ b. test r || b) (any_picked test only rs l h) ∙ ap (list_any test) (sym is.1)
  any_picked test only (r ∷ rs) zs (l, h, inr is) =
      ⊎_elim
      (λ (e : test r ≡ true). absurd (is.0 (only r e)))
      (λ (e : test r ≡ false).
      ap (λ b. b || list_any test rs) e ∙ (any_picked test only rs l h ∙ ap (list_any test) (sym is.1)))
      (cases_Bool (test r))

  -- ---- each row changed in its place

  pub picked_map : (f : Row → Row) → ((r : Row) → domain_text (f r) ≡ domain_text r) → (rows zs : List Row)
      → PickedOf rows zs → PickedOf (map f rows) (map f zs)
  picked_map f same [] zs p = ap (map f) p
  picked_map f same (r ∷ rs) zs (l, h, inl is) =
      (map f l, picked_map f same rs l h, inl (subst In (sym (same r)) is.0, ap (map f) is.1))
  picked_map f same (r ∷ rs) zs (l, h, inr is) =
      (map f l, picked_map f same rs l h, inr ((λ u. is.0 (subst In (same r) u)), ap (map f) is.1))

  pub picked_map_other : (f : Row → Row) → ((r : Row) → domain_text (f r) ≡ domain_text r)
      → ((r : Row) → Under r → f r ≡ r) → (rows zs : List Row) → PickedOf rows zs → PickedOf (map f rows) zs
  picked_map_other f same stays [] zs p = p
  picked_map_other f same stays (r ∷ rs) zs (l, h, inl is) = (
    l,
    picked_map_other f same stays rs l h,
    inl (subst In (sym (same r)) is.0, is.1 ∙ ap (λ x. x ∷ l) (sym (stays r is.0))),
  )
  picked_map_other f same stays (r ∷ rs) zs (l, h, inr is) =
      (l, picked_map_other f same stays rs l h, inr ((λ u. is.0 (subst In (same r) u)), is.1))

  -- ---- a new row

  pub picked_behind : (test : Row → Bool) → ((r : Row) → test r ≡ true → Under r) → (row : Row) → Under row
      → (rows zs : List Row) → PickedOf rows zs → PickedOf (behind_last test row rows) (behind_last test row zs)
  picked_behind test only row u [] zs p = ([], refl, inl (u, ap (behind_last test row) p))
  picked_behind test only row u (r ∷ rs) zs (l, h, inl is) =
      let any : list_any test rs ≡ list_any test l = any_picked test only rs l h in
      let all : behind_last test row zs
      ≡ cond (test r && not (list_any test rs)) (r ∷ row ∷ l) (r ∷ behind_last test row l) =
      ap (behind_last test row) is.1
      ∙ ap (λ b. cond (test r && not b) (r ∷ row ∷ l) (r ∷ behind_last test row l)) (sym any) in
      subst (λ x. PickedOf (behind_last test row (r ∷ rs)) x) (sym all)
      (⊎_elim
      (λ (e : (test r && not (list_any test rs)) ≡ true). rw e (row ∷ l, (l, h, inl (u, refl)), inl (is.0, refl)))
      (λ (e : (test r && not (list_any test rs)) ≡ false).
      rw e (behind_last test row l, picked_behind test only row u rs l h, inl (is.0, refl)))
      (cases_Bool (test r && not (list_any test rs))))
  picked_behind test only row u (r ∷ rs) zs (l, h, inr is) =
      ⊎_elim
      (λ (e : test r ≡ true). absurd (is.0 (only r e)))
      (λ (e : test r ≡ false).
      rw e (behind_last test row l, picked_behind test only row u rs l h, inr (is.0, ap (behind_last test row) is.1)))
      (cases_Bool (test r))

  pub picked_behind_other : (test : Row → Bool) (row : Row) → ¬ (Under row) → (rows zs : List Row) → PickedOf rows zs
      → PickedOf (behind_last test row rows) zs
  picked_behind_other test row away [] zs p = ([], refl, inr (away, p))
  picked_behind_other test row away (r ∷ rs) zs (l, h, is) =
      ⊎_elim
      (λ (e : (test r && not (list_any test rs)) ≡ true). rw e (l, (l, h, inr (away, refl)), is))
      (λ (e : (test r && not (list_any test rs)) ≡ false). rw e (l, picked_behind_other test row away rs l h, is))
      (cases_Bool (test r && not (list_any test rs)))

  -- ---- a row of these texts, and one of others

  domain_under : (row r : Row) → Under row → has_domain_of row r ≡ true → Under r
  domain_under row r u e = subst In (same_text (domain_text row) (domain_text r) e) u

  place_under : (row r : Row) → Under row → has_place_of row r ≡ true → Under r
  place_under row r u e = domain_under row r u (first_and (has_domain_of row r) _ e)

  key_under : (row r : Row) → Under row → has_key_of row r ≡ true → Under r
  key_under row r u e = place_under row r u (first_and (has_place_of row r) _ e)

  pub live_under : (now : ℤ) (row r : Row) → Under row → is_live_of now row r ≡ true → Under r
  live_under now row r u e = key_under row r u (first_and (has_key_of row r) _ e)

  key_text : (row r : Row) → has_key_of row r ≡ true → domain_text row ≡ domain_text r
  key_text row r e =
      same_text (domain_text row) (domain_text r)
      (first_and (has_domain_of row r) _ (first_and (has_place_of row r) _ e))

  key_other : (row r : Row) → ¬ (Under row) → Under r → has_key_of row r ≡ false
  key_other row r away u =
      ⊎_elim
      (λ (e : has_key_of row r ≡ true). absurd (away (subst In (sym (key_text row r e)) u)))
      (λ (e : has_key_of row r ≡ false). e)
      (cases_Bool (has_key_of row r))

  picked_inserted : (row : Row) → Under row → (rows zs : List Row) → PickedOf rows zs
      → PickedOf (inserted row rows) (inserted row zs)
  picked_inserted row u rows zs p =
      subst (λ b. PickedOf (inserted row rows)
      (cond b (behind_last (has_place_of row) row zs) (behind_last (has_domain_of row) row zs)))
      (any_picked (has_place_of row) (λ r e. place_under row r u e) rows zs p)
      (⊎_elim
      (λ (e : list_any (has_place_of row) rows ≡ true).
      rw e (picked_behind (has_place_of row) (λ r e. place_under row r u e) row u rows zs p))
      (λ (e : list_any (has_place_of row) rows ≡ false).
      rw e (picked_behind (has_domain_of row) (λ r e. domain_under row r u e) row u rows zs p))
      (cases_Bool (list_any (has_place_of row) rows)))

  picked_inserted_other : (row : Row) → ¬ (Under row) → (rows zs : List Row) → PickedOf rows zs
      → PickedOf (inserted row rows) zs
  picked_inserted_other row away rows zs p =
      ⊎_elim
      (λ (e : list_any (has_place_of row) rows ≡ true).
      rw e (picked_behind_other (has_place_of row) row away rows zs p))
      (λ (e : list_any (has_place_of row) rows ≡ false).
      rw e (picked_behind_other (has_domain_of row) row away rows zs p))
      (cases_Bool (list_any (has_place_of row) rows))

  picked_put : (row : Row) → Under row → (rows zs : List Row) → PickedOf rows zs → PickedOf (put row rows) (put row zs)
  picked_put row u rows zs p =
      subst (λ b. PickedOf (put row rows) (cond b (map (λ r. cond (has_key_of row r) row r) zs) (inserted row zs)))
      (any_picked (has_key_of row) (λ r e. key_under row r u e) rows zs p)
      (⊎_elim
      (λ (e : list_any (has_key_of row) rows ≡ true).
      rw e (picked_map (λ r. cond (has_key_of row r) row r) (replaced_domain row) rows zs p))
      (λ (e : list_any (has_key_of row) rows ≡ false). rw e (picked_inserted row u rows zs p))
      (cases_Bool (list_any (has_key_of row) rows)))

  picked_put_other : (row : Row) → ¬ (Under row) → (rows zs : List Row) → PickedOf rows zs → PickedOf (put row rows) zs
  picked_put_other row away rows zs p =
      ⊎_elim
      (λ (e : list_any (has_key_of row) rows ≡ true).
      rw e (picked_map_other (λ r. cond (has_key_of row r) row r) (replaced_domain row)
      (λ r u. ap (λ b. cond b row r) (key_other row r away u)) rows zs p))
      (λ (e : list_any (has_key_of row) rows ≡ false). rw e (picked_inserted_other row away rows zs p))
      (cases_Bool (list_any (has_key_of row) rows))

  pub picked_settled : (now : ℤ) (row : Row) → Under row → (rows zs : List Row) → PickedOf rows zs
      → PickedOf (settled rows now row).1 (settled zs now row).1
  picked_settled now row u rows zs p =
      ⊎_elim
      (λ (d : is_dead now row.death ≡ true).
      let any : list_any (is_live_of now row) rows ≡ list_any (is_live_of now row) zs =
      any_picked (is_live_of now row) (λ r e. live_under now row r u e) rows zs p in
      ⊎_elim
      (λ (e : list_any (is_live_of now row) rows ≡ true). rw (d, e, sym any ∙ e)
      (picked_map (λ r. cond (is_live_of now row r) (at_epoch r) r)
      (λ r. epoch_domain (is_live_of now row r) r) rows zs p))
      (λ (e : list_any (is_live_of now row) rows ≡ false). rw (d, e, sym any ∙ e) p)
      (cases_Bool (list_any (is_live_of now row) rows)))
      (λ (d : is_dead now row.death ≡ false). rw d (picked_put row u rows zs p))
      (cases_Bool (is_dead now row.death))

  pub picked_settled_other : (now : ℤ) (row : Row) → ¬ (Under row) → (rows zs : List Row) → PickedOf rows zs
      → PickedOf (settled rows now row).1 zs
  picked_settled_other now row away rows zs p =
      ⊎_elim
      (λ (d : is_dead now row.death ≡ true).
      ⊎_elim
      (λ (e : list_any (is_live_of now row) rows ≡ true). rw (d, e)
      (picked_map_other (λ r. cond (is_live_of now row r) (at_epoch r) r)
      (λ r. epoch_domain (is_live_of now row r) r)
      (λ r u. ap (λ b. cond (b && not (is_dead now r.death)) (at_epoch r) r) (key_other row r away u)) rows zs p))
      (λ (e : list_any (is_live_of now row) rows ≡ false). rw (d, e) p)
      (cases_Bool (list_any (is_live_of now row) rows)))
      (λ (d : is_dead now row.death ≡ false). rw d (picked_put_other row away rows zs p))
      (cases_Bool (is_dead now row.death))

  -- ---- what is kept

  pub picked_filter : (test : Row → Bool) (rows zs : List Row) → PickedOf rows zs
      → PickedOf (filter test rows) (filter test zs)
  picked_filter test [] zs p = ap (filter test) p
  picked_filter test (r ∷ rs) zs (l, h, inl is) = by (test r) refl (picked_filter test rs l h)
    where
      by : (b : Bool) → test r ≡ b → PickedOf (filter test rs) (filter test l)
          → PickedOf (filter test (r ∷ rs)) (filter test zs)
      by true e rest = subst (λ x. PickedOf (filter test (r ∷ rs)) (filter test x)) (sym is.1)
          (rw e (filter test l, rest, inl (is.0, refl)))
      by false e rest = subst (λ x. PickedOf (filter test (r ∷ rs)) (filter test x)) (sym is.1) (rw e rest)
  picked_filter test (r ∷ rs) zs (l, h, inr is) = by (test r) refl (picked_filter test rs l h)
    where
      by : (b : Bool) → test r ≡ b → PickedOf (filter test rs) (filter test l)
          → PickedOf (filter test (r ∷ rs)) (filter test zs)
      by true e rest = rw e (filter test l, rest, inr (is.0, ap (filter test) is.1))
      by false e rest = rw e (subst (PickedOf (filter test rs)) (ap (filter test) (sym is.1)) rest)

  same_domain : (r x : Row) → IsReread r x → domain_text x ≡ domain_text r
  same_domain r x h = ap text_or_empty h.domain

  picked_reread : (rows zs read : List Row) → PickedOf rows zs → Pairwise IsReread rows read
      → (few : List Row) × Pairwise IsReread zs few × PickedOf read few
  picked_reread [] zs [] p w = ([], subst (λ x. Pairwise IsReread x []) (sym p) tt, refl)
  picked_reread [] zs (x ∷ xs) p w = absurd w
  picked_reread (r ∷ rs) zs [] p w = absurd w
  picked_reread (r ∷ rs) zs (x ∷ xs) (l, h, inl is) w =
      let rest = picked_reread rs l xs h w.1 in (
        x ∷ rest.0,
        subst (λ y. Pairwise IsReread y (x ∷ rest.0)) (sym is.1) (w.0, rest.1),
        (rest.0, rest.2, inl (subst In (sym (same_domain r x w.0)) is.0, refl)),
      )
  picked_reread (r ∷ rs) zs (x ∷ xs) (l, h, inr is) w =
      let rest = picked_reread rs l xs h w.1 in (
        rest.0,
        subst (λ y. Pairwise IsReread y rest.0) (sym is.1) rest.1,
        (rest.0, rest.2, inr ((λ u. is.0 (subst In (same_domain r x w.0) u)), refl)),
      )

  pub picked_kept : (saving loading : ℤ) (rows zs kept : List Row) → PickedOf rows zs → Keeps rows saving loading kept
      → (few : List Row) × Keeps zs saving loading few × PickedOf kept few
  picked_kept saving loading rows zs kept p k =
      let read = picked_reread (saved saving rows) (saved saving zs) k.read
      (picked_filter (is_saved saving) rows zs p) k.reread in (
        live loading read.0,
        record { read = read.0; reread = read.1; lives = refl },
        subst (λ x. PickedOf x (live loading read.0)) (sym k.lives)
            (picked_filter (is_live loading) k.read read.0 read.2),
      )

  -- ---- what is picked of what is picked

  pub picked_inner : (Is : Row → Type 0) → (rows zs given : List Row) → AllByRecursion (λ r. Is r → Under r) rows
      → PickedOf rows zs → ArePicked Is rows given → ArePicked Is zs given
  picked_inner Is [] zs given all p g = subst (λ x. ArePicked Is x given) (sym p) g
  picked_inner Is (r ∷ rs) zs given all (l, h, inl is) (m, g, so) =
      subst (λ x. ArePicked Is x given) (sym is.1) (m, picked_inner Is rs l m all.1 h g, so)
  picked_inner Is (r ∷ rs) zs given all (l, h, inr is) (m, g, inl so) = absurd (is.0 (all.0 so.0))
  picked_inner Is (r ∷ rs) zs given all (l, h, inr is) (m, g, inr so) =
      subst (λ x. ArePicked Is x given) (sym is.1)
      (subst (λ x. ArePicked Is l x) (sym so.1) (picked_inner Is rs l m all.1 h g))
