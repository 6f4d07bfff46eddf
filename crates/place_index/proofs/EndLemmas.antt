-- Where a row more goes: behind the last of its part.
use Rattle.std.proofs.Common.{◌≡◌, ◌+◌, ◌-◌, ◌<◌, ◌&&◌, ◌||◌, ℕ, Bool, true, false, List, [], ◌∷◌, length, refl}
use Rattle.std.proofs.Common.{sym, ap, subst, ◌∙◌, arith, zero, suc, if◌then◌else◌, not}
use Rattle.std.specs.Prelude.{Some, None, slice_get}
use Rattle.std.specs.List.{list_any}
use Rattle.std.specs.Str.{bytes_eq}
use Rattle.std.proofs.lemmas.Bool.{or_left, or_right}
use Rattle.std.proofs.lemmas.Option.{none-some, same_Some}
use Rattle.place_index.specs.Entries.{value_at}
use Rattle.place_index.specs.Index.{Index, PartsAgree, IsPart, IsNowhere, DomainAgrees, PathAgrees}
use Rattle.place_index.specs.Index.{BeginsPath, GrowsPath}
use Rattle.place_index.specs.Places.{Place, is_at, is_of}
use Rattle.place_index.specs.Putting.{end_of, end_at}
use Rattle.place_index.proofs.PartLemmas.{is_there}

module _ {A : Type 0} (test : A → Bool) where
  pub any_at : (xs : List A) (i : ℕ) (x : A) → slice_get xs i ≡ Some x → test x ≡ true → list_any test xs ≡ true
  any_at [] i x at passes = absurd (none-some x at)
  any_at (y ∷ ys) zero x at passes =
      or_left (test y) (list_any test ys) (ap test (same_Some y x at) ∙ passes)
  any_at (y ∷ ys) (suc i) x at passes = or_right (test y) (list_any test ys) (any_at ys i x at passes)

  pub none_any : (xs : List A) → IsNowhere test xs → list_any test xs ≡ false
  none_any [] none = refl
  none_any (y ∷ ys) none =
      (λ i. none zero y refl i || none_any ys (λ j x e. none (suc j) x e) i)

  end_step : (y : A) (ys : List A) (a b : Bool) → test y ≡ a → list_any test ys ≡ b
      → end_of test (y ∷ ys) ≡ (if a && not b then 1 else suc (end_of test ys))
  end_step y ys a b e f = (λ i. if e i && not (f i) then 1 else suc (end_of test ys))

  last_end : (xs : List A) (n : ℕ) (x : A) → slice_get xs n ≡ Some x → test x ≡ true
      → ((i : ℕ) (y : A) → n < i → slice_get xs i ≡ Some y → test y ≡ false) → end_of test xs ≡ suc n
  last_end [] n x at passes after = absurd (none-some x at)
  last_end (y ∷ ys) zero x at passes after =
      end_step y ys true false (ap test (same_Some y x at) ∙ passes)
      (none_any ys (λ i z e. after (suc i) z (omega arith) e))
  last_end (y ∷ ys) (suc n) x at passes after =
      end_step y ys (test y) true refl (any_at ys n x at passes) ∙ either (test y)
      ∙ ap suc (last_end ys n x at passes (λ i z l e. after (suc i) z (omega (arith, l)) e))
    where
      either : (b : Bool) → (if b && not true then 1 else suc (end_of test ys)) ≡ suc (end_of test ys)
      either true = refl
      either false = refl

  pub end_of_part : (xs : List A) (start len : ℕ) → IsPart test xs start len → end_of test xs ≡ start + len
  end_of_part xs start len part =
      let some = part.some in
      let within = part.within in
      let x = is_there xs (start + len - 1) (omega (arith, some, within)) in
      let e = last_end xs (start + len - 1) x.0 x.1
      (part.inside (start + len - 1) x.0 (omega (arith, some)) (omega (arith, some)) x.1)
      (λ i y l at. part.after i y (omega (arith, some, l)) at) in
      e ∙ omega (arith, some)

  pub any_of_part : (xs : List A) (start len : ℕ) → IsPart test xs start len → list_any test xs ≡ true
  any_of_part xs start len part =
      let some = part.some in
      let within = part.within in
      let x = is_there xs start (omega (arith, some, within)) in
      any_at xs start x.0 x.1 (part.inside start x.0 (omega arith) (omega (arith, some)) x.1)

  pub end_of_none : (xs : List A) → IsNowhere test xs → end_of test xs ≡ length xs
  end_of_none [] none = refl
  end_of_none (y ∷ ys) none =
      end_step y ys false (list_any test ys) (none zero y refl) refl
      ∙ ap suc (end_of_none ys (λ j x e. none (suc j) x e))

module _ (row : Place) (rows : List Place) where
  end_step_at : (b : Bool) → list_any (is_at row.domain row.path) rows ≡ b
      → end_at row rows ≡ (if b then end_of (is_at row.domain row.path) rows else end_of (is_of row.domain) rows)
  end_step_at b e =
      (λ i. if e i then end_of (is_at row.domain row.path) rows else end_of (is_of row.domain) rows)

  pub end_new : (old : Index) → PartsAgree rows old → value_at row.domain old ≡ None → end_at row rows ≡ length rows
  end_new old agrees absent =
      end_step_at false
      (none_any (is_at row.domain row.path) rows (λ i x e. not_at i x (is_foreign i x e)))
      ∙ end_of_none (is_of row.domain) rows is_foreign
    where
      is_foreign : IsNowhere (is_of row.domain) rows
      is_foreign = subst (DomainAgrees rows row.domain) absent (agrees row.domain)

      not_at : (i : ℕ) (x : Place) → is_of row.domain x ≡ false → is_at row.domain row.path x ≡ false
      not_at i x e = ap (λ b. b && bytes_eq row.path x.path) e

  pub end_path : (p : ℕ) (old new : Index) → PartsAgree rows old → BeginsPath row p old new → p ≡ end_at row rows
  end_path p old new agrees b =
      b.at
      ∙ sym (end_step_at false
      (none_any (is_at row.domain row.path) rows
      (subst (PathAgrees rows row.domain b.part.start row.path) b.absent (own.1 row.path)))
      ∙ end_of_part (is_of row.domain) rows b.part.start b.part.len own.0)
    where
      own : DomainAgrees rows row.domain (Some b.part)
      own = subst (DomainAgrees rows row.domain) b.there (agrees row.domain)

  pub end_row : (p : ℕ) (old new : Index) → PartsAgree rows old → GrowsPath row p old new → p ≡ end_at row rows
  end_row p old new agrees g =
      let n : p ≡ g.part.start + g.path.start + g.path.len = (let at = g.at in omega (arith, at)) in
      n ∙ sym (end_step_at true (any_of_part (is_at row.domain row.path) rows _ _ path)
      ∙ end_of_part (is_at row.domain row.path) rows (g.part.start + g.path.start) g.path.len path)
    where
      own : DomainAgrees rows row.domain (Some g.part)
      own = subst (DomainAgrees rows row.domain) g.there (agrees row.domain)

      path : IsPart (is_at row.domain row.path) rows (g.part.start + g.path.start) g.path.len
      path = subst (PathAgrees rows row.domain g.part.start row.path) g.path_there (own.1 row.path)
