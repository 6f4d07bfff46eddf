-- Where a row goes, and what a list is to a test that no element of it passes.
use Rattle.std.proofs.Common.{◌≡◌, Bool, true, false, cond, not, ◌&&◌, ◌||◌, List, [], ◌∷◌, ◌++◌, filter, refl, sym, ap}
use Rattle.std.proofs.Common.{◌∙◌, true≢false}
use Rattle.std.specs.Prelude.{None, if◌then◌else◌}
use Rattle.std.specs.List.{find, list_any, AllByRecursion}
use Rattle.std.specs.Str.{bytes_eq}
use Rattle.std.proofs.lemmas.Bool.{cond-true, cond-false, or_parts, or_from, or_left, or_right, and_left}
use Rattle.std.proofs.lemmas.List.Folds.{list_any-append}
use Rattle.cookie_store.specs.Rows.{Row, Key, has_key, has_place, has_domain, behind_last, put_in_place}

or_false : (b : Bool) → (b || false) ≡ b
or_false true = refl
or_false false = refl

and_false : (b : Bool) → (b && false) ≡ false
and_false true = refl
and_false false = refl

passes_later : (a b : Bool) → (a || b) ≡ true → (a && not b) ≡ false → b ≡ true
passes_later a true any first = refl
passes_later true false any first = absurd (true≢false first)
passes_later false false any first = absurd (true≢false (sym any))

module _ {A : Type 0} where
  -- a test that is no weaker passes no more
  pub none_stricter : (weak strict : A → Bool) → ((y : A) → weak y ≡ false → strict y ≡ false)
      → (ys : List A) → list_any weak ys ≡ false → list_any strict ys ≡ false
  none_stricter weak strict h [] none = refl
  none_stricter weak strict h (y ∷ ys) none =
      let p = or_parts (weak y) (list_any weak ys) none in
      or_from (strict y) (list_any strict ys) (h y p.0) (none_stricter weak strict h ys p.1)

  module _ (test : A → Bool) (x : A) where
    pub put_in_place-none : (ys : List A) → list_any test ys ≡ false → put_in_place test x ys ≡ ys
    put_in_place-none [] none = refl
    put_in_place-none (y ∷ ys) none =
        let p = or_parts (test y) (list_any test ys) none in
        λ i. cond-false (test y) x y p.0 i ∷ put_in_place-none ys p.1 i

    behind_last-front : (front ys : List A) → list_any test ys ≡ true
        → behind_last test x (front ++ ys) ≡ front ++ behind_last test x ys
    behind_last-front [] ys any = refl
    behind_last-front (z ∷ front) ys any =
        let later = list_any-append test front ys ∙ or_right (list_any test front) (list_any test ys) any in
        cond-false (test z && not (list_any test (front ++ ys))) _ _
        ((λ i. test z && not (later i)) ∙ and_false (test z))
        ∙ ap (λ l. z ∷ l) (behind_last-front front ys any)

    behind_last-back : (ys back : List A) → list_any test ys ≡ true → list_any test back ≡ false
        → behind_last test x (ys ++ back) ≡ behind_last test x ys ++ back
    behind_last-back [] back any none = absurd (true≢false (sym any))
    behind_last-back (y ∷ ys) back any none =
        by (test y && not (list_any test ys)) refl (λ e. behind_last-back ys back e none)
      where
        same : list_any test (ys ++ back) ≡ list_any test ys
        same = list_any-append test ys back ∙ ap (λ b. list_any test ys || b) none ∙ or_false (list_any test ys)

        by : (b : Bool) → (test y && not (list_any test ys)) ≡ b
            → (list_any test ys ≡ true → behind_last test x (ys ++ back) ≡ behind_last test x ys ++ back)
            → behind_last test x (y ∷ ys ++ back) ≡ behind_last test x (y ∷ ys) ++ back
        by true e rest =
            cond-true (test y && not (list_any test (ys ++ back))) _ _ ((λ i. test y && not (same i)) ∙ e)
            ∙ sym (ap (λ l. l ++ back) (cond-true (test y && not (list_any test ys)) _ _ e))
        by false e rest =
            cond-false (test y && not (list_any test (ys ++ back))) _ _ ((λ i. test y && not (same i)) ∙ e)
            ∙ ap (λ l. y ∷ l) (rest (passes_later (test y) (list_any test ys) any e))
            ∙ sym (ap (λ l. l ++ back) (cond-false (test y && not (list_any test ys)) _ _ e))

    pub behind_last-within : (front ys back : List A) → list_any test ys ≡ true → list_any test back ≡ false
        → behind_last test x (front ++ (ys ++ back)) ≡ front ++ (behind_last test x ys ++ back)
    behind_last-within front ys back any none =
        behind_last-front front (ys ++ back)
        (list_any-append test ys back ∙ or_left (list_any test ys) (list_any test back) any)
        ∙ ap (λ l. front ++ l) (behind_last-back ys back any none)

    -- where each element passes, x goes last
    pub behind_last-all : (ys : List A) → AllByRecursion (λ y. test y ≡ true) ys
        → behind_last test x ys ≡ ys ++ x ∷ []
    behind_last-all [] all = refl
    behind_last-all (y ∷ []) all = by (test y && true)
      where
        by : (b : Bool) → cond b (y ∷ x ∷ []) (y ∷ x ∷ []) ≡ y ∷ x ∷ []
        by true = refl
        by false = refl
    behind_last-all (y ∷ z ∷ zs) all =
        cond-false (test y && not (list_any test (z ∷ zs))) _ _
        (ap (λ b. test y && not b) (or_left (test z) (list_any test zs) all.1.0) ∙ and_false (test y))
        ∙ ap (λ l. y ∷ l) (behind_last-all (z ∷ zs) all.1)

    -- where none does, too
    pub behind_last-none : (ys : List A) → list_any test ys ≡ false → behind_last test x ys ≡ ys ++ x ∷ []
    behind_last-none [] none = refl
    behind_last-none (y ∷ ys) none =
        let p = or_parts (test y) (list_any test ys) none in
        cond-false (test y && not (list_any test ys)) _ _ (ap (λ b. b && not (list_any test ys)) p.0)
        ∙ ap (λ l. y ∷ l) (behind_last-none ys p.1)

  pub find-none : (test : A → Bool) (ys : List A) → list_any test ys ≡ false → find test ys ≡ None
  find-none test [] none = refl
  find-none test (y ∷ ys) none =
      let p = or_parts (test y) (list_any test ys) none in
      cond-false (test y) _ _ p.0 ∙ find-none test ys p.1

  pub filter-none : (test : A → Bool) (ys : List A) → list_any test ys ≡ false → filter (λ y. not (test y)) ys ≡ ys
  filter-none test [] none = refl
  filter-none test (y ∷ ys) none =
      let p = or_parts (test y) (list_any test ys) none in
      cond-true (not (test y)) _ _ (ap not p.0) ∙ ap (λ l. y ∷ l) (filter-none test ys p.1)

-- ---- rows

-- what `put` answers, at any key
abbrev pub put_by : Key → Row → List Row → List Row
put_by key row rows =
    if list_any (has_key key) rows then put_in_place (has_key key) row rows
    else if list_any (has_place key) rows then behind_last (has_place key) row rows
    else behind_last (has_domain key) row rows

module _ (key : Key) where
  pub no_place : (rows : List Row) → list_any (has_domain key) rows ≡ false → list_any (has_place key) rows ≡ false
  no_place rows none =
      none_stricter (has_domain key) (has_place key)
      (λ r n. and_left (has_domain key r) (bytes_eq key.path r.path.text) n) rows none

  pub no_key : (rows : List Row) → list_any (has_place key) rows ≡ false → list_any (has_key key) rows ≡ false
  no_key rows none =
      none_stricter (has_place key) (has_key key)
      (λ r n. and_left (has_place key r) (bytes_eq key.name r.raw.cookie.name) n) rows none
