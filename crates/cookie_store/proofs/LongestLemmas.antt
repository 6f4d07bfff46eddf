-- Longer paths first: there is one order, one alone, and a stable sort by the lengths gives it.
use Rattle.std.proofs.Common.{◌≡◌, ◌⊎◌, ◌≤◌, ◌<◌, ℕ, suc, Bool, true, false, cond, List, [], ◌∷◌, length, map, drop}
use Rattle.std.proofs.Common.{sym}
use Rattle.std.proofs.Common.{refl, ap, ◌∙◌, subst, ⊎_elim, inl, inr, arith}
use Rattle.std.proofs.Common.{get_or, IsSortedBy, IsPermutation}
use Rattle.std.specs.Borrow.{Bor}
use Rattle.std.specs.List.{AllByRecursion}
use Rattle.std.specs.List.Sorted.{IsStableBy, ties}
use Rattle.std.specs.Cmp.{IsStrictWeakOrder}
use Rattle.std.specs.Prelude.{nat_lt, filter, not, ◌&&◌}
use Rattle.std.proofs.lemmas.Bool.{cases_Bool, cond-true, cond-false, both_ways, true≢false, ltb-false, ltb-true}
use Rattle.std.proofs.lemmas.Bool.{eq-eqb, eqb-true, ne_eqb, lt-ltb, le-ltb}
use Rattle.std.proofs.lemmas.List.MinMax.{IsStrictWeakOrder-flip, IsStrictWeakOrder-by_number}
use Rattle.std.proofs.lemmas.List.Sorted.{IsPermutation-refl, IsPermutation-sym, IsPermutation-trans}
use Rattle.std.proofs.lemmas.List.Sorted.{IsPermutation-cons}
use Rattle.std.proofs.lemmas.List.Sorted.{IsPermutation-middle, IsPermutation-map, sorted_far}
use Rattle.std.proofs.Math.Dec.{ltb}
use Rattle.cookie_store.specs.Given.{lent_row}
use Rattle.cookie_store.specs.Longest.{path_length, has_length, LengthsFall, AreLongestFirst}
use Rattle.cookie_store.specs.Rows.{Row}
use Rattle.cookie_store.specs.declared.stored_cookie.Cookie.{Cookie}

has_own : (n : ℕ) (row : Row) → path_length row ≡ n → has_length n row ≡ true
has_own n row e = eq-eqb (path_length row) n e

-- ---- the order is one

-- what a filter leaves stands in the list
inside : (P : Row → Type 0) (test : Row → Bool) (rows : List Row) (row : Row) (rest : List Row)
    → filter test rows ≡ row ∷ rest → AllByRecursion P rows → P row
inside P test [] row rest e all = absurd (let wrong : 0 ≡ suc (length rest) = ap length e in omega (arith, wrong))
inside P test (first ∷ rows) row rest e all = by (test first) e (λ same. inside P test rows row rest same all.1)
  where
    by : (b : Bool) → cond b (first ∷ filter test rows) (filter test rows) ≡ row ∷ rest
        → (filter test rows ≡ row ∷ rest → P row) → P row
    by true same later = subst P (ap (λ xs. get_or xs 0 first) same) all.0
    by false same later = later same

kept_first : (n : ℕ) (row : Row) (rows : List Row) → path_length row ≡ n
    → filter (has_length n) (row ∷ rows) ≡ row ∷ filter (has_length n) rows
kept_first n row rows e = cond-true _ _ _ (has_own n row e)

-- a row that stands behind the first is no longer
at_most : (n : ℕ) (row : Row) (rest : List Row) (first : Row) (rows : List Row) → LengthsFall (first ∷ rows)
    → filter (has_length n) (first ∷ rows) ≡ row ∷ rest → path_length row ≤ path_length first
at_most n row rest first rows fall e =
    inside (λ later. path_length later ≤ path_length first) (has_length n) (first ∷ rows) row rest e
    (omega arith, fall.0)

same_rest : (b : Bool) (row other : Row) (xs ys : List Row) → cond b (row ∷ xs) xs ≡ cond b (other ∷ ys) ys → xs ≡ ys
same_rest true row other xs ys e = ap (λ l. drop 1 l) e
same_rest false row other xs ys e = e

pub told_by_lengths : (xs ys : List Row) → LengthsFall xs → LengthsFall ys
    → ((n : ℕ) → filter (has_length n) xs ≡ filter (has_length n) ys) → xs ≡ ys
told_by_lengths [] [] a b h = refl
told_by_lengths [] (y ∷ ys) a b h =
    absurd (let wrong : 0 ≡ suc (length (filter (has_length (path_length y)) ys)) = ap length
    (h (path_length y) ∙ kept_first (path_length y) y ys refl) in omega (arith, wrong))
told_by_lengths (x ∷ xs) [] a b h =
    absurd (let wrong : 0 ≡ suc (length (filter (has_length (path_length x)) xs)) = ap length
    (sym (h (path_length x)) ∙ kept_first (path_length x) x xs refl) in omega (arith, wrong))
told_by_lengths (x ∷ xs) (y ∷ ys) a b h =
    let n = path_length x in
    let below : path_length x ≤ path_length y = at_most n x (filter (has_length n) xs) y ys b
    (sym (h n) ∙ kept_first n x xs refl) in
    let above : path_length y ≤ path_length x = at_most (path_length y) y (filter (has_length (path_length y)) ys) x xs
    a
    (h (path_length y) ∙ kept_first (path_length y) y ys refl) in
    let same : path_length y ≡ path_length x = omega (arith, below, above) in
    let both : x ∷ filter (has_length n) xs ≡ y ∷ filter (has_length n) ys =
    sym (kept_first n x xs refl) ∙ (h n ∙ kept_first n y ys same) in
    let first : x ≡ y = ap (λ l. get_or l 0 x) both in
    let rest : xs ≡ ys = told_by_lengths xs ys a.1 b.1
    (λ m. same_rest (has_length m x) x y (filter (has_length m) xs) (filter (has_length m) ys)
    (h m ∙ ap (λ z. cond (has_length m z) (y ∷ filter (has_length m) ys) (filter (has_length m) ys)) (sym first))) in
    ap (λ z. z ∷ xs) first ∙ ap (λ zs. y ∷ zs) rest

pub one_order : (rows a b : List Row) → AreLongestFirst rows a → AreLongestFirst rows b → a ≡ b
one_order rows a b f g = told_by_lengths a b f.fall g.fall (λ n. f.stable n ∙ sym (g.stable n))

-- ---- there is one: each row put before the first whose path isn't longer than its own

abbrev placed : Row → List Row → List Row
placed row [] = row ∷ []
placed row (other ∷ rows) =
    cond (ltb (path_length row) (path_length other)) (other ∷ placed row rows) (row ∷ other ∷ rows)

all_placed : (P : Row → Type 0) (row : Row) (rows : List Row) → P row → AllByRecursion P rows
    → AllByRecursion P (placed row rows)
all_placed P row [] h all = (h, tt)
all_placed P row (other ∷ rows) h all =
    by (ltb (path_length row) (path_length other)) (all_placed P row rows h all.1)
  where
    by : (b : Bool) → AllByRecursion P (placed row rows)
        → AllByRecursion P (cond b (other ∷ placed row rows) (row ∷ other ∷ rows))
    by true rest = (all.0, rest)
    by false rest = (h, all)

placed_permutes : (row : Row) (rows : List Row) → IsPermutation (row ∷ rows) (placed row rows)
placed_permutes row [] = IsPermutation-refl (row ∷ [])
placed_permutes row (other ∷ rows) =
    by (ltb (path_length row) (path_length other)) (placed_permutes row rows)
  where
    by : (b : Bool) → IsPermutation (row ∷ rows) (placed row rows)
        → IsPermutation (row ∷ other ∷ rows) (cond b (other ∷ placed row rows) (row ∷ other ∷ rows))
    by true rest =
        IsPermutation-trans (row ∷ other ∷ rows) (other ∷ row ∷ rows) (other ∷ placed row rows)
        (IsPermutation-sym (other ∷ row ∷ rows) (row ∷ other ∷ rows) (IsPermutation-middle (other ∷ []) row rows))
        (IsPermutation-cons other (row ∷ rows) (placed row rows) rest)
    by false rest = IsPermutation-refl (row ∷ other ∷ rows)

lower : (m n : ℕ) → m ≤ n → (rows : List Row) → AllByRecursion (λ row. path_length row ≤ m) rows
    → AllByRecursion (λ row. path_length row ≤ n) rows
lower m n le [] all = tt
lower m n le (row ∷ rows) all = (omega (arith, le, all.0), lower m n le rows all.1)

placed_falls : (row : Row) (rows : List Row) → LengthsFall rows → LengthsFall (placed row rows)
placed_falls row [] fall = (tt, tt)
placed_falls row (other ∷ rows) fall =
    ⊎_elim
    (λ (e : ltb (path_length row) (path_length other) ≡ true).
    let shorter = ltb-true (path_length row) (path_length other) e in
    subst LengthsFall (sym (cond-true _ _ _ e)) (
      all_placed (λ later. path_length later ≤ path_length other) row rows (omega (arith, shorter)) fall.0,
      placed_falls row rows fall.1,
    ))
    (λ (e : ltb (path_length row) (path_length other) ≡ false).
    let longer = ltb-false (path_length row) (path_length other) e in
    subst LengthsFall (sym (cond-false _ _ _ e))
    ((longer, lower (path_length other) (path_length row) longer rows fall.0), fall))
    (cases_Bool (ltb (path_length row) (path_length other)))

passed : (p q : Bool) (row other : Row) (rows front : List Row) → front ≡ cond p (row ∷ rows) rows
    → (p ≡ true → q ≡ false)
    → cond q (other ∷ front) front ≡ cond p (row ∷ cond q (other ∷ rows) rows) (cond q (other ∷ rows) rows)
passed true true row other rows front e apart = absurd (true≢false (apart refl))
passed true false row other rows front e apart = e
passed false q row other rows front e apart = ap (λ l. cond q (other ∷ l) l) e

placed_keeps : (n : ℕ) (row : Row) (rows : List Row)
    → filter (has_length n) (placed row rows) ≡ filter (has_length n) (row ∷ rows)
placed_keeps n row [] = refl
placed_keeps n row (other ∷ rows) =
    ⊎_elim
    (λ (e : ltb (path_length row) (path_length other) ≡ true).
    ap (filter (has_length n)) (cond-true _ _ _ e)
    ∙ passed (has_length n row) (has_length n other) row other (filter (has_length n) rows)
    (filter (has_length n) (placed row rows)) (placed_keeps n row rows)
    (λ is. ne_eqb (path_length other) n (λ both. absurd
    (let shorter = ltb-true (path_length row) (path_length other) e in
    let here = eqb-true (path_length row) n is in omega (arith, shorter, here, both)))))
    (λ (e : ltb (path_length row) (path_length other) ≡ false). ap (filter (has_length n)) (cond-false _ _ _ e))
    (cases_Bool (ltb (path_length row) (path_length other)))

abbrev longest : List Row → List Row
longest [] = []
longest (row ∷ rows) = placed row (longest rows)

permutes : (rows : List Row) → IsPermutation rows (longest rows)
permutes [] = IsPermutation-refl []
permutes (row ∷ rows) =
    IsPermutation-trans (row ∷ rows) (row ∷ longest rows) (placed row (longest rows))
    (IsPermutation-cons row rows (longest rows) (permutes rows)) (placed_permutes row (longest rows))

falls : (rows : List Row) → LengthsFall (longest rows)
falls [] = tt
falls (row ∷ rows) = placed_falls row (longest rows) (falls rows)

keeps : (n : ℕ) (rows : List Row) → filter (has_length n) (longest rows) ≡ filter (has_length n) rows
keeps n [] = refl
keeps n (row ∷ rows) =
    placed_keeps n row (longest rows)
    ∙ ap (λ l. cond (has_length n row) (row ∷ l) l) (keeps n rows)

pub an_order : (rows : List Row) → (ordered : List Row) × AreLongestFirst rows ordered
an_order rows = (longest rows, record { permutation = permutes rows; fall = falls rows; stable = λ n. keeps n rows })

-- ---- a stable sort by the lengths gives it

abbrev pub comes_first : Bor Cookie → Bor Cookie → Bool
comes_first one other = ltb (path_length (lent_row other)) (path_length (lent_row one))

pub comes_in_order : IsStrictWeakOrder comes_first
comes_in_order =
    IsStrictWeakOrder-flip
    (λ (x : Bor Cookie) (y : Bor Cookie). ltb (path_length (lent_row x)) (path_length (lent_row y)))
    (IsStrictWeakOrder-by_number (λ (c : Bor Cookie). path_length (lent_row c)))

none_longer : (one : Bor Cookie) (items : List (Bor Cookie))
    → ((i : ℕ) (d : Bor Cookie) → i < length items → comes_first (get_or items i d) one ≡ false)
    → AllByRecursion (λ later. path_length later ≤ path_length (lent_row one)) (map lent_row items)
none_longer one [] h = tt
none_longer one (c ∷ items) h = (
  ltb-false (path_length (lent_row one)) (path_length (lent_row c)) (h 0 c (omega arith)),
  none_longer one items (λ i d below. h (suc i) d (omega (arith, below))),
)

sorted_falls : (items : List (Bor Cookie))
    → ((i j : ℕ) (d : Bor Cookie) → i ≤ j → j < length items
    → comes_first (get_or items j d) (get_or items i d) ≡ false)
    → LengthsFall (map lent_row items)
sorted_falls [] up = tt
sorted_falls (c ∷ items) up = (
  none_longer c items (λ i d below. up 0 (suc i) d (omega arith) (omega (arith, below))),
  sorted_falls items (λ i j d le below. up (suc i) (suc j) d (omega (arith, le)) (omega (arith, below))),
)

-- of one length are those that tie with one of that length
ties_are : (n : ℕ) (one other : Bor Cookie) → path_length (lent_row one) ≡ n
    → ties comes_first one other ≡ has_length n (lent_row other)
ties_are n one other e =
    ⊎_elim
    (λ (is : has_length n (lent_row other) ≡ true).
    let same = eqb-true (path_length (lent_row other)) n is in
    rw (
      le-ltb (path_length (lent_row other)) (path_length (lent_row one)) (omega (arith, same, e)),
      le-ltb (path_length (lent_row one)) (path_length (lent_row other)) (omega (arith, same, e)),
      is,
    ) refl)
    (λ (is : has_length n (lent_row other) ≡ false). apart is)
    (cases_Bool (has_length n (lent_row other)))
  where
    apart : has_length n (lent_row other) ≡ false → ties comes_first one other ≡ has_length n (lent_row other)
    apart is =
        ⊎_elim
        (λ (less : comes_first one other ≡ true). rw (less, is) refl)
        (λ (no : comes_first one other ≡ false).
        ⊎_elim
        (λ (more : comes_first other one ≡ true). rw (no, more, is) refl)
        (λ (neither : comes_first other one ≡ false).
        let a = ltb-false (path_length (lent_row other)) (path_length (lent_row one)) no in
        let b = ltb-false (path_length (lent_row one)) (path_length (lent_row other)) neither in
        absurd (both_ways _ is (has_own n (lent_row other) (omega (arith, a, b, e)))))
        (cases_Bool (comes_first other one)))
        (cases_Bool (comes_first one other))

shown_of_length : (n : ℕ) (one : Bor Cookie) (items : List (Bor Cookie)) → path_length (lent_row one) ≡ n
    → filter (has_length n) (map lent_row items) ≡ map lent_row (filter (ties comes_first one) items)
shown_of_length n one [] e = refl
shown_of_length n one (c ∷ items) e =
    ap
    (λ b. cond b (lent_row c ∷ filter (has_length n) (map lent_row items)) (filter (has_length n) (map lent_row items)))
    (sym (ties_are n one c e)) ∙ by (ties comes_first one c) (shown_of_length n one items e)
  where
    by : (b : Bool)
        → filter (has_length n) (map lent_row items) ≡ map lent_row (filter (ties comes_first one) items)
        → cond b (lent_row c ∷ filter (has_length n) (map lent_row items)) (filter (has_length n) (map lent_row items))
        ≡ map lent_row (cond b (c ∷ filter (ties comes_first one) items) (filter (ties comes_first one) items))
    by true rest = ap (λ l. lent_row c ∷ l) rest
    by false rest = rest

-- a list has a cookie of a length, or none
abbrev HasOne : ℕ → List (Bor Cookie) → Type 0
HasOne n items =
    ((one : Bor Cookie) × (path_length (lent_row one) ≡ n)) ⊎ (filter (has_length n) (map lent_row items) ≡ [])

has_one : (n : ℕ) (items : List (Bor Cookie)) → HasOne n items
has_one n [] = inr refl
has_one n (c ∷ items) =
    ⊎_elim
    (λ (is : has_length n (lent_row c) ≡ true). inl (c, eqb-true (path_length (lent_row c)) n is))
    (λ (is : has_length n (lent_row c) ≡ false). later is (has_one n items))
    (cases_Bool (has_length n (lent_row c)))
  where
    later : has_length n (lent_row c) ≡ false → HasOne n items → HasOne n (c ∷ items)
    later is (inl one) = inl one
    later is (inr none) = inr (cond-false _ _ _ is ∙ none)

sorted_stable : (old new : List (Bor Cookie)) → IsStableBy comes_first old new → (n : ℕ)
    → filter (has_length n) (map lent_row new) ≡ filter (has_length n) (map lent_row old)
sorted_stable old new stable n = by (has_one n old) (has_one n new)
  where
    through : (one : Bor Cookie) → path_length (lent_row one) ≡ n
        → filter (has_length n) (map lent_row new) ≡ filter (has_length n) (map lent_row old)
    through one e =
        shown_of_length n one new e ∙ (ap (map lent_row) (stable one) ∙ sym (shown_of_length n one old e))

    by : HasOne n old → HasOne n new
        → filter (has_length n) (map lent_row new) ≡ filter (has_length n) (map lent_row old)
    by (inl one) other = through one.0 one.1
    by (inr none) (inl one) = through one.0 one.1
    by (inr none) (inr gone) = gone ∙ sym none

pub sorted_longest : (old new : List (Bor Cookie)) → IsPermutation old new → IsSortedBy comes_first new
    → IsStableBy comes_first old new → AreLongestFirst (map lent_row old) (map lent_row new)
sorted_longest old new moved sorted stable = record {
  permutation = IsPermutation-map lent_row old new moved;
  fall = sorted_falls new (sorted_far comes_first comes_in_order new sorted);
  stable = sorted_stable old new stable;
}
