-- Parts of a list after an insertion and after a removal.
use Rattle.std.proofs.Common.{◌≡◌, ◌⊎◌, ◌+◌, ◌-◌, ◌<◌, ◌≤◌, ℕ, Bool, true, false, List, [], ◌∷◌, length, refl, sym}
use Rattle.std.proofs.Common.{ap, ◌∙◌, inl, inr, arith, true≢false, zero, suc}
use Rattle.std.proofs.lemmas.Bool.{cases_lt}
use Rattle.std.specs.Prelude.{Some, slice_get}
use Rattle.std.specs.List.{insert, remove}
use Rattle.std.proofs.lemmas.Option.{none-some, same_Some}
use Rattle.place_index.specs.Index.{IsPart, IsNowhere}

module _ {A : Type 0} where
  -- an element of a list with one more: one before it, it, or one after it
  abbrev pub AtInsert : List A → ℕ → A → ℕ → A → Type 0
  AtInsert xs p x i y =
      ((i < p) × (slice_get xs i ≡ Some y)) ⊎ ((i ≡ p) × (x ≡ y))
      ⊎ ((j : ℕ) × (i ≡ suc j) × (p ≤ j) × (slice_get xs j ≡ Some y))

  deeper : (z : A) (zs : List A) (p : ℕ) (x : A) (i : ℕ) (y : A) → AtInsert zs p x i y
      → AtInsert (z ∷ zs) (suc p) x (suc i) y
  deeper z zs p x i y (inl h) = let l = h.0 in inl (omega (arith, l), h.1)
  deeper z zs p x i y (inr (inl h)) = inr (inl (ap suc h.0, h.1))
  deeper z zs p x i y (inr (inr h)) = let l = h.2 in inr (inr (suc h.0, ap suc h.1, omega (arith, l), h.3))

  pub at_insert : (xs : List A) (p : ℕ) (x : A) (i : ℕ) (y : A) → p ≤ length xs
      → slice_get (insert xs p x) i ≡ Some y → AtInsert xs p x i y
  at_insert [] zero x zero y le e = inr (inl (refl, same_Some x y e))
  at_insert [] zero x (suc i) y le e = absurd (none-some y e)
  at_insert [] (suc p) x i y le e = absurd (omega arith)
  at_insert (z ∷ zs) zero x zero y le e = inr (inl (refl, same_Some x y e))
  at_insert (z ∷ zs) zero x (suc i) y le e = inr (inr (i, refl, omega arith, e))
  at_insert (z ∷ zs) (suc p) x zero y le e = inl (omega arith, e)
  at_insert (z ∷ zs) (suc p) x (suc i) y le e = deeper z zs p x i y (at_insert zs p x i y (omega arith) e)

  -- an element of a list with one fewer
  abbrev pub AtRemove : List A → ℕ → ℕ → A → Type 0
  AtRemove xs p i y = ((i < p) × (slice_get xs i ≡ Some y)) ⊎ ((p ≤ i) × (slice_get xs (suc i) ≡ Some y))

  deeper_out : (z : A) (zs : List A) (p i : ℕ) (y : A) → AtRemove zs p i y → AtRemove (z ∷ zs) (suc p) (suc i) y
  deeper_out z zs p i y (inl h) = let l = h.0 in inl (omega (arith, l), h.1)
  deeper_out z zs p i y (inr h) = let l = h.0 in inr (omega (arith, l), h.1)

  pub at_remove : (xs : List A) (p i : ℕ) (y : A) → p < length xs → slice_get (remove xs p) i ≡ Some y
      → AtRemove xs p i y
  at_remove [] p i y l e = absurd (omega arith)
  at_remove (z ∷ zs) zero i y l e = inr (omega arith, e)
  at_remove (z ∷ zs) (suc p) zero y l e = inl (omega arith, e)
  at_remove (z ∷ zs) (suc p) (suc i) y l e = deeper_out z zs p i y (at_remove zs p i y (omega arith) e)

  pub insert-length : (xs : List A) (p : ℕ) (x : A) → p ≤ length xs → length (insert xs p x) ≡ suc (length xs)
  insert-length [] zero x le = refl
  insert-length [] (suc p) x le = absurd (omega arith)
  insert-length (z ∷ zs) zero x le = refl
  insert-length (z ∷ zs) (suc p) x le = ap suc (insert-length zs p x (omega arith))

  pub is_there : (xs : List A) (i : ℕ) → i < length xs → (x : A) × (slice_get xs i ≡ Some x)
  is_there [] i l = absurd (omega arith)
  is_there (x ∷ xs) zero l = (x, refl)
  is_there (x ∷ xs) (suc i) l = is_there xs i (omega arith)

  module _ (test : A → Bool) (xs : List A) (p : ℕ) (x : A) (le : p ≤ length xs) where
    -- x is put in before the part
    pub part_after : (start len : ℕ) → IsPart test xs start len → test x ≡ false → p ≤ start
        → IsPart test (insert xs p x) (suc start) len
    part_after start len part fails low =
        let some = part.some in
        let within = part.within in
        let l = insert-length xs p x le in
        record {
          some = part.some;
          within = omega (arith, within, l);
          before = λ i y b e. before i y b (at_insert xs p x i y le e);
          inside = λ i y a b e. inside i y a b (at_insert xs p x i y le e);
          after = λ i y a e. after i y a (at_insert xs p x i y le e);
        }
      where
        before : (i : ℕ) (y : A) → i < suc start → AtInsert xs p x i y → test y ≡ false
        before i y b (inl h) = let l = h.0 in part.before i y (omega (arith, l, low)) h.1
        before i y b (inr (inl h)) = ap test (sym h.1) ∙ fails
        before i y b (inr (inr h)) = let l = h.1 in part.before h.0 y (omega (arith, l)) h.3

        inside : (i : ℕ) (y : A) → suc start ≤ i → i < suc start + len → AtInsert xs p x i y → test y ≡ true
        inside i y a b (inl h) = let l = h.0 in absurd (omega (arith, l, low))
        inside i y a b (inr (inl h)) = let l = h.0 in absurd (omega (arith, l, low))
        inside i y a b (inr (inr h)) = let l = h.1 in part.inside h.0 y (omega (arith, l)) (omega (arith, l)) h.3

        after : (i : ℕ) (y : A) → suc start + len ≤ i → AtInsert xs p x i y → test y ≡ false
        after i y a (inl h) = let l = h.0 in absurd (omega (arith, l, low))
        after i y a (inr (inl h)) = ap test (sym h.1) ∙ fails
        after i y a (inr (inr h)) = let l = h.1 in part.after h.0 y (omega (arith, l)) h.3

    -- x is put in after the part
    pub part_before : (start len : ℕ) → IsPart test xs start len → test x ≡ false → start + len ≤ p
        → IsPart test (insert xs p x) start len
    part_before start len part fails high =
        let within = part.within in
        let l = insert-length xs p x le in
        record {
          some = part.some;
          within = omega (arith, within, l);
          before = λ i y b e. before i y b (at_insert xs p x i y le e);
          inside = λ i y a b e. inside i y a b (at_insert xs p x i y le e);
          after = λ i y a e. after i y a (at_insert xs p x i y le e);
        }
      where
        before : (i : ℕ) (y : A) → i < start → AtInsert xs p x i y → test y ≡ false
        before i y b (inl h) = part.before i y b h.1
        before i y b (inr (inl h)) = ap test (sym h.1) ∙ fails
        before i y b (inr (inr h)) = let l = h.1 in part.before h.0 y (omega (arith, l)) h.3

        inside : (i : ℕ) (y : A) → start ≤ i → i < start + len → AtInsert xs p x i y → test y ≡ true
        inside i y a b (inl h) = part.inside i y a b h.1
        inside i y a b (inr (inl h)) = let l = h.0 in absurd (omega (arith, l, high))
        inside i y a b (inr (inr h)) = let l = h.1 in let m = h.2 in absurd (omega (arith, l, m, high))

        after : (i : ℕ) (y : A) → start + len ≤ i → AtInsert xs p x i y → test y ≡ false
        after i y a (inl h) = part.after i y a h.1
        after i y a (inr (inl h)) = ap test (sym h.1) ∙ fails
        after i y a (inr (inr h)) = let m = h.2 in part.after h.0 y (omega (arith, m, high)) h.3

    -- x is put in within the part or at one of its ends, and passes
    pub part_grows : (start len : ℕ) → IsPart test xs start len → test x ≡ true → start ≤ p → p ≤ start + len
        → IsPart test (insert xs p x) start (suc len)
    part_grows start len part passes low high =
        let within = part.within in
        let l = insert-length xs p x le in
        record {
          some = omega arith;
          within = omega (arith, within, l);
          before = λ i y b e. before i y b (at_insert xs p x i y le e);
          inside = λ i y a b e. inside i y a b (at_insert xs p x i y le e);
          after = λ i y a e. after i y a (at_insert xs p x i y le e);
        }
      where
        before : (i : ℕ) (y : A) → i < start → AtInsert xs p x i y → test y ≡ false
        before i y b (inl h) = part.before i y b h.1
        before i y b (inr (inl h)) = let l = h.0 in absurd (omega (arith, l, low))
        before i y b (inr (inr h)) = let l = h.1 in let m = h.2 in absurd (omega (arith, l, m, low))

        inside : (i : ℕ) (y : A) → start ≤ i → i < start + suc len → AtInsert xs p x i y → test y ≡ true
        inside i y a b (inl h) = let l = h.0 in part.inside i y a (omega (arith, l, high)) h.1
        inside i y a b (inr (inl h)) = ap test (sym h.1) ∙ passes
        inside i y a b (inr (inr h)) = let l = h.1 in let m = h.2 in part.inside h.0 y (omega (arith, m, low))
            (omega (arith, l)) h.3

        after : (i : ℕ) (y : A) → start + suc len ≤ i → AtInsert xs p x i y → test y ≡ false
        after i y a (inl h) = let l = h.0 in absurd (omega (arith, l, high))
        after i y a (inr (inl h)) = let l = h.0 in absurd (omega (arith, l, high))
        after i y a (inr (inr h)) = let l = h.1 in part.after h.0 y (omega (arith, l)) h.3

    -- no element passed, and x doesn't
    pub nowhere_stays : IsNowhere test xs → test x ≡ false → IsNowhere test (insert xs p x)
    nowhere_stays none fails i y e = by (at_insert xs p x i y le e)
      where
        by : AtInsert xs p x i y → test y ≡ false
        by (inl h) = none i y h.1
        by (inr (inl h)) = ap test (sym h.1) ∙ fails
        by (inr (inr h)) = none h.0 y h.3

    -- no element passed, and x does
    pub part_begins : IsNowhere test xs → test x ≡ true → IsPart test (insert xs p x) p 1
    part_begins none passes =
        let l = insert-length xs p x le in
        record {
          some = omega arith;
          within = omega (arith, l, le);
          before = λ i y b e. before i y b (at_insert xs p x i y le e);
          inside = λ i y a b e. inside i y a b (at_insert xs p x i y le e);
          after = λ i y a e. after i y a (at_insert xs p x i y le e);
        }
      where
        before : (i : ℕ) (y : A) → i < p → AtInsert xs p x i y → test y ≡ false
        before i y b (inl h) = none i y h.1
        before i y b (inr (inl h)) = let l = h.0 in absurd (omega (arith, l))
        before i y b (inr (inr h)) = none h.0 y h.3

        inside : (i : ℕ) (y : A) → p ≤ i → i < p + 1 → AtInsert xs p x i y → test y ≡ true
        inside i y a b (inl h) = let l = h.0 in absurd (omega (arith, l))
        inside i y a b (inr (inl h)) = ap test (sym h.1) ∙ passes
        inside i y a b (inr (inr h)) = let l = h.1 in let m = h.2 in absurd (omega (arith, l, m))

        after : (i : ℕ) (y : A) → p + 1 ≤ i → AtInsert xs p x i y → test y ≡ false
        after i y a (inl h) = none i y h.1
        after i y a (inr (inl h)) = let l = h.0 in absurd (omega (arith, l))
        after i y a (inr (inr h)) = none h.0 y h.3

  -- parts of tests that no element passes both don't cross
  pub apart : (s t : A → Bool) (xs : List A) (a m b n : ℕ) → IsPart s xs a m → IsPart t xs b n
      → ((x : A) → s x ≡ true → t x ≡ false) → (a + m ≤ b) ⊎ (b + n ≤ a + m)
  apart s t xs a m b n p q foreign = by (cases_lt b (a + m)) (cases_lt (a + m) (b + n))
    where
      by : (b < a + m) ⊎ (a + m ≤ b) → (a + m < b + n) ⊎ (b + n ≤ a + m) → (a + m ≤ b) ⊎ (b + n ≤ a + m)
      by (inr h) k = inl h
      by (inl h) (inr k) = inr k
      by (inl h) (inl k) =
          let some = p.some in
          let within = p.within in
          let last = is_there xs (a + m - 1) (omega (arith, some, within)) in
          let in_s = p.inside (a + m - 1) last.0 (omega (arith, some)) (omega (arith, some)) last.1 in
          let in_t = q.inside (a + m - 1) last.0 (omega (arith, some, h)) (omega (arith, some, k)) last.1 in
          absurd (true≢false (sym in_t ∙ foreign last.0 in_s))

  -- the part of a stricter test is in that of the weaker one
  pub nested : (weak strict : A → Bool) (xs : List A) (a m b n : ℕ) → IsPart weak xs a m → IsPart strict xs b n
      → ((x : A) → strict x ≡ true → weak x ≡ true) → (a ≤ b) × (b + n ≤ a + m)
  nested weak strict xs a m b n p q h = (low (cases_lt b a), high (cases_lt (a + m) (b + n)))
    where
      low : (b < a) ⊎ (a ≤ b) → a ≤ b
      low (inr k) = k
      low (inl k) =
          let some = q.some in
          let within = q.within in
          let first = is_there xs b (omega (arith, some, within)) in
          let is = q.inside b first.0 (omega arith) (omega (arith, some)) first.1 in
          absurd (true≢false (sym (h first.0 is) ∙ p.before b first.0 k first.1))

      high : (a + m < b + n) ⊎ (b + n ≤ a + m) → b + n ≤ a + m
      high (inr k) = k
      high (inl k) =
          let some = q.some in
          let within = q.within in
          let last = is_there xs (b + n - 1) (omega (arith, some, within)) in
          let is = q.inside (b + n - 1) last.0 (omega (arith, some)) (omega (arith, some)) last.1 in
          absurd (true≢false (sym (h last.0 is) ∙ p.after (b + n - 1) last.0 (omega (arith, some, k)) last.1))

  -- ---- one fewer

  pub remove-length : (xs : List A) (p : ℕ) → p < length xs → suc (length (remove xs p)) ≡ length xs
  remove-length [] p l = absurd (omega arith)
  remove-length (z ∷ zs) zero l = refl
  remove-length (z ∷ zs) (suc p) l = ap suc (remove-length zs p (omega arith))

  module _ (test : A → Bool) (xs : List A) (p : ℕ) (lt : p < length xs) where
    -- one is taken out before the part
    pub part_after_out : (start len : ℕ) → IsPart test xs (suc start) len → p ≤ start
        → IsPart test (remove xs p) start len
    part_after_out start len part low =
        let within = part.within in
        let l = remove-length xs p lt in
        record {
          some = part.some;
          within = omega (arith, within, l);
          before = λ i y b e. before i y b (at_remove xs p i y lt e);
          inside = λ i y a b e. inside i y a b (at_remove xs p i y lt e);
          after = λ i y a e. after i y a (at_remove xs p i y lt e);
        }
      where
        before : (i : ℕ) (y : A) → i < start → AtRemove xs p i y → test y ≡ false
        before i y b (inl h) = part.before i y (omega (arith, b)) h.1
        before i y b (inr h) = part.before (suc i) y (omega (arith, b)) h.1

        inside : (i : ℕ) (y : A) → start ≤ i → i < start + len → AtRemove xs p i y → test y ≡ true
        inside i y a b (inl h) = let l = h.0 in absurd (omega (arith, l, low, a))
        inside i y a b (inr h) = part.inside (suc i) y (omega (arith, a)) (omega (arith, b)) h.1

        after : (i : ℕ) (y : A) → start + len ≤ i → AtRemove xs p i y → test y ≡ false
        after i y a (inl h) = let l = h.0 in absurd (omega (arith, l, low, a))
        after i y a (inr h) = part.after (suc i) y (omega (arith, a)) h.1

    -- one is taken out after the part
    pub part_before_out : (start len : ℕ) → IsPart test xs start len → start + len ≤ p
        → IsPart test (remove xs p) start len
    part_before_out start len part high =
        let l = remove-length xs p lt in
        record {
          some = part.some;
          within = omega (arith, l, lt, high);
          before = λ i y b e. before i y b (at_remove xs p i y lt e);
          inside = λ i y a b e. inside i y a b (at_remove xs p i y lt e);
          after = λ i y a e. after i y a (at_remove xs p i y lt e);
        }
      where
        before : (i : ℕ) (y : A) → i < start → AtRemove xs p i y → test y ≡ false
        before i y b (inl h) = part.before i y b h.1
        before i y b (inr h) = let l = h.0 in absurd (omega (arith, l, high, b))

        inside : (i : ℕ) (y : A) → start ≤ i → i < start + len → AtRemove xs p i y → test y ≡ true
        inside i y a b (inl h) = part.inside i y a b h.1
        inside i y a b (inr h) = let l = h.0 in absurd (omega (arith, l, high, b))

        after : (i : ℕ) (y : A) → start + len ≤ i → AtRemove xs p i y → test y ≡ false
        after i y a (inl h) = part.after i y a h.1
        after i y a (inr h) = part.after (suc i) y (omega (arith, a)) h.1

    -- one of the part's own is taken out, and others stay
    pub part_shrinks : (start len : ℕ) → IsPart test xs start (suc len) → 0 < len → start ≤ p → p < start + suc len
        → IsPart test (remove xs p) start len
    part_shrinks start len part more low high =
        let within = part.within in
        let l = remove-length xs p lt in
        record {
          some = more;
          within = omega (arith, within, l);
          before = λ i y b e. before i y b (at_remove xs p i y lt e);
          inside = λ i y a b e. inside i y a b (at_remove xs p i y lt e);
          after = λ i y a e. after i y a (at_remove xs p i y lt e);
        }
      where
        before : (i : ℕ) (y : A) → i < start → AtRemove xs p i y → test y ≡ false
        before i y b (inl h) = part.before i y b h.1
        before i y b (inr h) = let l = h.0 in absurd (omega (arith, l, low, b))

        inside : (i : ℕ) (y : A) → start ≤ i → i < start + len → AtRemove xs p i y → test y ≡ true
        inside i y a b (inl h) = part.inside i y a (omega (arith, b)) h.1
        inside i y a b (inr h) = part.inside (suc i) y (omega (arith, a)) (omega (arith, b)) h.1

        after : (i : ℕ) (y : A) → start + len ≤ i → AtRemove xs p i y → test y ≡ false
        after i y a (inl h) = let l = h.0 in absurd (omega (arith, l, high, a))
        after i y a (inr h) = part.after (suc i) y (omega (arith, a)) h.1

    -- the part's only one is taken out
    pub part_ends : (start : ℕ) → IsPart test xs start 1 → p ≡ start → IsNowhere test (remove xs p)
    part_ends start part here i y e = by (at_remove xs p i y lt e)
      where
        by : AtRemove xs p i y → test y ≡ false
        by (inl h) = let l = h.0 in part.before i y (omega (arith, l, here)) h.1
        by (inr h) = let l = h.0 in part.after (suc i) y (omega (arith, l, here)) h.1

    -- none passed
    pub nowhere_stays_out : IsNowhere test xs → IsNowhere test (remove xs p)
    nowhere_stays_out none i y e = by (at_remove xs p i y lt e)
      where
        by : AtRemove xs p i y → test y ≡ false
        by (inl h) = none i y h.1
        by (inr h) = none (suc i) y h.1
