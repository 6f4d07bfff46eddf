-- Parts whose starts stand in a list of their own.
use Rattle.std.proofs.Common.{◌≡◌, ◌+◌, ◌++◌, ◌<◌, ◌≤◌, ℕ, zero, suc, Bool, true, false, cond, List, [], ◌∷◌, length}
use Rattle.std.proofs.Common.{map, get_or, set, refl, sym, ap, ◌∙◌, arith}
use Rattle.std.specs.Prelude.{Option, Some, None, Vec, slice_get, option_map}
use Rattle.std.specs.List.{remove}
use Rattle.std.specs.Str.{bytes_eq}
use Rattle.std.specs.Vec.{with_items}
use Rattle.std.proofs.lemmas.List.{length-map, with_items_is}
use Rattle.std.proofs.lemmas.Option.{none-some, same_Some}
use Rattle.indexmap.specs.IndexMap.{set_value_at}
use Rattle.place_index.specs.Entries.{place_of, value_at, set_at, with_value, without, with_values}
use Rattle.place_index.specs.Starts.{with_starts}

-- ---- places

pub one_less : (o : Option ℕ) (i : ℕ) → option_map suc o ≡ Some i → (j : ℕ) × (o ≡ Some j) × (suc j ≡ i)
one_less None i is = absurd (none-some i is)
one_less (Some j) i is = (j, refl, same_Some (suc j) i is)

pub still_none : (o : Option ℕ) → option_map suc o ≡ None → o ≡ None
still_none None is = refl
still_none (Some j) is = absurd (none-some (suc j) (sym is))

module _ {V : Type 0} (text : List ℕ) where
  pub place_within : (es : List (List ℕ × V)) (i : ℕ) → place_of text es ≡ Some i → i < length es
  place_within [] i is = absurd (none-some i is)
  place_within (e ∷ es) i is = by (bytes_eq text e.0) is (λ j p. place_within es j p)
    where
      by : (b : Bool) → cond b (Some 0) (option_map suc (place_of text es)) ≡ Some i
          → ((j : ℕ) → place_of text es ≡ Some j → j < length es) → i < suc (length es)
      by true p rest = let z = same_Some 0 i p in omega (arith, z)
      by false p rest =
          let before = one_less (place_of text es) i p in
          let less = rest before.0 before.1 in
          let next = before.2 in
          omega (arith, less, next)

  pub value_at-place : (es : List (List ℕ × V)) (i : ℕ) → place_of text es ≡ Some i
      → slice_get (map (λ e. e.1) es) i ≡ value_at text es
  value_at-place [] i is = absurd (none-some i is)
  value_at-place (e ∷ es) i is = by (bytes_eq text e.0) is (λ j p. value_at-place es j p)
    where
      by : (b : Bool) → cond b (Some 0) (option_map suc (place_of text es)) ≡ Some i
          → ((j : ℕ) → place_of text es ≡ Some j → slice_get (map (λ e. e.1) es) j ≡ value_at text es)
          → slice_get (map (λ e. e.1) (e ∷ es)) i ≡ cond b (Some e.1) (value_at text es)
      by true p rest = ap (λ n. slice_get (map (λ e. e.1) (e ∷ es)) n) (sym (same_Some 0 i p))
      by false p rest =
          let before = one_less (place_of text es) i p in
          ap (λ n. slice_get (map (λ e. e.1) (e ∷ es)) n) (sym before.2) ∙ rest before.0 before.1

  pub no_value : (es : List (List ℕ × V)) → place_of text es ≡ None → value_at text es ≡ None
  no_value [] none = refl
  no_value (e ∷ es) none = by (bytes_eq text e.0) none (λ p. no_value es p)
    where
      by : (b : Bool) → cond b (Some 0) (option_map suc (place_of text es)) ≡ None
          → (place_of text es ≡ None → value_at text es ≡ None) → cond b (Some e.1) (value_at text es) ≡ None
      by true p rest = absurd (none-some 0 (sym p))
      by false p rest = rest (still_none (place_of text es) p)

  pub without-length : (es : List (List ℕ × V)) (i : ℕ) → place_of text es ≡ Some i
      → suc (length (without text es)) ≡ length es
  without-length [] i is = absurd (none-some i is)
  without-length (e ∷ es) i is = by (bytes_eq text e.0) is (λ j p. without-length es j p)
    where
      by : (b : Bool) → cond b (Some 0) (option_map suc (place_of text es)) ≡ Some i
          → ((j : ℕ) → place_of text es ≡ Some j → suc (length (without text es)) ≡ length es)
          → suc (length (cond b es (e ∷ without text es))) ≡ suc (length es)
      by true p rest = refl
      by false p rest =
          let before = one_less (place_of text es) i p in ap suc (rest before.0 before.1)

  pub with_value-length : (es : List (List ℕ × V)) (v : V) → place_of text es ≡ None
      → length (with_value es text v) ≡ suc (length es)
  with_value-length [] v none = refl
  with_value-length (e ∷ es) v none = by (bytes_eq text e.0) none (λ p. with_value-length es v p)
    where
      by : (b : Bool) → cond b (Some 0) (option_map suc (place_of text es)) ≡ None
          → (place_of text es ≡ None → length (with_value es text v) ≡ suc (length es))
          → length (cond b ((e.0, v) ∷ es) (e ∷ with_value es text v)) ≡ suc (suc (length es))
      by true p rest = absurd (none-some 0 (sym p))
      by false p rest = ap suc (rest (still_none (place_of text es) p))

pub set_value_at-same : {K V : Type 0} (es : List (K × V)) (i : ℕ) (v : V)
    → slice_get (map (λ e. e.1) es) i ≡ Some v → set_value_at es i v ≡ es
set_value_at-same [] i v at = refl
set_value_at-same (e ∷ es) zero v at = ap (λ w. (e.0, w) ∷ es) (sym (same_Some e.1 v at))
set_value_at-same (e ∷ es) (suc i) v at = ap (λ fs. e ∷ fs) (set_value_at-same es i v at)

pub entry_at : {K V : Type 0} (es : List (K × V)) (i : ℕ) → i < length es
    → (v : V) × (slice_get (map (λ e. e.1) es) i ≡ Some v)
entry_at [] i less = absurd (omega (arith, less))
entry_at (e ∷ es) zero less = (e.1, refl)
entry_at (e ∷ es) (suc i) less = entry_at es i (omega (arith, less))

pub remove-length : (xs : List ℕ) (i : ℕ) → i < length xs → suc (length (remove xs i)) ≡ length xs
remove-length [] i less = absurd (omega (arith, less))
remove-length (x ∷ xs) zero less = refl
remove-length (x ∷ xs) (suc i) less = ap suc (remove-length xs i (omega (arith, less)))

-- ---- starts and rows

module _ {R P : Type 0} (part : ℕ → R → P) (text : List ℕ) where
  pub part_found : (starts : List ℕ) (rows : List (List ℕ × R)) (i d : ℕ) (r : R)
      → length starts ≡ length rows → place_of text rows ≡ Some i → value_at text rows ≡ Some r
      → value_at text (with_starts part starts rows) ≡ Some (part (get_or starts i d) r)
  part_found starts [] i d r same is there = absurd (none-some i is)
  part_found [] (e ∷ es) i d r same is there = absurd (omega (arith, same))
  part_found (s ∷ ss) (e ∷ es) i d r same is there =
      by (bytes_eq text e.0) is there (λ j p v. part_found ss es j d r (omega (arith, same)) p v)
    where
      by : (b : Bool) → cond b (Some 0) (option_map suc (place_of text es)) ≡ Some i
          → cond b (Some e.1) (value_at text es) ≡ Some r
          → ((j : ℕ) → place_of text es ≡ Some j → value_at text es ≡ Some r
          → value_at text (with_starts part ss es) ≡ Some (part (get_or ss j d) r))
          → cond b (Some (part s e.1)) (value_at text (with_starts part ss es))
          ≡ Some (part (get_or (s ∷ ss) i d) r)
      by true p v rest =
          let first = same_Some 0 i p in
          let own = same_Some e.1 r v in
          (λ k. Some (part (get_or (s ∷ ss) (first k) d) (own k)))
      by false p v rest =
          let before = one_less (place_of text es) i p in
          let next = before.2 in
          rest before.0 before.1 v ∙ (λ k. Some (part (get_or (s ∷ ss) (next k) d) r))

  pub none_found : (starts : List ℕ) (rows : List (List ℕ × R)) → value_at text rows ≡ None
      → value_at text (with_starts part starts rows) ≡ None
  none_found [] rows none = refl
  none_found (s ∷ ss) [] none = refl
  none_found (s ∷ ss) (e ∷ es) none = by (bytes_eq text e.0) none (λ v. none_found ss es v)
    where
      by : (b : Bool) → cond b (Some e.1) (value_at text es) ≡ None
          → (value_at text es ≡ None → value_at text (with_starts part ss es) ≡ None)
          → cond b (Some (part s e.1)) (value_at text (with_starts part ss es)) ≡ None
      by true v rest = absurd (none-some e.1 (sym v))
      by false v rest = rest v

  pub no_place : (starts : List ℕ) (rows : List (List ℕ × R)) → length starts ≡ length rows
      → value_at text (with_starts part starts rows) ≡ None → place_of text rows ≡ None
  no_place starts [] same none = refl
  no_place [] (e ∷ es) same none = absurd (omega (arith, same))
  no_place (s ∷ ss) (e ∷ es) same none =
      by (bytes_eq text e.0) none (λ v. no_place ss es (omega (arith, same)) v)
    where
      by : (b : Bool) → cond b (Some (part s e.1)) (value_at text (with_starts part ss es)) ≡ None
          → (value_at text (with_starts part ss es) ≡ None → place_of text es ≡ None)
          → cond b (Some 0) (option_map suc (place_of text es)) ≡ None
      by true v rest = absurd (none-some (part s e.1) (sym v))
      by false v rest = ap (option_map suc) (rest v)

  pub rows_set : (starts : List ℕ) (rows : List (List ℕ × R)) (i d : ℕ) (w : R)
      → place_of text rows ≡ Some i
      → with_starts part starts (set_value_at rows i w)
      ≡ set_at text (with_starts part starts rows) (part (get_or starts i d) w)
  rows_set starts [] i d w is = absurd (none-some i is)
  rows_set [] (e ∷ es) i d w is = refl
  rows_set (s ∷ ss) (e ∷ es) i d w is = by (bytes_eq text e.0) is (λ j p. rows_set ss es j d w p)
    where
      by : (b : Bool) → cond b (Some 0) (option_map suc (place_of text es)) ≡ Some i
          → ((j : ℕ) → place_of text es ≡ Some j → with_starts part ss (set_value_at es j w)
          ≡ set_at text (with_starts part ss es) (part (get_or ss j d) w))
          → with_starts part (s ∷ ss) (set_value_at (e ∷ es) i w)
          ≡ cond b ((e.0, part (get_or (s ∷ ss) i d) w) ∷ with_starts part ss es)
          ((e.0, part s e.1) ∷ set_at text (with_starts part ss es) (part (get_or (s ∷ ss) i d) w))
      by true p rest =
          ap (λ n. with_starts part (s ∷ ss) (set_value_at (e ∷ es) n w)) (sym (same_Some 0 i p))
          ∙ ap (λ n. (e.0, part (get_or (s ∷ ss) n d) w) ∷ with_starts part ss es) (same_Some 0 i p)
      by false p rest =
          let before = one_less (place_of text es) i p in
          ap (λ n. with_starts part (s ∷ ss) (set_value_at (e ∷ es) n w)) (sym before.2)
          ∙ ap (λ es. (e.0, part s e.1) ∷ es) (rest before.0 before.1)
          ∙ ap (λ n. (e.0, part s e.1) ∷ set_at text (with_starts part ss es) (part (get_or (s ∷ ss) n d) w))
          before.2

  pub part_removed : (starts : List ℕ) (rows : List (List ℕ × R)) (i : ℕ)
      → length starts ≡ length rows → place_of text rows ≡ Some i
      → with_starts part (remove starts i) (without text rows) ≡ without text (with_starts part starts rows)
  part_removed starts [] i same is = absurd (none-some i is)
  part_removed [] (e ∷ es) i same is = absurd (omega (arith, same))
  part_removed (s ∷ ss) (e ∷ es) i same is =
      by (bytes_eq text e.0) is (λ j p. part_removed ss es j (omega (arith, same)) p)
    where
      by : (b : Bool) → cond b (Some 0) (option_map suc (place_of text es)) ≡ Some i
          → ((j : ℕ) → place_of text es ≡ Some j
          → with_starts part (remove ss j) (without text es) ≡ without text (with_starts part ss es))
          → with_starts part (remove (s ∷ ss) i) (cond b es (e ∷ without text es))
          ≡ cond b (with_starts part ss es) ((e.0, part s e.1) ∷ without text (with_starts part ss es))
      by true p rest = ap (λ n. with_starts part (remove (s ∷ ss) n) es) (sym (same_Some 0 i p))
      by false p rest =
          let before = one_less (place_of text es) i p in
          ap (λ n. with_starts part (remove (s ∷ ss) n) (e ∷ without text es)) (sym before.2)
          ∙ ap (λ es. (e.0, part s e.1) ∷ es) (rest before.0 before.1)

  pub part_added : (starts : List ℕ) (rows : List (List ℕ × R)) (start : ℕ) (r : R)
      → length starts ≡ length rows → place_of text rows ≡ None
      → with_starts part (starts ++ start ∷ []) (with_value rows text r)
      ≡ with_value (with_starts part starts rows) text (part start r)
  part_added [] [] start r same none = refl
  part_added (s ∷ ss) [] start r same none = absurd (omega (arith, same))
  part_added [] (e ∷ es) start r same none = absurd (omega (arith, same))
  part_added (s ∷ ss) (e ∷ es) start r same none =
      by (bytes_eq text e.0) none (λ p. part_added ss es start r (omega (arith, same)) p)
    where
      by : (b : Bool) → cond b (Some 0) (option_map suc (place_of text es)) ≡ None
          → (place_of text es ≡ None → with_starts part (ss ++ start ∷ []) (with_value es text r)
          ≡ with_value (with_starts part ss es) text (part start r))
          → with_starts part (s ∷ (ss ++ start ∷ [])) (cond b ((e.0, r) ∷ es) (e ∷ with_value es text r))
          ≡ cond b ((e.0, part start r) ∷ with_starts part ss es)
          ((e.0, part s e.1) ∷ with_value (with_starts part ss es) text (part start r))
      by true p rest = absurd (none-some 0 (sym p))
      by false p rest = ap (λ es. (e.0, part s e.1) ∷ es) (rest (still_none (place_of text es) p))

-- ---- the entry of a text in an index that is kept so

module _ {R P : Type 0} (part : ℕ → R → P) (text : List ℕ) (starts : List ℕ) (rows : List (List ℕ × R))
    (index : List (List ℕ × P)) (is : with_starts part starts rows ≡ index) (same : length starts ≡ length rows)
    (place : ℕ)
    (at : place_of text rows ≡ Some place) (own : R) (value : slice_get (map (λ e. e.1) rows) place ≡ Some own)
    (start d : ℕ) (begins : start ≡ get_or starts place d) where
  pub part_there : value_at text index ≡ Some (part start own)
  part_there =
      ap (value_at text) (sym is)
      ∙ part_found part text starts rows place d own same at (sym (value_at-place text rows place at) ∙ value)
      ∙ ap (λ n. Some (part n own)) (sym begins)

  pub part_set : (w : R)
      → with_starts part starts (set_value_at rows place w) ≡ set_at text index (part start w)
  part_set w =
      rows_set part text starts rows place d w at
      ∙ ap (λ n. set_at text (with_starts part starts rows) (part n w)) (sym begins)
      ∙ ap (λ es. set_at text es (part start w)) is

-- ---- one start after another

module _ (f : ℕ → ℕ) where
  -- a vector whose slice was moved
  pub all_moved : {Z : Type 0} (v : Vec ℕ Z) (slice now : List ℕ) → slice ≡ v.items → now ≡ map f slice
      → (with_items v now).items ≡ map f v.items
  all_moved v slice now is moved =
      let all = moved ∙ ap (map f) is in
      with_items_is v now (ap length all ∙ length-map v.items f ∙ sym v.ok.0) ∙ all

  -- f of the first n
  abbrev pub first_mapped : ℕ → List ℕ → List ℕ
  first_mapped zero xs = xs
  first_mapped (suc n) [] = []
  first_mapped (suc n) (x ∷ xs) = f x ∷ first_mapped n xs

  first_mapped-next : (xs : List ℕ) (i : ℕ) → i < length xs
      → set (first_mapped i xs) i (f (get_or (first_mapped i xs) i 0)) ≡ first_mapped (suc i) xs
  first_mapped-next [] i less = absurd (omega (arith, less))
  first_mapped-next (x ∷ xs) zero less = refl
  first_mapped-next (x ∷ xs) (suc i) less = ap (λ ys. f x ∷ ys) (first_mapped-next xs i (omega (arith, less)))

  pub first_mapped-step : (xs now : List ℕ) (i v : ℕ) → now ≡ first_mapped i xs → i < length xs
      → v ≡ f (get_or now i 0) → set now i v ≡ first_mapped (i + 1) xs
  first_mapped-step xs now i v is less value =
      let next : suc i ≡ i + 1 = omega arith in
      (λ j. set (is j) i ((value ∙ ap (λ ys. f (get_or ys i 0)) is) j))
      ∙ first_mapped-next xs i less
      ∙ ap (λ n. first_mapped n xs) next

  pub first_mapped-all : (xs : List ℕ) (n : ℕ) → length xs ≤ n → first_mapped n xs ≡ map f xs
  first_mapped-all [] zero few = refl
  first_mapped-all [] (suc n) few = refl
  first_mapped-all (x ∷ xs) zero few = absurd (omega (arith, few))
  first_mapped-all (x ∷ xs) (suc n) few = ap (λ ys. f x ∷ ys) (first_mapped-all xs n (omega (arith, few)))

  pub first_mapped-length : (n : ℕ) (xs : List ℕ) → length (first_mapped n xs) ≡ length xs
  first_mapped-length zero xs = refl
  first_mapped-length (suc n) [] = refl
  first_mapped-length (suc n) (x ∷ xs) = ap suc (first_mapped-length n xs)

module _ {R P : Type 0} (part : ℕ → R → P) (f : ℕ → ℕ) (g : P → P)
    (moves : (start : ℕ) (r : R) → part (f start) r ≡ g (part start r)) where
  -- each part is moved with its start
  pub starts_moved : (starts : List ℕ) (rows : List (List ℕ × R))
      → with_starts part (map f starts) rows ≡ with_values g (with_starts part starts rows)
  starts_moved [] rows = refl
  starts_moved (s ∷ ss) [] = refl
  starts_moved (s ∷ ss) (e ∷ es) = (λ i. (e.0, moves s e.1 i) ∷ starts_moved ss es i)
