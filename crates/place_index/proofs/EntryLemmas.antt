-- What a table with texts as keys holds, with the texts as bytes.
use Rattle.std.proofs.Common.{◌≡◌, ◌≤◌, ◌+◌, ℕ, Bool, true, false, cond, List, [], ◌∷◌, length, map, refl, sym, ap}
use Rattle.std.proofs.Common.{◌∙◌, ◌⊎◌, ◌<◌, arith, zero, suc, inl, inr, not}
use Rattle.std.specs.Prelude.{Some, None, nat_lt, position, slice_get, option_map, string_bytes}
use Rattle.std.specs.List.{position_or_len}
use Rattle.indexmap.specs.IndexMap.{set_value_at}
use Rattle.std.proofs.lemmas.Bool.{cases_lt, cond-true, cond-false, false_from_ne_true}
use Rattle.std.proofs.lemmas.Grind.{common_steps}
use Rattle.std.proofs.lemmas.Option.{none-some, same_Some}
use Rattle.std.specs.Map.{lookup, set_value, remove_entry}
use Rattle.std.specs.Str.{bytes_eq}
use Rattle.std.specs.String.{string_eq}
use Rattle.std.specs.declared.string.String.{String}
use Rattle.std.proofs.lemmas.Slice.Eq.{bytes_eq-Decides}
use Rattle.indexmap.specs.IndexMap.{insert_entry}
use Rattle.place_index.specs.Entries.{AreUpTo, by_bytes, place_of, value_at, set_at, with_value, without, with_values}

pub same_text : (x y : List ℕ) → bytes_eq x y ≡ true → x ≡ y
same_text x y e = (bytes_eq-Decides x y).0 e

pub text_is : (x y : List ℕ) → x ≡ y → bytes_eq x y ≡ true
text_is x y e = (bytes_eq-Decides x y).1 e

-- the place of the first that passes, one step on
pub position-step : {K : Type 0} (test : K → Bool) (k : K) (ks : List K)
    → position test (k ∷ ks) ≡ cond (test k) (Some 0) (option_map suc (position test ks))
position-step test k ks = by (test k)
  where
    n : ℕ
    n = position_or_len test ks

    further : (n < length ks) ⊎ (length ks ≤ n)
        → cond (nat_lt (suc n) (suc (length ks))) (Some (suc n)) None
        ≡ option_map suc (cond (nat_lt n (length ks)) (Some n) None)
    further (inl less) =
        cond-true (nat_lt (suc n) (suc (length ks))) (Some (suc n)) None (grind (arith, common_steps))
        ∙ ap (option_map suc) (sym (cond-true (nat_lt n (length ks)) (Some n) None (grind (arith, common_steps))))
    further (inr past) =
        cond-false (nat_lt (suc n) (suc (length ks))) (Some (suc n)) None (grind (arith, common_steps))
        ∙ ap (option_map suc) (sym (cond-false (nat_lt n (length ks)) (Some n) None (grind (arith, common_steps))))

    by : (b : Bool) → cond (nat_lt (cond (not b) (1 + n) 0) (suc (length ks))) (Some (cond (not b) (1 + n) 0)) None
        ≡ cond b (Some 0) (option_map suc (position test ks))
    by true = cond-true (nat_lt 0 (suc (length ks))) (Some 0) None (grind (arith, common_steps))
    by false =
        let one : 1 + n ≡ suc n = omega arith in
        (λ i. cond (nat_lt (one i) (suc (length ks))) (Some (one i)) None) ∙ further (cases_lt n (length ks))

module _ {V Y : Type 0} where
  pub place_of-by_bytes : (es : List (String Y × V)) (q : List ℕ)
      → position (λ k. bytes_eq q (string_bytes k)) (map (λ e. e.0) es) ≡ place_of q (by_bytes es)
  place_of-by_bytes [] q = refl
  place_of-by_bytes (e ∷ es) q =
      position-step (λ k. bytes_eq q (string_bytes k)) e.0 (map (λ e. e.0) es)
      ∙ ap (λ o. cond (bytes_eq q (string_bytes e.0)) (Some 0) (option_map suc o)) (place_of-by_bytes es q)

  pub set_value_at-by_bytes : (es : List (String Y × V)) (i : ℕ) (w : V)
      → by_bytes (set_value_at es i w) ≡ set_value_at (by_bytes es) i w
  set_value_at-by_bytes [] i w = refl
  set_value_at-by_bytes (e ∷ es) zero w = refl
  set_value_at-by_bytes (e ∷ es) (suc i) w =
      ap (λ fs. (string_bytes e.0, e.1) ∷ fs) (set_value_at-by_bytes es i w)

  pub values-by_bytes : (es : List (String Y × V)) → map (λ e. e.1) es ≡ map (λ e. e.1) (by_bytes es)
  values-by_bytes [] = refl
  values-by_bytes (e ∷ es) = ap (λ vs. e.1 ∷ vs) (values-by_bytes es)

  pub value_at-by_bytes : (es : List (String Y × V)) (q : List ℕ)
      → lookup (λ k. bytes_eq q (string_bytes k)) es ≡ value_at q (by_bytes es)
  value_at-by_bytes [] q = refl
  value_at-by_bytes (e ∷ es) q = ap (cond (bytes_eq q (string_bytes e.0)) _) (value_at-by_bytes es q)

  pub set_at-by_bytes : (es : List (String Y × V)) (q : List ℕ) (w : V)
      → by_bytes (set_value (λ k. bytes_eq q (string_bytes k)) es w) ≡ set_at q (by_bytes es) w
  set_at-by_bytes [] q w = refl
  set_at-by_bytes (e ∷ es) q w = by (bytes_eq q (string_bytes e.0)) (set_at-by_bytes es q w)
    where
      by : (b : Bool) → by_bytes (set_value (λ k. bytes_eq q (string_bytes k)) es w) ≡ set_at q (by_bytes es) w
          → by_bytes (cond b ((e.0, w) ∷ es) (e ∷ set_value (λ k. bytes_eq q (string_bytes k)) es w))
          ≡ cond b ((string_bytes e.0, w) ∷ by_bytes es) ((string_bytes e.0, e.1) ∷ set_at q (by_bytes es) w)
      by true rest = refl
      by false rest = ap (λ fs. (string_bytes e.0, e.1) ∷ fs) rest

  pub without-by_bytes : (es : List (String Y × V)) (q : List ℕ)
      → by_bytes (remove_entry (λ k. bytes_eq q (string_bytes k)) es) ≡ without q (by_bytes es)
  without-by_bytes [] q = refl
  without-by_bytes (e ∷ es) q = by (bytes_eq q (string_bytes e.0)) (without-by_bytes es q)
    where
      by : (b : Bool) → by_bytes (remove_entry (λ k. bytes_eq q (string_bytes k)) es) ≡ without q (by_bytes es)
          → by_bytes (cond b es (e ∷ remove_entry (λ k. bytes_eq q (string_bytes k)) es))
          ≡ cond b (by_bytes es) ((string_bytes e.0, e.1) ∷ without q (by_bytes es))
      by true rest = refl
      by false rest = ap (λ fs. (string_bytes e.0, e.1) ∷ fs) rest

  pub with_value-by_bytes : (es : List (String Y × V)) (k : String Y) (v : V)
      → by_bytes (insert_entry string_eq es k v) ≡ with_value (by_bytes es) (string_bytes k) v
  with_value-by_bytes [] k v = refl
  with_value-by_bytes (e ∷ es) k v = by (string_eq k e.0) (with_value-by_bytes es k v)
    where
      by : (b : Bool) → by_bytes (insert_entry string_eq es k v) ≡ with_value (by_bytes es) (string_bytes k) v
          → by_bytes (cond b ((e.0, v) ∷ es) (e ∷ insert_entry string_eq es k v))
          ≡ cond b ((string_bytes e.0, v) ∷ by_bytes es)
          ((string_bytes e.0, e.1) ∷ with_value (by_bytes es) (string_bytes k) v)
      by true rest = refl
      by false rest = ap (λ fs. (string_bytes e.0, e.1) ∷ fs) rest

module _ {V : Type 0} where
  pub set_at-present : (text : List ℕ) (es : List (List ℕ × V)) (v w : V) → value_at text es ≡ Some v
      → set_at text es w ≡ with_value es text w
  set_at-present text [] v w at = absurd (none-some v at)
  set_at-present text (e ∷ es) v w at = by (bytes_eq text e.0) at (λ h. set_at-present text es v w h)
    where
      by : (b : Bool) → cond b (Some e.1) (value_at text es) ≡ Some v
          → (value_at text es ≡ Some v → set_at text es w ≡ with_value es text w)
          → cond b ((e.0, w) ∷ es) (e ∷ set_at text es w) ≡ cond b ((e.0, w) ∷ es) (e ∷ with_value es text w)
      by true h rest = refl
      by false h rest = ap (λ l. e ∷ l) (rest h)

-- ---- one value after another

module _ {K V : Type 0} (f : V → V) where
  -- f of the first n values
  abbrev pub first_with : ℕ → List (K × V) → List (K × V)
  first_with zero es = es
  first_with (suc n) [] = []
  first_with (suc n) (e ∷ es) = (e.0, f e.1) ∷ first_with n es

  pub first_with-next : (es : List (K × V)) (i : ℕ) (v : V) → slice_get (map (λ e. e.1) (first_with i es)) i ≡ Some v
      → set_value_at (first_with i es) i (f v) ≡ first_with (suc i) es
  first_with-next [] zero v at = refl
  first_with-next [] (suc i) v at = refl
  first_with-next (e ∷ es) zero v at = ap (λ w. (e.0, f w) ∷ es) (sym (same_Some e.1 v at))
  first_with-next (e ∷ es) (suc i) v at = ap (λ l. (e.0, f e.1) ∷ l) (first_with-next es i v at)

  pub first_with-none : (es : List (K × V)) (i : ℕ) → slice_get (map (λ e. e.1) (first_with i es)) i ≡ None
      → first_with i es ≡ first_with (suc i) es
  first_with-none [] zero none = refl
  first_with-none [] (suc i) none = refl
  first_with-none (e ∷ es) zero none = absurd (none-some e.1 (sym none))
  first_with-none (e ∷ es) (suc i) none = ap (λ l. (e.0, f e.1) ∷ l) (first_with-none es i none)

  one_more : (es : List (K × V)) (i : ℕ) → first_with (suc i) es ≡ first_with (i + 1) es
  one_more es i = let n : suc i ≡ i + 1 = omega arith in ap (λ m. first_with m es) n

  pub first_with-step : (es now : List (K × V)) (i : ℕ) (v w : V) → now ≡ first_with i es
      → slice_get (map (λ e. e.1) now) i ≡ Some v → w ≡ f v → set_value_at now i w ≡ first_with (i + 1) es
  first_with-step es now i v w is at e =
      (λ j. set_value_at (is j) i (e j))
      ∙ first_with-next es i v (ap (λ m. slice_get (map (λ e. e.1) m) i) (sym is) ∙ at)
      ∙ one_more es i

  pub first_with-end : (es now : List (K × V)) (i : ℕ) → now ≡ first_with i es
      → slice_get (map (λ e. e.1) now) i ≡ None → now ≡ first_with (i + 1) es
  first_with-end es now i is at =
      is ∙ first_with-none es i (ap (λ m. slice_get (map (λ e. e.1) m) i) (sym is) ∙ at) ∙ one_more es i

  pub first_with-all : (es : List (K × V)) (n : ℕ) → length es ≤ n → first_with n es ≡ map (λ e. (e.0, f e.1)) es
  first_with-all [] zero le = refl
  first_with-all [] (suc n) le = refl
  first_with-all (e ∷ es) zero le = absurd (omega arith)
  first_with-all (e ∷ es) (suc n) le = ap (λ l. (e.0, f e.1) ∷ l) (first_with-all es n (omega arith))

module _ {V Y : Type 0} (f : V → V) where
  pub with_values-by_bytes : (es : List (String Y × V))
      → by_bytes (map (λ e. (e.0, f e.1)) es) ≡ with_values f (by_bytes es)
  with_values-by_bytes [] = refl
  with_values-by_bytes (e ∷ es) = ap (λ l. (string_bytes e.0, f e.1) ∷ l) (with_values-by_bytes es)

module _ {V : Type 0} (f : V → V) where
  pub value_at-with_values : (text : List ℕ) (es : List (List ℕ × V))
      → value_at text (with_values f es) ≡ option_map f (value_at text es)
  value_at-with_values text [] = refl
  value_at-with_values text (e ∷ es) = by (bytes_eq text e.0) (value_at-with_values text es)
    where
      by : (b : Bool) → value_at text (with_values f es) ≡ option_map f (value_at text es)
          → cond b (Some (f e.1)) (value_at text (with_values f es)) ≡ option_map f
          (cond b (Some e.1) (value_at text es))
      by true rest = refl
      by false rest = rest

-- ---- texts up to a length

longer_fails : (longest : ℕ) (key text : List ℕ) → length text ≤ longest → longest < length key
    → bytes_eq key text ≡ false
longer_fails longest key text up longer =
    false_from_ne_true (bytes_eq key text)
    (λ e. let same = ap length (same_text key text e) in omega (arith, same, up, longer))

module _ {V : Type 0} (longest : ℕ) where
  pub longer_nowhere : (key : List ℕ) (es : List (List ℕ × V)) → AreUpTo longest es → longest < length key
      → place_of key es ≡ None
  longer_nowhere key [] up longer = refl
  longer_nowhere key (e ∷ es) up longer =
      cond-false (bytes_eq key e.0) (Some 0) (option_map suc (place_of key es))
      (longer_fails longest key e.0 up.0 longer)
      ∙ ap (option_map suc) (longer_nowhere key es up.1 longer)

  pub up_to-set_value_at : (es : List (List ℕ × V)) (i : ℕ) (w : V) → AreUpTo longest es
      → AreUpTo longest (set_value_at es i w)
  up_to-set_value_at [] i w up = tt
  up_to-set_value_at (e ∷ es) zero w up = up
  up_to-set_value_at (e ∷ es) (suc i) w up = (up.0, up_to-set_value_at es i w up.1)

  pub up_to-set_at : (key : List ℕ) (es : List (List ℕ × V)) (w : V) → AreUpTo longest es
      → AreUpTo longest (set_at key es w)
  up_to-set_at key [] w up = tt
  up_to-set_at key (e ∷ es) w up = by (bytes_eq key e.0) (up_to-set_at key es w up.1)
    where
      by : (b : Bool) → AreUpTo longest (set_at key es w)
          → AreUpTo longest (cond b ((e.0, w) ∷ es) (e ∷ set_at key es w))
      by true rest = up
      by false rest = (up.0, rest)

  pub up_to-without : (key : List ℕ) (es : List (List ℕ × V)) → AreUpTo longest es
      → AreUpTo longest (without key es)
  up_to-without key [] up = tt
  up_to-without key (e ∷ es) up = by (bytes_eq key e.0) (up_to-without key es up.1)
    where
      by : (b : Bool) → AreUpTo longest (without key es) → AreUpTo longest (cond b es (e ∷ without key es))
      by true rest = up.1
      by false rest = (up.0, rest)

  pub up_to-with_value : (most : ℕ) (es : List (List ℕ × V)) (key : List ℕ) (v : V) → AreUpTo longest es
      → longest ≤ most → length key ≤ most → AreUpTo most (with_value es key v)
  up_to-with_value most [] key v up low own = (own, tt)
  up_to-with_value most (e ∷ es) key v up low own =
      by (bytes_eq key e.0) (up_to-with_value most es key v up.1 low own)
    where
      first : length e.0 ≤ most
      first = let le = up.0 in omega (arith, le, low)

      all : (fs : List (List ℕ × V)) → AreUpTo longest fs → AreUpTo most fs
      all [] _ = tt
      all (f ∷ fs) h = let le = h.0 in (omega (arith, le, low), all fs h.1)

      by : (b : Bool) → AreUpTo most (with_value es key v)
          → AreUpTo most (cond b ((e.0, v) ∷ es) (e ∷ with_value es key v))
      by true rest = (first, all es up.1)
      by false rest = (first, rest)

module _ {V Y : Type 0} (f : V → V) (longest : ℕ) where
  pub up_to-first_with : (n : ℕ) (es : List (String Y × V)) → AreUpTo longest (by_bytes es)
      → AreUpTo longest (by_bytes (first_with f n es))
  up_to-first_with zero es up = up
  up_to-first_with (suc n) [] up = tt
  up_to-first_with (suc n) (e ∷ es) up = (up.0, up_to-first_with n es up.1)
