-- Texts with their values beside them.
use Rattle.std.proofs.Common.{◌≡◌, ◌+◌, ◌++◌, ◌<◌, ◌≤◌, ◌∙◌, ℕ, zero, suc, Bool, true, false, cond, List, [], ◌∷◌}
use Rattle.std.proofs.Common.{◌||◌, length, map, set, refl, sym, ap, subst, arith}
use Rattle.std.specs.Prelude.{Some, None, option_map, position}
use Rattle.std.specs.List.{list_any, remove, zip}
use Rattle.std.specs.Str.{bytes_eq}
use Rattle.std.proofs.lemmas.Bool.{cond-false}
use Rattle.std.proofs.lemmas.List.{length-append, length-set}
use Rattle.std.proofs.lemmas.Option.{none-some, same_Some}
use Rattle.indexmap.specs.IndexMap.{set_value_at}
use Rattle.place_index.specs.Entries.{AreSideBySide, AreUpTo, HaveOwnTexts, place_of, value_at, with_value, without}
use Rattle.place_index.proofs.EntryLemmas.{position-step, same_text, up_to-set_value_at, up_to-with_value}
use Rattle.place_index.proofs.StartLemmas.{one_less, still_none}

module _ {V : Type 0} where
  pub zip-length : (ts : List (List ℕ)) (vs : List V) → length ts ≡ length vs → length (zip ts vs) ≡ length vs
  zip-length [] [] same = refl
  zip-length [] (v ∷ vs) same = absurd (omega (arith, same))
  zip-length (t ∷ ts) [] same = absurd (omega (arith, same))
  zip-length (t ∷ ts) (v ∷ vs) same = ap suc (zip-length ts vs (omega (arith, same)))

  pub zip-values : (ts : List (List ℕ)) (vs : List V) → length ts ≡ length vs → map (λ e. e.1) (zip ts vs) ≡ vs
  zip-values [] [] same = refl
  zip-values [] (v ∷ vs) same = absurd (omega (arith, same))
  zip-values (t ∷ ts) [] same = absurd (omega (arith, same))
  zip-values (t ∷ ts) (v ∷ vs) same = ap (λ ws. v ∷ ws) (zip-values ts vs (omega (arith, same)))

  pub zip-set : (ts : List (List ℕ)) (vs : List V) (i : ℕ) (w : V)
      → zip ts (set vs i w) ≡ set_value_at (zip ts vs) i w
  zip-set [] vs i w = refl
  zip-set (t ∷ ts) [] zero w = refl
  zip-set (t ∷ ts) [] (suc i) w = refl
  zip-set (t ∷ ts) (v ∷ vs) zero w = refl
  zip-set (t ∷ ts) (v ∷ vs) (suc i) w = ap (λ es. (t, v) ∷ es) (zip-set ts vs i w)

  pub zip-remove : (ts : List (List ℕ)) (vs : List V) (i : ℕ) → length ts ≡ length vs
      → zip (remove ts i) (remove vs i) ≡ remove (zip ts vs) i
  zip-remove [] [] zero same = refl
  zip-remove [] [] (suc i) same = refl
  zip-remove [] (v ∷ vs) i same = absurd (omega (arith, same))
  zip-remove (t ∷ ts) [] i same = absurd (omega (arith, same))
  zip-remove (t ∷ ts) (v ∷ vs) zero same = refl
  zip-remove (t ∷ ts) (v ∷ vs) (suc i) same =
      ap (λ es. (t, v) ∷ es) (zip-remove ts vs i (omega (arith, same)))

  remove-same_length : (ts : List (List ℕ)) (vs : List V) (i : ℕ) → length ts ≡ length vs
      → length (remove ts i) ≡ length (remove vs i)
  remove-same_length [] [] zero same = refl
  remove-same_length [] [] (suc i) same = refl
  remove-same_length [] (v ∷ vs) i same = absurd (omega (arith, same))
  remove-same_length (t ∷ ts) [] i same = absurd (omega (arith, same))
  remove-same_length (t ∷ ts) (v ∷ vs) zero same = omega (arith, same)
  remove-same_length (t ∷ ts) (v ∷ vs) (suc i) same = ap suc (remove-same_length ts vs i (omega (arith, same)))

module _ {V : Type 0} (text : List ℕ) where
  -- the place among texts is that among their entries
  pub zip-place : (ts : List (List ℕ)) (vs : List V) → length ts ≡ length vs
      → position (bytes_eq text) ts ≡ place_of text (zip ts vs)
  zip-place [] vs same = refl
  zip-place (t ∷ ts) [] same = absurd (omega (arith, same))
  zip-place (t ∷ ts) (v ∷ vs) same =
      position-step (bytes_eq text) t ts
      ∙ ap (λ o. cond (bytes_eq text t) (Some 0) (option_map suc o)) (zip-place ts vs (omega (arith, same)))

  -- a text with no place is none of them
  pub zip-absent : (ts : List (List ℕ)) (vs : List V) → length ts ≡ length vs → place_of text (zip ts vs) ≡ None
      → list_any (bytes_eq text) ts ≡ false
  zip-absent [] vs same none = refl
  zip-absent (t ∷ ts) [] same none = absurd (omega (arith, same))
  zip-absent (t ∷ ts) (v ∷ vs) same none =
      by (bytes_eq text t) none (λ n. zip-absent ts vs (omega (arith, same)) n)
    where
      by : (b : Bool) → cond b (Some 0) (option_map suc (place_of text (zip ts vs))) ≡ None
          → (place_of text (zip ts vs) ≡ None → list_any (bytes_eq text) ts ≡ false)
          → (b || list_any (bytes_eq text) ts) ≡ false
      by true n rest = absurd (none-some 0 (sym n))
      by false n rest = rest (still_none (place_of text (zip ts vs)) n)

  -- a text more, and its value
  pub zip-push : (ts : List (List ℕ)) (vs : List V) (v : V) → length ts ≡ length vs
      → place_of text (zip ts vs) ≡ None
      → zip (ts ++ text ∷ []) (vs ++ v ∷ []) ≡ with_value (zip ts vs) text v
  zip-push [] [] v same none = refl
  zip-push [] (w ∷ vs) v same none = absurd (omega (arith, same))
  zip-push (t ∷ ts) [] v same none = absurd (omega (arith, same))
  zip-push (t ∷ ts) (w ∷ vs) v same none =
      by (bytes_eq text t) none (λ n. zip-push ts vs v (omega (arith, same)) n)
    where
      by : (b : Bool) → cond b (Some 0) (option_map suc (place_of text (zip ts vs))) ≡ None
          → (place_of text (zip ts vs) ≡ None
          → zip (ts ++ text ∷ []) (vs ++ v ∷ []) ≡ with_value (zip ts vs) text v)
          → (t, w) ∷ zip (ts ++ text ∷ []) (vs ++ v ∷ [])
          ≡ cond b ((t, v) ∷ zip ts vs) ((t, w) ∷ with_value (zip ts vs) text v)
      by true n rest = absurd (none-some 0 (sym n))
      by false n rest = ap (λ es. (t, w) ∷ es) (rest (still_none (place_of text (zip ts vs)) n))

  -- what goes with its place goes with its text
  pub remove-place : (es : List (List ℕ × V)) (i : ℕ) → place_of text es ≡ Some i → remove es i ≡ without text es
  remove-place [] i is = absurd (none-some i is)
  remove-place (e ∷ es) i is = by (bytes_eq text e.0) is (λ j p. remove-place es j p)
    where
      by : (b : Bool) → cond b (Some 0) (option_map suc (place_of text es)) ≡ Some i
          → ((j : ℕ) → place_of text es ≡ Some j → remove es j ≡ without text es)
          → remove (e ∷ es) i ≡ cond b es (e ∷ without text es)
      by true p rest = ap (remove (e ∷ es)) (sym (same_Some 0 i p))
      by false p rest =
          let before = one_less (place_of text es) i p in
          ap (remove (e ∷ es)) (sym before.2) ∙ ap (λ fs. e ∷ fs) (rest before.0 before.1)

  -- a text that went has no value
  pub without-gone : (es : List (List ℕ × V)) → HaveOwnTexts es → value_at text (without text es) ≡ None
  without-gone [] own = refl
  without-gone (e ∷ es) own = by (bytes_eq text e.0) refl (without-gone es own.1)
    where
      by : (b : Bool) → bytes_eq text e.0 ≡ b → value_at text (without text es) ≡ None
          → value_at text (cond b es (e ∷ without text es)) ≡ None
      by true is rest = ap (λ t. value_at t es) (same_text text e.0 is) ∙ own.0
      by false is rest = cond-false (bytes_eq text e.0) _ _ is ∙ rest

module _ {V : Type 0} (longest : ℕ) where
  up_to-remove : (es : List (List ℕ × V)) (i : ℕ) → AreUpTo longest es → AreUpTo longest (remove es i)
  up_to-remove [] zero up = tt
  up_to-remove [] (suc i) up = tt
  up_to-remove (e ∷ es) zero up = up.1
  up_to-remove (e ∷ es) (suc i) up = (up.0, up_to-remove es i up.1)

-- ---- what is kept as they change

module _ {V : Type 0} (longest : ℕ) (ts : List (List ℕ)) (vs : List V) (side : AreSideBySide longest ts vs) where
  -- as many values as entries
  side-length : (es : List (List ℕ × V)) → zip ts vs ≡ es → length es ≡ length vs
  side-length es is = ap length (sym is) ∙ zip-length ts vs side.each

  -- a place of an entry is one of a vector of the values
  pub side-within : (es : List (List ℕ × V)) → zip ts vs ≡ es → (len i : ℕ) → len ≡ length vs → i < length es → i < len
  side-within es is len i all within =
      let long = side-length es is in omega (arith, long, all, within)

  pub side-values : (es : List (List ℕ × V)) → zip ts vs ≡ es → vs ≡ map (λ e. e.1) es
  side-values es is = sym (zip-values ts vs side.each) ∙ ap (map (λ e. e.1)) is

  pub side-set : (i : ℕ) (w : V) → AreSideBySide longest ts (set vs i w)
  side-set i w = record {
    each = side.each ∙ sym (length-set vs i w);
    up_to = subst (AreUpTo longest) (sym (zip-set ts vs i w)) (up_to-set_value_at longest _ i w side.up_to);
  }

  pub side-push : (most : ℕ) (text : List ℕ) (v : V) → place_of text (zip ts vs) ≡ None → longest ≤ most
      → length text ≤ most → AreSideBySide most (ts ++ text ∷ []) (vs ++ v ∷ [])
  side-push most text v none low own = record {
    each =
        length-append ts (text ∷ []) ∙ ap (λ n. n + 1) side.each ∙ sym (length-append vs (v ∷ []));
    up_to =
        subst (AreUpTo most) (sym (zip-push text ts vs v side.each none))
        (up_to-with_value longest most (zip ts vs) text v side.up_to low own);
  }

  pub side-remove : (i : ℕ) → AreSideBySide longest (remove ts i) (remove vs i)
  side-remove i = record {
    each = remove-same_length ts vs i side.each;
    up_to = subst (AreUpTo longest) (sym (zip-remove ts vs i side.each)) (up_to-remove longest _ i side.up_to);
  }
