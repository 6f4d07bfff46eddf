-- Parts merged in the order of their beginnings: what is left of each, and the positions in them.
use Rattle.std.proofs.Common.{◌≡◌, ◌⊎◌, ◌+◌, ◌<◌, ◌≤◌, ◌++◌, ◌||◌, ℕ, true, false, cond, List, [], ◌∷◌, length}
use Rattle.std.proofs.Common.{refl, sym, ap, ◌∙◌, inl, inr, arith, suc, take, drop, set, get_or, max, append_assoc}
use Rattle.std.proofs.Common.{append-nil}
use Rattle.std.specs.Prelude.{nat_le, nat_lt}
use Rattle.std.specs.List.{list_any}
use Rattle.std.specs.List.Sorted.{IsNonDecreasingBy}
use Rattle.std.proofs.Math.Nat.{le-max_left, le-max_right, max-le}
use Rattle.std.proofs.lemmas.Bool.{cases_lt, cond_both, ltb-true, ltb-false, lt-ltb, le-ltb, le-leb, lt-leb, and_from}
use Rattle.std.proofs.lemmas.Bool.{and_left, and_right, cond-true, cond-false}
use Rattle.std.proofs.lemmas.List.{drop_more, drop_all, take_more_set, drop-set-lt}
use Rattle.std.proofs.lemmas.List.Folds.{list_any_none}
use Rattle.place_index.specs.Found.{AscendFrom, is_in}
use Rattle.place_index.specs.Index.{Span}

-- what is left of each part, those before it and the positions before `done` taken out, where something is
pub merged : ℕ → List Span → List Span
merged done [] = []
merged done (span ∷ spans) =
    cond (nat_lt (max span.0 done) span.1) ((max span.0 done, span.1) ∷ merged span.1 spans) (merged done spans)

pub merged_ascend : (done : ℕ) (spans : List Span) → AscendFrom done (merged done spans)
unfolding merged
merged_ascend done [] = tt
merged_ascend done (span ∷ spans) =
    cond_both (nat_lt (max span.0 done) span.1) _ _ (AscendFrom done)
    (λ e. (le-max_right span.0 done, ltb-true (max span.0 done) span.1 e, merged_ascend span.1 spans))
    (λ e. merged_ascend done spans)

-- ---- the same positions

abbrev pub by_start : List Span → Type 0
by_start spans = IsNonDecreasingBy (λ span. span.0) spans

by_start-tail : (span : Span) (spans : List Span) → by_start (span ∷ spans) → by_start spans
by_start-tail span spans up i j d le l = up (suc i) (suc j) d (omega arith) (omega arith)

outside : (i : ℕ) (span : Span) → (i < span.0) ⊎ (span.1 ≤ i) → is_in i span ≡ false
outside i span (inl low) = and_left (nat_le span.0 i) (nat_lt i span.1) (lt-leb span.0 i low)
outside i span (inr high) = and_right (nat_le span.0 i) (nat_lt i span.1) (le-ltb i span.1 high)

pub inside : (i : ℕ) (span : Span) → span.0 ≤ i → i < span.1 → is_in i span ≡ true
inside i span low high =
    and_from (nat_le span.0 i) (nat_lt i span.1) (le-leb span.0 i low) (lt-ltb i span.1 high)

before_all : (i : ℕ) (span : Span) (spans : List Span) → by_start (span ∷ spans) → i < span.0
    → list_any (is_in i) spans ≡ false
before_all i span spans up low =
    list_any_none (is_in i) spans (λ k d l.
    let later : span.0 ≤ (get_or spans k d).0 = up 0 (suc k) d (omega arith) (omega (arith, l)) in
    outside i (get_or spans k d) (inl (omega (arith, low, later))))

merged_none : (i done : ℕ) (spans : List Span) → i < done → list_any (is_in i) (merged done spans) ≡ false
unfolding merged
merged_none i done [] low = refl
merged_none i done (span ∷ spans) low =
    cond_both (nat_lt (max span.0 done) span.1) _ _ (λ rest. list_any (is_in i) rest ≡ false)
    (λ e.
    let more = le-max_right span.0 done in
    let over = ltb-true (max span.0 done) span.1 e in
    ap (λ b. b || list_any (is_in i) (merged span.1 spans))
    (outside i (max span.0 done, span.1) (inl (omega (arith, low, more))))
    ∙ merged_none i span.1 spans (omega (arith, low, more, over)))
    (λ e. merged_none i done spans low)

-- a part of which nothing is left has no position from `done` on
passed : (i done : ℕ) (span : Span) → done ≤ i → span.1 ≤ max span.0 done → is_in i span ≡ false
passed i done span le over = by (cases_lt i span.0)
  where
    by : (i < span.0) ⊎ (span.0 ≤ i) → is_in i span ≡ false
    by (inl low) = outside i span (inl low)
    by (inr high) = let m : max span.0 done ≤ i = max-le high le in outside i span (inr (omega (arith, m, over)))

-- a part of which something is left has the positions of that from `done` on
kept : (i done : ℕ) (span : Span) (spans : List Span) → by_start (span ∷ spans) → done ≤ i
    → max span.0 done < span.1
    → (span.1 ≤ i → list_any (is_in i) (merged span.1 spans) ≡ list_any (is_in i) spans)
    → list_any (is_in i) ((max span.0 done, span.1) ∷ merged span.1 spans) ≡ list_any (is_in i) (span ∷ spans)
kept i done span spans up le over rest = by (cases_lt i span.0) (cases_lt i span.1)
  where
    left : Span
    left = (max span.0 done, span.1)

    more : span.0 ≤ max span.0 done
    more = le-max_left span.0 done

    by : (i < span.0) ⊎ (span.0 ≤ i) → (i < span.1) ⊎ (span.1 ≤ i)
        → list_any (is_in i) (left ∷ merged span.1 spans) ≡ list_any (is_in i) (span ∷ spans)
    by (inl low) (inl high) =
        (λ j. outside i left (inl (omega (arith, low, more))) j || merged_none i span.1 spans high j)
        ∙ sym (λ j. outside i span (inl low) j || before_all i span spans up low j)
    by (inl low) (inr high) = absurd (omega (arith, low, high, more, over))
    by (inr low) (inl high) =
        ap (λ b. b || list_any (is_in i) (merged span.1 spans)) (inside i left (max-le low le) high)
        ∙ sym (ap (λ b. b || list_any (is_in i) spans) (inside i span low high))
    by (inr low) (inr high) =
        (λ j. outside i left (inr high) j || rest high j)
        ∙ sym (ap (λ b. b || list_any (is_in i) spans) (outside i span (inr high)))

pub merged_same : (i done : ℕ) (spans : List Span) → by_start spans → done ≤ i
    → list_any (is_in i) (merged done spans) ≡ list_any (is_in i) spans
unfolding merged
merged_same i done [] up le = refl
merged_same i done (span ∷ spans) up le =
    cond_both (nat_lt (max span.0 done) span.1) _ _
    (λ rest. list_any (is_in i) rest ≡ list_any (is_in i) (span ∷ spans))
    (λ e. kept i done span spans up le (ltb-true (max span.0 done) span.1 e)
    (λ m. merged_same i span.1 spans (by_start-tail span spans up) m))
    (λ e. merged_same i done spans (by_start-tail span spans up) le
    ∙ ap (λ b. b || list_any (is_in i) spans) (sym (passed i done span le (ltb-false (max span.0 done) span.1 e))))

-- ---- a step of the loop: the first `kept` places have what is done, and those from `i` on are as they were

pub merged_keeps : (spans all : List Span) (kept i done start end : ℕ) (d : Span) → kept ≤ i → i < length spans
    → start ≡ max (get_or spans i d).0 done → end ≡ (get_or spans i d).1 → start < end
    → take kept spans ++ merged done (drop i spans) ≡ all
    → take (kept + 1) (set spans kept (start, end)) ++ merged end (drop (i + 1) (set spans kept (start, end))) ≡ all
unfolding merged
merged_keeps spans all kept i done start end d le l is_start is_end over is =
    (λ j. take_more_set spans kept (start, end) (omega (arith, le, l)) j
    ++ merged end (drop-set-lt (i + 1) spans kept (start, end) (omega (arith, le)) j))
    ∙ append_assoc (take kept spans) ((start, end) ∷ []) (merged end (drop (i + 1) spans))
    ∙ ap (λ rest. take kept spans ++ rest) (sym step)
    ∙ is
  where
    step : merged done (drop i spans) ≡ (start, end) ∷ merged end (drop (i + 1) spans)
    step = ap (merged done) (drop_more spans i d l)
        ∙ cond-true _ _ _ (lt-ltb (max (get_or spans i d).0 done) (get_or spans i d).1
        (omega (arith, is_start, is_end, over)))
        ∙ sym (λ j. (is_start j, is_end j) ∷ merged (is_end j) (drop (i + 1) spans))

pub merged_passes : (spans : List Span) (i done start : ℕ) (d : Span) → i < length spans
    → start ≡ max (get_or spans i d).0 done → (get_or spans i d).1 ≤ start
    → merged done (drop i spans) ≡ merged done (drop (i + 1) spans)
unfolding merged
merged_passes spans i done start d l is over =
    ap (merged done) (drop_more spans i d l)
    ∙ cond-false _ _ _ (le-ltb (max (get_or spans i d).0 done) (get_or spans i d).1 (omega (arith, is, over)))

pub merged_end : (spans all : List Span) (kept i done : ℕ) → length spans ≤ i
    → take kept spans ++ merged done (drop i spans) ≡ all → take kept spans ≡ all
unfolding merged
merged_end spans all kept i done over is =
    sym (append-nil (take kept spans))
    ∙ ap (λ rest. take kept spans ++ merged done rest) (sym (drop_all i spans over))
    ∙ is
