-- A step of the loop over a path's beginnings.
use Rattle.std.proofs.Common.{◌≡◌, ◌++◌, ◌+◌, ◌-◌, ◌<◌, ◌≤◌, ◌||◌, ℕ, Bool, true, false, cond, eqb, List, [], ◌∷◌}
use Rattle.std.proofs.Common.{length, map, get_or, take, drop, refl, sym, ap, ◌∙◌, arith, zero, suc, append_assoc}
use Rattle.std.proofs.Common.{append-nil}
use Rattle.std.specs.Prelude.{Some}
use Rattle.std.specs.List.{slice_range}
use Rattle.std.proofs.lemmas.Bool.{cond-true, cond-false}
use Rattle.std.proofs.lemmas.List.{at_drop_all, length-map}
use Rattle.place_index.specs.Candidates.{beginnings, paths_of}
use Rattle.place_index.specs.Entries.{value_at}
use Rattle.place_index.specs.Found.{span_of, spans_of}
use Rattle.place_index.specs.Index.{DomainPart, Span}
use Rattle.matching.specs.Paths.{slash}

pub drop_step : (xs : List ℕ) (i : ℕ) → i < length xs → drop i xs ≡ get_or xs i 0 ∷ drop (suc i) xs
drop_step [] i l = absurd (omega arith)
drop_step (x ∷ xs) zero l = refl
drop_step (x ∷ xs) (suc i) l = drop_step xs i (omega arith)

pub take_step : (xs : List ℕ) (i : ℕ) → i < length xs → take (suc i) xs ≡ take i xs ++ get_or xs i 0 ∷ []
take_step [] i l = absurd (omega arith)
take_step (x ∷ xs) zero l = refl
take_step (x ∷ xs) (suc i) l = ap (λ ys. x ∷ ys) (take_step xs i (omega arith))

-- a beginning by a range
pub beginning : (xs : List ℕ) (n m : ℕ) → m ≡ n → slice_range xs 0 m ≡ take n xs
beginning xs n m e = let f : m - 0 ≡ n = omega (arith, e) in ap (λ k. take k xs) f

-- one byte more in front of each
front_step : (front : List ℕ) (b : ℕ) (ts : List (List ℕ))
    → map (λ t. front ++ t) (map (λ t. b ∷ t) ts) ≡ map (λ t. (front ++ b ∷ []) ++ t) ts
front_step front b [] = refl
front_step front b (t ∷ ts) = (λ i. sym (append_assoc front (b ∷ []) t) i ∷ front_step front b ts i)

-- the beginnings of the path that are left to come, where a slash stands before the i-th byte or none does
abbrev pub left : List ℕ → ℕ → Bool → List (List ℕ)
left path i behind = map (λ t. take i path ++ t) (beginnings behind (drop i path))

pub left_first : (path : List ℕ) → left path 0 false ≡ beginnings false path
left_first path = map-same (beginnings false path)
  where
    map-same : (ts : List (List ℕ)) → map (λ t. [] ++ t) ts ≡ ts
    map-same [] = refl
    map-same (t ∷ ts) = ap (λ us. t ∷ us) (map-same ts)

pub left_none : (path : List ℕ) (i : ℕ) (behind : Bool) → length path ≤ i → left path i behind ≡ []
left_none path i behind past = ap (λ ts. map (λ t. take i path ++ t) ts) (at_drop_all (beginnings behind) path i past)

module _ (path : List ℕ) (i : ℕ) (behind next : Bool) (is_next : next ≡ eqb (get_or path i 0) slash)
    (l : i < length path) where
  abbrev later : List (List ℕ)
  later = beginnings next (drop (i + 1) path)

  one : suc i ≡ i + 1
  one = omega arith

  opened : beginnings behind (drop i path)
      ≡ cond (behind || next) ([] ∷ map (λ t. get_or path i 0 ∷ t) later) (map (λ t. get_or path i 0 ∷ t) later)
  opened =
      ap (beginnings behind) (drop_step path i l)
      ∙ (λ j. cond (behind || is j)
      ([] ∷ map (λ t. get_or path i 0 ∷ t) (beginnings (is j) (drop (one j) path)))
      (map (λ t. get_or path i 0 ∷ t) (beginnings (is j) (drop (one j) path))))
    where
      is : eqb (get_or path i 0) slash ≡ next
      is = sym is_next

  further : map (λ t. take i path ++ t) (map (λ t. get_or path i 0 ∷ t) later) ≡ left path (i + 1) next
  further =
      front_step (take i path) (get_or path i 0) later
      ∙ ap (λ front. map (λ t. front ++ t) later) (sym (take_step path i l) ∙ ap (λ k. take k path) one)

  -- one of them is asked for
  left_asked : (behind || next) ≡ true → left path i behind ≡ take i path ∷ left path (i + 1) next
  left_asked is =
      ap (map (λ t. take i path ++ t)) (opened ∙ cond-true (behind || next) _ _ is)
      ∙ (λ j. append-nil (take i path) j ∷ further j)

  pub fewer_asked : (behind || next) ≡ true → length (beginnings behind (drop i path)) ≡ suc (length later)
  fewer_asked is =
      ap length (opened ∙ cond-true (behind || next) _ _ is)
      ∙ ap suc (length-map later (λ t. get_or path i 0 ∷ t))

  -- none is
  left_passed : (behind || next) ≡ false → left path i behind ≡ left path (i + 1) next
  left_passed is = ap (map (λ t. take i path ++ t)) (opened ∙ cond-false (behind || next) _ _ is) ∙ further

  pub fewer_passed : (behind || next) ≡ false → length (beginnings behind (drop i path)) ≡ length later
  fewer_passed is =
      ap length (opened ∙ cond-false (behind || next) _ _ is) ∙ length-map later (λ t. get_or path i 0 ∷ t)

  module _ (domain : DomainPart) (before after all : List Span) where
    -- the spans that are there and those to come stay all of them
    pub spans_asked : (behind || next) ≡ true → (asked : List ℕ) → asked ≡ take i path
        → after ≡ before ++ span_of domain (value_at asked domain.paths)
        → before ++ spans_of (left path i behind) (Some domain) ≡ all
        → after ++ spans_of (left path (i + 1) next) (Some domain) ≡ all
    spans_asked is asked same a h =
        ap (λ xs. xs ++ spans_of (left path (i + 1) next) (Some domain))
        (a ∙ ap (λ t. before ++ span_of domain (value_at t domain.paths)) same)
        ∙ append_assoc before (span_of domain (value_at (take i path) domain.paths))
        (spans_of (left path (i + 1) next) (Some domain))
        ∙ ap (λ ts. before ++ spans_of ts (Some domain)) (sym (left_asked is))
        ∙ h

    pub spans_passed : (behind || next) ≡ false → after ≡ before
        → before ++ spans_of (left path i behind) (Some domain) ≡ all
        → after ++ spans_of (left path (i + 1) next) (Some domain) ≡ all
    spans_passed is a h =
        let back = sym (left_passed is) in (λ j. a j ++ spans_of (back j) (Some domain)) ∙ h

-- the path itself is asked for first
pub spans_begun : (domain : DomainPart) (path : List ℕ) (old now : List Span)
    → now ≡ old ++ span_of domain (value_at path domain.paths)
    → now ++ spans_of (left path 0 false) (Some domain) ≡ old ++ spans_of (paths_of path) (Some domain)
spans_begun domain path old now is =
    (λ j. is j ++ spans_of (left_first path j) (Some domain))
    ∙ append_assoc old (span_of domain (value_at path domain.paths)) (spans_of (beginnings false path) (Some domain))
