-- Positions in texts of which some are found one by one.
use Rattle.std.proofs.Common.{◌≡◌, ◌+◌, ◌-◌, ◌<◌, ◌≤◌, ◌++◌, ◌∙◌, ℕ, zero, suc, Bool, true, false, cond, List}
use Rattle.std.proofs.Common.{[], ◌∷◌, length, get_or, map, take, refl, sym, ap, arith}
use Rattle.std.specs.Prelude.{All, Option, Some, None, option_map, position, string_bytes}
use Rattle.std.specs.List.{remove}
use Rattle.std.specs.declared.string.String.{String}
use Rattle.std.proofs.lemmas.Bool.{cond-true, cond-false}
use Rattle.std.proofs.lemmas.List.Elements.{All-head, All-tail}
use Rattle.std.proofs.lemmas.List.Edits.{remove-append_right}
use Rattle.std.proofs.lemmas.Option.{none-some}
use Rattle.place_index.proofs.EntryLemmas.{position-step}
use Rattle.place_index.proofs.NameLemmas.{map-remove}
use Rattle.place_index.proofs.StartLemmas.{one_less, still_none}

module _ {K : Type 0} (test : K → Bool) where
  -- the first that passes
  pub position-first : (ks : List K) (i : ℕ) (d : K) → All (λ k. test k ≡ false) (take i ks) → i < length ks
      → test (get_or ks i d) ≡ true → position test ks ≡ Some i
  position-first [] i d fail less is = absurd (omega (arith, less))
  position-first (k ∷ ks) zero d fail less is =
      position-step test k ks ∙ cond-true (test k) _ _ is
  position-first (k ∷ ks) (suc i) d fail less is =
      position-step test k ks
      ∙ cond-false (test k) _ _ (All-head (λ k. test k ≡ false) k (take i ks) fail)
      ∙ ap (option_map suc) (position-first ks i d (All-tail (λ k. test k ≡ false) k (take i ks) fail)
      (omega (arith, less)) is)

  -- none passes
  pub position-nowhere : (ks : List K) (i : ℕ) → All (λ k. test k ≡ false) (take i ks) → length ks ≤ i
      → position test ks ≡ None
  position-nowhere [] i fail past = refl
  position-nowhere (k ∷ ks) zero fail past = absurd (omega (arith, past))
  position-nowhere (k ∷ ks) (suc i) fail past =
      position-step test k ks
      ∙ cond-false (test k) _ _ (All-head (λ k. test k ≡ false) k (take i ks) fail)
      ∙ ap (option_map suc) (position-nowhere ks i (All-tail (λ k. test k ≡ false) k (take i ks) fail)
      (omega (arith, past)))

  -- behind texts none of which passes
  pub position-behind : (ks ls : List K) → position test ks ≡ None
      → position test (ks ++ ls) ≡ option_map (λ n. length ks + n) (position test ls)
  position-behind [] ls none = by (position test ls)
    where
      by : (o : Option ℕ) → o ≡ option_map (λ n. 0 + n) o
      by None = refl
      by (Some n) = let same : n ≡ 0 + n = omega arith in ap Some same
  position-behind (k ∷ ks) ls none =
      position-step test k (ks ++ ls)
      ∙ by (test k) (sym (position-step test k ks) ∙ none) (λ n. position-behind ks ls n)
    where
      next : (o : Option ℕ) → option_map suc (option_map (λ n. length ks + n) o)
          ≡ option_map (λ n. suc (length ks) + n) o
      next None = refl
      next (Some n) = let same : suc (length ks + n) ≡ suc (length ks) + n = omega arith in ap Some same

      by : (b : Bool) → cond b (Some 0) (option_map suc (position test ks)) ≡ None
          → (position test ks ≡ None → position test (ks ++ ls)
          ≡ option_map (λ n. length ks + n) (position test ls))
          → cond b (Some 0) (option_map suc (position test (ks ++ ls)))
          ≡ option_map (λ n. suc (length ks) + n) (position test ls)
      by true p rest = absurd (none-some 0 (sym p))
      by false p rest =
          ap (option_map suc) (rest (still_none (position test ks) p)) ∙ next (position test ls)

  -- among those before
  pub position-before : (ks ls : List K) (i : ℕ) → position test ks ≡ Some i → position test (ks ++ ls) ≡ Some i
  position-before [] ls i is = absurd (none-some i is)
  position-before (k ∷ ks) ls i is =
      position-step test k (ks ++ ls)
      ∙ by (test k) (sym (position-step test k ks) ∙ is) (λ j p. position-before ks ls j p)
    where
      by : (b : Bool) → cond b (Some 0) (option_map suc (position test ks)) ≡ Some i
          → ((j : ℕ) → position test ks ≡ Some j → position test (ks ++ ls) ≡ Some j)
          → cond b (Some 0) (option_map suc (position test (ks ++ ls))) ≡ Some i
      by true p rest = p
      by false p rest =
          let before = one_less (position test ks) i p in
          ap (option_map suc) (rest before.0 before.1) ∙ ap Some before.2

-- a text behind others goes
pub taken_behind : {Y : Type 0} (names : List (List ℕ)) (texts : List (String Y)) (len place : ℕ)
    → length names ≡ len → len ≤ place
    → names ++ map string_bytes (remove texts (place - len)) ≡ remove (names ++ map string_bytes texts) place
taken_behind names texts len place long le =
    ap (λ ts. names ++ ts) (map-remove string_bytes texts (place - len))
    ∙ sym (remove-append_right names (map string_bytes texts) len place long le)
