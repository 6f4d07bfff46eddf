-- What a request is given of those rows that pass a test: of what it is given of all, those that pass.
use Rattle.std.proofs.Common.{◌≡◌, ◌⊎◌, ◌∙◌, ℕ, ℤ, List, [], ◌∷◌, Bool, true, false, ap, cond, filter, inl, inr}
use Rattle.std.proofs.Common.{map, refl, subst, sym}
use Rattle.std.specs.Borrow.{Bor}
use Rattle.std.specs.Global.{Vec}
use Rattle.std.specs.Prelude.{Err, IfOk, Ok, Result}
use Rattle.std.proofs.lemmas.Bool.{cases_Bool, cond-false, cond-true}
use Rattle.cookie_store.specs.Given.{AreGiven, ArePicked, IsGiven, lent_row}
use Rattle.cookie_store.specs.declared.stored_cookie.Cookie.{Cookie}
use Rattle.cookie_store.specs.Longest.{AreGivenLongest, AreLongestFirst, has_length}
use Rattle.cookie_store.specs.Rows.{Row}
use Rattle.cookie_store.proofs.LongestLemmas.{an_order, told_by_lengths}
use Rattle.url.specs.Parts.{Parts}
use Rattle.user_agent.proofs.StandingLemmas.{filter_falls, filter_swap}

module _ (test : Row → Bool) where
  picked_of_some : (Is : Row → Type 0) (rows picked : List Row) → ArePicked Is rows picked
      → ArePicked Is (filter test rows) (filter test picked)
  picked_of_some Is [] picked none = ap (filter test) none
  picked_of_some Is (row ∷ rows) picked (later, rest, is) =
      by (cases_Bool (test row)) is (picked_of_some Is rows later rest)
    where
      by : (test row ≡ true) ⊎ (test row ≡ false)
          → ((Is row × (picked ≡ row ∷ later)) ⊎ ((¬ (Is row)) × (picked ≡ later)))
          → ArePicked Is (filter test rows) (filter test later)
          → ArePicked Is (filter test (row ∷ rows)) (filter test picked)
      by (inl passes) (inl is) so_far =
          subst (λ l. ArePicked Is l (filter test picked)) (sym (cond-true (test row) _ _ passes))
          (filter test later, so_far, inl (is.0, ap (filter test) is.1 ∙ cond-true (test row) _ _ passes))
      by (inl passes) (inr isnt) so_far =
          subst (λ l. ArePicked Is l (filter test picked)) (sym (cond-true (test row) _ _ passes))
          (filter test later, so_far, inr (isnt.0, ap (filter test) isnt.1))
      by (inr fails) (inl is) so_far =
          subst (λ l. ArePicked Is l (filter test picked)) (sym (cond-false (test row) _ _ fails))
          (subst (ArePicked Is (filter test rows))
          (sym (ap (filter test) is.1 ∙ cond-false (test row) _ _ fails)) so_far)
      by (inr fails) (inr isnt) so_far =
          subst (λ l. ArePicked Is l (filter test picked)) (sym (cond-false (test row) _ _ fails))
          (subst (ArePicked Is (filter test rows)) (sym (ap (filter test) isnt.1)) so_far)

  ordered_of_some : (rows ordered : List Row) → AreLongestFirst rows ordered
      → AreLongestFirst (filter test rows) (filter test ordered)
  ordered_of_some rows ordered first =
      let some = an_order (filter test rows) in
      subst (AreLongestFirst (filter test rows))
      (told_by_lengths some.0 (filter test ordered) some.1.fall (filter_falls test ordered first.fall)
      (λ n. some.1.stable n
      ∙ (filter_swap test (has_length n) rows
      ∙ (ap (filter test) (sym (first.stable n)) ∙ sym (filter_swap test (has_length n) ordered))))) some.1

  pub given_of_some : (rows : List Row) (url : Parts) (now : ℤ) (given : List Row) → AreGivenLongest rows url now given
      → AreGivenLongest (filter test rows) url now (filter test given)
  given_of_some rows url now given (all, are, first) =
      (filter test all, picked_of_some (λ row. IsGiven row url now) rows all are, ordered_of_some all given first)

-- so are they where they are what is left of those that a request is given
pub given_so : {E : Type 0} (r : Result (Vec (Bor Cookie)) E) (test : Row → Bool) (rows : List Row) (url : Parts)
    (now : ℤ) (given : List Row) → AreGivenLongest rows url now given
    → IfOk r (λ left. map lent_row left.items ≡ filter test given)
    → IfOk r (λ left. AreGivenLongest (filter test rows) url now (map lent_row left.items))
given_so (Ok left) test rows url now given are is =
    subst (AreGivenLongest (filter test rows) url now) (sym is) (given_of_some test rows url now given are)
given_so (Err e) test rows url now given are is = tt
