-- How far a reader has come: for private clauses.
use Rattle.std.specs.Prelude.{ℕ, ◌≡◌, List, ◌∷◌, ◌++◌}
use Rattle.saved_text.specs.Grammar.{Grammar, Word, IsOf, IsFront}
use Rattle.saved_text.specs.Grammar.Grammar.{seq}

-- Behind the front x the text is of G where the rest is of H, whatever stands in the place of the rest, and nothing
-- else makes it one of G; and so are their fronts.
pub record Leads (G : Grammar) (text : List ℕ) (s : List Word) (H : Grammar) (rest : List ℕ) : Type 0 where
  pub x : List ℕ
  pub split : text ≡ x ++ rest
  pub down : (w : List Word) → IsOf G text w → (t : List Word) × IsOf H rest t × (w ≡ s ++ t)
  pub up : (y : List ℕ) (t : List Word) → IsOf H y t → IsOf G (x ++ y) (s ++ t)
  pub front_down : (y z : List ℕ) → rest ≡ y ++ z → IsFront G (x ++ y) → IsFront H y
  pub front_up : (y z : List ℕ) → rest ≡ y ++ z → IsFront H y → IsFront G (x ++ y)

-- The text is not of G, and its longest front ends before the rest.
pub record Stuck (G : Grammar) (text rest : List ℕ) : Type 0 where
  pub x : List ℕ
  pub split : text ≡ x ++ rest
  pub front : IsFront G x
  pub none : (w : List Word) → ¬ IsOf G text w
  pub far : (b : ℕ) (y z : List ℕ) → rest ≡ b ∷ (y ++ z) → ¬ IsFront G (x ++ b ∷ y)

-- A beginning of the text is of g, whatever grammar comes behind it.
abbrev pub Takes : Grammar → List ℕ → List Word → List ℕ → Type 0
Takes g text said rest = (h : Grammar) → Leads (seq g h) text said h rest

abbrev pub Stops : Grammar → List ℕ → List ℕ → Type 0
Stops g text rest = (h : Grammar) → Stuck (seq g h) text rest
