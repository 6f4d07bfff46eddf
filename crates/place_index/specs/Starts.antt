-- Parts whose starts stand in a list of their own.
use Rattle.std.specs.Prelude.{◌≡◌, ◌+◌, ℕ, zero, suc, List, [], ◌∷◌, length, map}
use Rattle.std.specs.List.Sorted.{IsNonDecreasing}
use Rattle.place_index.specs.Entries.{HaveOwnTexts}

-- each text's part: `part` of its start and of its rows
abbrev pub with_starts : {R P : Type 0} → (ℕ → R → P) → List ℕ → List (List ℕ × R) → List (List ℕ × P)
with_starts part [] rows = []
with_starts part (start ∷ starts) [] = []
with_starts part (start ∷ starts) (row ∷ rows) = (row.0, part start row.1) ∷ with_starts part starts rows

-- each text has a start, no two are one, and each part begins where the one before it does or later
pub record AreInOrder {R : Type 0} (starts : List ℕ) (rows : List (List ℕ × R)) : Type 0 where
  pub each : length starts ≡ length rows
  pub apart : HaveOwnTexts rows
  pub ascend : IsNonDecreasing starts
