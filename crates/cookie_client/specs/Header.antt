-- The `Cookie` header of a request (RFC 6265, 5.4).
use Rattle.std.specs.Prelude.{◌≡◌, ◌++◌, ◌==◌, ℕ, ℤ, List, [], ◌∷◌, length, map, if◌then◌else◌}
use Rattle.cookie_text.specs.Printing.{stripped}
use Rattle.cookie_text.specs.Record.{bare}
use Rattle.url.specs.Parts.{Parts, IsValid}
use Rattle.cookie_store.specs.Given.{AreGiven, pair_of}
use Rattle.cookie_store.specs.Longest.{AreLongestFirst}
use Rattle.cookie_store.specs.Rows.{Row}

-- `name=value` of a pair, both as they stand, and of each pair, joined by `; `
abbrev pub pair_text : List ℕ × List ℕ → List ℕ
pair_text pair = stripped (bare pair.0 pair.1)

abbrev pub header_of : List (List ℕ × List ℕ) → List ℕ
header_of [] = []
header_of (pair ∷ []) = pair_text pair
header_of (pair ∷ next ∷ pairs) = pair_text pair ++ 59 ∷ 32 ∷ header_of (next ∷ pairs)

-- a step of the code, for a private contract alone: the header with one more pair
abbrev pub with_pair : List ℕ → List ℕ × List ℕ → List ℕ
with_pair text pair = if length text == 0 then pair_text pair else text ++ 59 ∷ 32 ∷ pair_text pair

-- the header of a request to the URL at the moment: the pairs of the rows that it is given, longer paths first; the URL
-- is one that was parsed
pub record IsHeader (rows : List Row) (url : Parts) (now : ℤ) (header : List ℕ) : Type 0 where
  pub valid : IsValid url
  pub given : List Row
  pub are_given : AreGiven rows url now given
  pub ordered : List Row
  pub longest : AreLongestFirst given ordered
  pub printed : header ≡ header_of (map pair_of ordered)
