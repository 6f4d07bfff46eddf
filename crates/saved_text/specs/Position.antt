-- A position in a text, by line and column (own: docs/DEFINITIONS.md).
use Rattle.std.specs.Prelude.{
  ℕ,
  ◌≡◌,
  ◌≢◌,
  ◌<◌,
  ◌≤◌,
  ◌+◌,
  ◌==◌,
  ◌⊎◌,
  List,
  [],
  ◌∷◌,
  ◌++◌,
  All,
  length,
  take,
  codes,
  decimal,
}
use Rattle.std.specs.List.{count_by}
use Rattle.std.specs.Str.{IsCharBoundary, chars}
use Rattle.saved_text.specs.declared.position.TextPosition.{TextPosition}

-- The character with the byte n begins at m. Past the last byte m is the text's end.
pub record IsCharacterOf (text : List ℕ) (n m : ℕ) : Type 0 where
  pub bound : m ≤ n
  pub begins : IsCharBoundary text m
  pub last : (i : ℕ) → m < i → i ≤ n → ¬ IsCharBoundary text i

-- What stands behind the last line feed of a text: all of it where it has none.
pub record IsLastLine (text line : List ℕ) : Type 0 where
  pub before : List ℕ
  pub split : text ≡ before ++ line
  pub ended : (before ≡ []) ⊎ ((x : List ℕ) × (before ≡ x ++ 10 ∷ []))
  pub unended : All (λ b. b ≢ 10) line

-- The position of the byte n: in front of its character stands a line feed for each line before its own, and behind the
-- last of them a character for each column before its own.
pub record IsPosition (text : List ℕ) (n : ℕ) (p : TextPosition) : Type 0 where
  pub start : ℕ
  pub character : IsCharacterOf text n start
  pub begun : List ℕ
  pub last : IsLastLine (take start text) begun
  pub line : p.line ≡ count_by (λ b. b == 10) (take start text) + 1
  pub column : p.column ≡ length (chars begun) + 1

-- as in `line 3, column 14`
abbrev pub position_text : TextPosition → List ℕ
position_text p = codes "line " ++ decimal p.line ++ codes ", column " ++ decimal p.column
