-- How a string is written in RON.
use Rattle.std.specs.Prelude.{
  ◌≡◌,
  ℕ,
  ◌/◌,
  ◌%◌,
  ◌<◌,
  ◌||◌,
  ◌==◌,
  nat_lt,
  if◌then◌else◌,
  List,
  [],
  ◌∷◌,
  ◌++◌,
  flat_map,
  codes,
}
use Rattle.std.specs.Char.{digit_char}
use Rattle.std.specs.List.{AllByRecursion}
use Rattle.saved_text.specs.Grammar.{IsOf}
use Rattle.saved_text.specs.Ron.{string}
use Rattle.saved_text.specs.Words.{string_words}

-- a number below 256 in hexadecimal digits, without leading zeros
abbrev pub hexadecimal : ℕ → List ℕ
hexadecimal b = if nat_lt b 16 then digit_char b ∷ [] else digit_char (b / 16) ∷ digit_char (b % 16) ∷ []

-- the letter of a short escape, or 0
abbrev pub letter_of : ℕ → ℕ
letter_of b = if b == 34 || b == 92 then b else
    (if b == 10 then 110 else (if b == 13 then 114 else (if b == 9 then 116 else 0)))

abbrev pub written_byte : ℕ → List ℕ
written_byte b = if nat_lt 0 (letter_of b) then 92 ∷ letter_of b ∷ [] else
    (if nat_lt b 32 || b == 127 then codes "\\u{" ++ hexadecimal b ++ codes "}" else b ∷ [])

abbrev pub quoted : List ℕ → List ℕ
quoted s = 34 ∷ (flat_map written_byte s ++ 34 ∷ [])

-- What is written of bytes is a string of the grammar that says these bytes.
abbrev pub StringsAreOfGrammar : Type 0
StringsAreOfGrammar = (s : List ℕ) → AllByRecursion (λ b. b < 256) s → IsOf string (quoted s) (string_words s)

-- bytes that are written as they are
abbrev pub AreSame : List ℕ → Type 0
AreSame bytes = AllByRecursion (λ b. written_byte b ≡ b ∷ []) bytes

-- an ASCII byte stands first, or nothing
abbrev pub IsAsciiFirst : List ℕ → Type 0
IsAsciiFirst [] = Unit {0}
IsAsciiFirst (b ∷ r) = b < 128
