-- What a look at a text says of it that somebody takes for a list of host names' rules.
use Rattle.std.specs.Prelude.{◌≡◌, ◌⊎◌, ◌+◌, ◌==◌, ◌&&◌, ◌||◌, ℕ, Bool, true, false, not, nat_lt, List, ◌∷◌, ◌++◌}
use Rattle.std.specs.Prelude.{All, length}
use Rattle.std.specs.Char.{is_ascii_alphanumeric}
use Rattle.std.specs.List.{list_any, slice_split}
use Rattle.publicsuffix.specs.Rules.{is_passed_over, line_feed, rule_text, without_mark}

-- a character of ASCII beside letters, digits, `-`, `.`, `*` and `!`
abbrev pub is_stranger : ℕ → Bool
is_stranger b =
    nat_lt b 128 && not (is_ascii_alphanumeric b || (b == 45 || (b == 46 || (b == 42 || b == 33))))

-- no rule of host names: such a character stands before its first white space
abbrev pub is_strange : List ℕ → Bool
is_strange line = list_any is_stranger (rule_text line)

-- the lines of a text
abbrev pub lines_in : List ℕ → List (List ℕ)
lines_in text = slice_split (λ b. b == line_feed) (without_mark text)

abbrev pub IsPassedOver : List ℕ → Type 0
IsPassedOver line = is_passed_over line ≡ true

-- the line of this number, counted from 1, is the first that isn't passed over
pub record IsFirst (text : List ℕ) (number : ℕ) (line : List ℕ) : Type 0 where
  pub before : List (List ℕ)
  pub after : List (List ℕ)
  pub split : lines_in text ≡ before ++ line ∷ after
  pub passed : All IsPassedOver before
  pub shown : is_passed_over line ≡ false
  pub counted : number ≡ length before + 1

-- the first line that isn't passed over has this number, and is no rule of host names
abbrev pub IsStrange : List ℕ → ℕ → Type 0
IsStrange text number = (line : List ℕ) × IsFirst text number line × (is_strange line ≡ true)

-- there is none, or it is of the characters of host names
abbrev pub IsNotStrange : List ℕ → Type 0
IsNotStrange text =
    All IsPassedOver (lines_in text)
    ⊎ ((number : ℕ) × (line : List ℕ) × IsFirst text number line × (is_strange line ≡ false))
