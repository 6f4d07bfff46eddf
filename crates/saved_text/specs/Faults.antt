-- What a private reader answers.
use Rattle.std.specs.Prelude.{ℕ, ◌≡◌, false, List, [], ◌∷◌, ◌++◌, ◌<◌, ◌⊎◌, ◌≢◌}
use Rattle.saved_text.specs.Grammar.{Grammar}
use Rattle.saved_text.specs.Letters.{is_plain, is_digit, is_letter, is_space, AreSpaces}
use Rattle.saved_text.specs.Reads.{Stops}
use Rattle.saved_text.specs.Grammar.Grammar.{seq, sign, number, either, nothing, space}
use Rattle.std.specs.List.{AllByRecursion}
use Rattle.saved_text.specs.declared.ron_text.Stop.{Stop}
use Rattle.saved_text.specs.declared.ron_text.Stop.TheVariants as stop

-- The longest front ends there, or memory was refused.
abbrev pub StopsAs : Grammar → List ℕ → Stop → Type 0
StopsAs g text (stop.Here rest) = Stops g text rest.now
StopsAs g text stop.OutOfMemory = Unit {0}

-- where no digit stands
abbrev pub Undigited : List ℕ → Type 0
Undigited [] = Unit {0}
Undigited (c ∷ r) = is_digit c ≡ false

-- where no letter of an escape stands
abbrev pub Unlettered : List ℕ → Type 0
Unlettered [] = Unit {0}
Unlettered (c ∷ r) = is_letter c ≡ false

-- no more digits are wanted, or none stands here
abbrev pub IsEnd : ℕ → List ℕ → Type 0
IsEnd high r = (high ≡ 0) ⊎ Undigited r

-- so many digits at most, behind those that spell v, and a brace
abbrev pub Number : ℕ → ℕ → Grammar
Number left v = seq (number 0 left v) (sign (125 ∷ []))

-- the text doesn't begin with that byte
abbrev pub BeginsOtherwise : ℕ → List ℕ → Type 0
BeginsOtherwise b [] = Unit {0}
BeginsOtherwise b (c ∷ r) = c ≢ b

-- where a string's quote or backslash stands, or nothing
abbrev pub Unplain : List ℕ → Type 0
Unplain [] = Unit {0}
Unplain (c ∷ r) = is_plain c ≡ false

-- an ASCII byte stands first
abbrev pub BeginsAscii : List ℕ → Type 0
BeginsAscii [] = ⊥
BeginsAscii (b ∷ r) = b < 128

-- where no white space stands
abbrev pub Unspaced : List ℕ → Type 0
Unspaced [] = Unit {0}
Unspaced (c ∷ r) = is_space c ≡ false

-- The rest is what follows all white space.
abbrev pub Spaced : List ℕ → List ℕ → Type 0
Spaced text rest = (p : List ℕ) × AreSpaces p × (text ≡ p ++ rest) × Unspaced rest

-- the byte stands first
abbrev pub BeginsWith : ℕ → List ℕ → Type 0
BeginsWith b text = (r : List ℕ) × (text ≡ b ∷ r)

abbrev pub AreAscii : List ℕ → Type 0
AreAscii bytes = AllByRecursion (λ b. b < 128) bytes

-- an optional comma, and a round bracket
abbrev pub closing : Grammar
closing = seq (either (seq (sign (44 ∷ [])) space) nothing) (sign (41 ∷ []))
