-- A line without its long attributes (the draft that follows RFC 6265, 5.6, step 6 for an attribute).
use Rattle.std.specs.Prelude.{◌≡◌, ℕ, Bool, nat_le, List, ◌∷◌, filter, length, Result}
use Rattle.cookie_text.specs.declared.error.ParseError.{ParseError}
use Rattle.cookie_text.specs.Pieces.{pieces, text_after}
use Rattle.cookie_text.specs.Reading.{HasAttributes, ReadsPlain, ReadsWith, first_piece}
use Rattle.cookie_text.specs.Record.{Record, Seen}
use Rattle.user_agent.specs.KnownDates.{joined_behind}

-- the attribute-value of the piece, empty without an `=`, has at most 1,024 bytes
abbrev pub is_short : List ℕ → Bool
is_short piece = nat_le (length (text_after piece)) 1024

-- the line without the attributes whose value is longer: the first piece as it stands, and those of the others that
-- are short
pub record IsShortLine (line short : List ℕ) : Type 0 where
  pub rest : List (List ℕ)
  pub cut : pieces line ≡ first_piece line ∷ rest
  pub joined : short ≡ joined_behind (first_piece line) (filter is_short rest)

-- a step of the code, for a private contract alone: the short pieces of a text put behind what is there
abbrev pub PutsShort : List ℕ → List ℕ → List ℕ → Type 0
PutsShort text old new = new ≡ joined_behind old (filter is_short (pieces text))

-- ---- what it reads as

-- the attributes are those of the short pieces after the first semicolon
abbrev pub HasShortRest : List ℕ → Record → Type 0
HasShortRest line r =
    (rest : List (List ℕ)) × (pieces line ≡ first_piece line ∷ rest) × HasAttributes (filter is_short rest) r

-- it reads as the line's pair with the attributes that are left
abbrev pub ShortLinesRead : Type 0
ShortLinesRead =
    (line short : List ℕ) (outcome : Result Seen ParseError) → IsShortLine line short → ReadsPlain short outcome
    → ReadsWith (HasShortRest line) (first_piece line) outcome
