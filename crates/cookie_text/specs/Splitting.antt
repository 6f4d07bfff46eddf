-- Reading several cookies from one text (RFC 6265, section 4.2.1).
use Rattle.std.specs.Prelude.{◌≡◌, ℕ, Bool, not, List, [], ◌∷◌, Option, Some, None, map, length, ◌==◌, ◌<◌, Result}
use Rattle.std.specs.List.{filter}
use Rattle.std.specs.Str.{trim}
use Rattle.cookie_text.specs.declared.error.ParseError.{ParseError}
use Rattle.cookie_text.specs.Pieces.{pieces}
use Rattle.cookie_text.specs.Record.{Seen}
use Rattle.cookie_text.specs.Reading.{ReadsPlain}
use Rattle.cookie_text.specs.Decoding.{ReadsEncoded, ReadsOwned, ReadsEncodedOwned}

-- the text has a character
abbrev pub is_some_text : List ℕ → Bool
is_some_text text = not (length text == 0)

-- the pieces that are read as cookies, each trimmed; pieces of white space alone are passed over
abbrev pub cookie_texts : List ℕ → List (List ℕ)
cookie_texts text = filter is_some_text (map trim (pieces text))

-- the same, where a text is left
abbrev pub texts_left : Option (List ℕ) → List (List ℕ)
texts_left None = []
texts_left (Some text) = cookie_texts text

-- the first of the pieces, and the text of the others
abbrev pub IsCut : List ℕ → List ℕ → Option (List ℕ) → Type 0
IsCut text piece None = pieces text ≡ piece ∷ []
IsCut text piece (Some rest) = (pieces text ≡ piece ∷ pieces rest) × (length rest < length text)

-- how each piece is read: with percent-decoding or without, from a borrowed or an owned text
pub data Way : Type 0 where
  Plain : Way
  Encoded : Way
  PlainOwned : Way
  EncodedOwned : Way

-- the outcome of a piece
abbrev pub IsOutcome : Way → List ℕ → Result Seen ParseError → Type 0
IsOutcome Plain piece r = ReadsPlain piece r
IsOutcome Encoded piece r = ReadsEncoded piece r
IsOutcome PlainOwned piece r = ReadsOwned piece r
IsOutcome EncodedOwned piece r = ReadsEncodedOwned piece r

-- what contracts see of the iterator: the pieces that are left
pub record Splitting : Type 0 where
  pub way : Way
  pub left : List (List ℕ)

-- the first piece that is left gives this outcome, and the others are left
pub record GivesFirst (s : Splitting) (r : Result Seen ParseError) (t : Splitting) : Type 0 where
  pub piece : List ℕ
  pub split : s.left ≡ piece ∷ t.left
  pub outcome : IsOutcome s.way piece r
  pub way : t.way ≡ s.way

-- one call of `next`: the outcome of the first piece, or None where no piece is left
abbrev pub GivesNext : Splitting → Option (Result Seen ParseError) → Splitting → Type 0
GivesNext s None t = (s.left ≡ []) × (t ≡ s)
GivesNext s (Some r) t = GivesFirst s r t

-- all that a splitting gives: one call of `next` after another, until there is none
abbrev pub GivesAll : Splitting → List (Result Seen ParseError) → Type 0
GivesAll s [] = GivesNext s None s
GivesAll s (r ∷ rs) = (t : Splitting) × GivesNext s (Some r) t × GivesAll t rs
