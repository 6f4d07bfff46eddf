-- What a text reads as where name and value are percent-decoded (RFC 3986, section 2.1).
use Rattle.std.specs.Prelude.{◌≡◌, ◌↔◌, ◌++◌, ℕ, List, [], Some, None, Result, IfOk, IsOk, IsErrOf, IsOkUnless}
use Rattle.std.specs.Prelude.{MatchResult, Err}
use Rattle.std.specs.Str.{IsUtf8}
use Rattle.percent_encoding.specs.Percent.{percent_decode}
use Rattle.cookie_text.specs.declared.error.ParseError.{ParseError}
use Rattle.cookie_text.specs.declared.error.ParseError.TheVariants.{MissingPair, EmptyName, Utf8Error, OutOfMemory}
use Rattle.cookie_text.specs.Pieces.{HasEquals, HasNoPercent, name_of, text_after}
use Rattle.cookie_text.specs.Record.{Record, Seen, unsliced}
use Rattle.cookie_text.specs.Reading.{HasSlices, HasRest, IsPair, first_piece, ReadsPlain}

-- decoding changes neither of the two
abbrev pub IsUndecoded : List ℕ → List ℕ → Type 0
IsUndecoded name value = (percent_decode name ≡ name) × (percent_decode value ≡ value)

-- the name, decoded, begins with the text: `%5F%5FHost-a` with `__Host-`
abbrev pub DecodedBegins : List ℕ → List ℕ → Type 0
DecodedBegins name text = (rest : List ℕ) × (percent_decode name ≡ text ++ rest)

-- both are UTF-8 when they are decoded
abbrev pub AreUtf8 : List ℕ → List ℕ → Type 0
AreUtf8 name value = IsUtf8 (percent_decode name) × IsUtf8 (percent_decode value)

-- name and value are what stood before and after the `=`, decoded, and slices of the source where decoding changes
-- neither
pub record IsDecoded (before after : List ℕ) (s : Seen) : Type 0 where
  pub name : s.cookie.name ≡ percent_decode before
  pub value : s.cookie.value ≡ percent_decode after
  pub kept : IsUndecoded before after → (s.raw.name ≡ Some before) × (s.raw.value ≡ Some after)
  pub changed : ¬ (IsUndecoded before after) → (s.raw.name ≡ None) × (s.raw.value ≡ None)

-- what is read with decoding where this piece is the pair and the attributes are so: where the pair is one and
-- decodes to UTF-8, a cookie is owed but for want of memory; a pair that doesn't is refused for that, or for want of
-- memory; and a pair without `%` wants no memory
pub record ReadsEncodedWith (AreAttributes : Record → Type 0) (piece : List ℕ)
    (r : Result Seen ParseError) : Type 0 where
  pub accepted : IsOk r → IsPair piece × AreUtf8 (name_of piece) (text_after piece)
  pub owed : IsPair piece → AreUtf8 (name_of piece) (text_after piece) → IsOkUnless r OutOfMemory
  pub decoded : IfOk r (IsDecoded (name_of piece) (text_after piece))
  pub attributes : IfOk r (λ s. AreAttributes s.cookie)
  pub sliced : IfOk r HasSlices
  pub missing_pair : IsErrOf r MissingPair ↔ (¬ (HasEquals piece))
  pub empty_name : IsErrOf r EmptyName ↔ (HasEquals piece × (name_of piece ≡ []))
  pub utf8_error : IsErrOf r Utf8Error → IsPair piece × (¬ (AreUtf8 (name_of piece) (text_after piece)))
  pub no_memory : HasNoPercent (name_of piece) → HasNoPercent (text_after piece) → ¬ (IsErrOf r OutOfMemory)

-- what reading with decoding gives: `a%20b=%31` reads as the cookie `a b` of value `1`
abbrev pub ReadsEncoded : List ℕ → Result Seen ParseError → Type 0
ReadsEncoded text r = ReadsEncodedWith (HasRest text) (first_piece text) r

-- the outcome r in memory of its own: the same cookie with no slice, or want of memory
abbrev pub IsOwnedOutcome : Result Seen ParseError → Result Seen ParseError → Type 0
IsOwnedOutcome r o = MatchResult r
    (λ s. IsOkUnless o OutOfMemory × IfOk o (λ t. t ≡ unsliced s.cookie))
    (λ e. o ≡ Err e)

-- what reading an owned text gives
abbrev pub ReadsOwned : List ℕ → Result Seen ParseError → Type 0
ReadsOwned text o = (r : Result Seen ParseError) × ReadsPlain text r × IsOwnedOutcome r o

-- and with decoding
abbrev pub ReadsEncodedOwned : List ℕ → Result Seen ParseError → Type 0
ReadsEncodedOwned text o = (r : Result Seen ParseError) × ReadsEncoded text r × IsOwnedOutcome r o
