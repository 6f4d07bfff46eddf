-- What the printed text of a cookie that was read reads as (RFC 6265, section 5.2).
use Rattle.std.specs.Prelude.{◌≡◌, ◌≢◌, ◌<◌, ℕ, List, length, true, Some, None, Result, Ok, IfOk, IsOk}
use Rattle.std.specs.List.{AllByRecursion}
use Rattle.std.specs.Str.{IsUtf8, trim}
use Rattle.cookie_text.specs.declared.error.ParseError.{ParseError}
use Rattle.cookie_text.specs.Normal.{IsPiece}
use Rattle.cookie_text.specs.Pieces.{equals, semicolon}
use Rattle.cookie_text.specs.Printing.{printed}
use Rattle.cookie_text.specs.Reading.{ReadsPlain}
use Rattle.cookie_text.specs.Record.{Record, Seen, domain_of}

-- no byte of the text is this one
abbrev pub Lacks : ℕ → List ℕ → Type 0
Lacks byte text = AllByRecursion (λ b. b ≢ byte) text

-- a name and a value as a text gives them: the name isn't empty and has no `=`, neither has a semicolon, nor white
-- space at an end
pub record IsReadPair (name value : List ℕ) : Type 0 where
  pub named : 0 < length name
  pub name_uncut : Lacks equals name
  pub name_whole : Lacks semicolon name
  pub name_trimmed : trim name ≡ name
  pub value_whole : Lacks semicolon value
  pub value_trimmed : trim value ≡ value

-- a cookie of this one's name and value
pub record ReadsSamePair (r : Record) (outcome : Result Seen ParseError) : Type 0 where
  pub accepted : IsOk outcome
  pub pair : IfOk outcome (λ s. (s.cookie.name ≡ r.name) × (s.cookie.value ≡ r.value))

-- what any text reads as has such a name and value
abbrev pub TextsGivePairs : Type 0
TextsGivePairs =
    (text : List ℕ) (s : Seen) → IsUtf8 text → ReadsPlain text (Ok s) → IsReadPair s.cookie.name s.cookie.value

-- and from its printed text, whatever attributes it has, such a name and value read back
abbrev pub PairsReadAgain : Type 0
PairsReadAgain =
    (r : Record) (outcome : Result Seen ParseError) → IsReadPair r.name r.value → ReadsPlain (printed r) outcome
    → ReadsSamePair r outcome

-- the cookie is Secure, and has this path and no Domain
pub record IsBoundTo (text : List ℕ) (c : Record) : Type 0 where
  pub secure : c.secure ≡ Some true
  pub path : c.path ≡ Some text
  pub domain : domain_of c ≡ None

-- and such a cookie reads so again from its printed text, whatever other attributes it has
abbrev pub BoundReadAgain : Type 0
BoundReadAgain =
    (path : List ℕ) (r : Record) (s : Seen) → IsPiece path → IsReadPair r.name r.value → IsBoundTo path r
    → ReadsPlain (printed r) (Ok s) → IsBoundTo path s.cookie
