-- A line whose dates are known: each date that user agents read and the strict forms don't is written in the first of
-- those forms (RFC 6265, sections 5.1.1 and 5.2.1).
use Rattle.std.specs.Prelude.{◌≡◌, ◌⊎◌, ◌∷◌, ◌++◌, ℕ, List, codes, Option, Result, Ok, Err, Some, IsSome}
use Rattle.std.specs.List.{flat_map}
use Rattle.std.specs.Str.{str_to_ascii_lowercase}
use Rattle.jiff.specs.Types.{DateTime}
use Rattle.cookie_text.specs.Attribute.{Gives, Expires, kind_name}
use Rattle.cookie_text.specs.declared.attribute.Kind.TheVariants as kinds
use Rattle.cookie_text.specs.declared.error.ParseError.{ParseError}
use Rattle.cookie_text.specs.declared.expiration.Expiration.{Expiration}
use Rattle.cookie_text.specs.declared.expiration.Expiration.TheVariants.{DateTime as At}
use Rattle.cookie_text.specs.Pieces.{semicolon, name_of, pieces, value_of}
use Rattle.cookie_text.specs.Printing.{date_text}
use Rattle.cookie_text.specs.Reading.{HasLast, ReadsPlain, first_piece}
use Rattle.cookie_text.specs.ReadingBack.{Pairwise}
use Rattle.cookie_text.specs.Record.{Seen}
use Rattle.user_agent.specs.Dates.{Date, IsMomentOf, Shows}

-- the piece is an Expires with this value: its name is that in letters of any case
pub record IsExpires (piece text : List ℕ) : Type 0 where
  pub named : str_to_ascii_lowercase (name_of piece) ≡ kind_name kinds.Expires
  pub value : value_of piece ≡ Some text

-- the piece is an Expires whose value isn't in a strict form and shows this moment as a cookie-date:
-- ` expires=Thu, 1-Jan-70 0:00:00 UTC`
pub record HasLooseDate (piece : List ℕ) (m : DateTime) : Type 0 where
  pub text : List ℕ
  pub date : Date
  pub is : IsExpires piece text
  pub strict : (d : DateTime) → ¬ (Gives piece (Expires d))
  pub shown : Shows text date
  pub moment : IsMomentOf date m

-- the moment in the first of the strict forms: ` Expires=Thu, 01 Jan 1970 00:00:00 GMT`
abbrev pub dated_piece : DateTime → List ℕ
dated_piece m = codes " Expires=" ++ date_text m

-- a piece as it is then: such a one with its moment so, any other as it stands
abbrev pub IsKnown : List ℕ → List ℕ → Type 0
IsKnown piece known =
    ((m : DateTime) × HasLooseDate piece m × (known ≡ dated_piece m))
    ⊎ (((m : DateTime) → ¬ (HasLooseDate piece m)) × (known ≡ piece))

-- the pieces behind the first one, each behind a semicolon
abbrev pub joined_behind : List ℕ → List (List ℕ) → List ℕ
joined_behind first rest = first ++ flat_map (λ piece. semicolon ∷ piece) rest

-- the line with its dates known: the first piece as it stands, and each other as it is then
pub record IsKnownLine (line known : List ℕ) : Type 0 where
  pub rest : List (List ℕ)
  pub others : List (List ℕ)
  pub cut : pieces line ≡ first_piece line ∷ rest
  pub each : Pairwise IsKnown rest others
  pub joined : known ≡ joined_behind (first_piece line) others

-- a step of the code, for a private contract alone: the pieces of a text, their dates known, put behind what is there
abbrev pub PutsKnown : List ℕ → List ℕ → List ℕ → Type 0
PutsKnown text old new =
    (others : List (List ℕ)) × Pairwise IsKnown (pieces text) others × (new ≡ joined_behind old others)

-- another: a cookie was read that has an end
abbrev pub HasEnd : Result Seen ParseError → Type 0
HasEnd (Ok seen) = IsSome seen.cookie.expires
HasEnd (Err error) = ⊥

-- ---- what it reads as

-- the end that a piece gives, its date in a strict form or any other
abbrev pub GivesKnownEnd : List ℕ → Expiration → Type 0
GivesKnownEnd piece end =
    (d : DateTime) × (Gives piece (Expires d) ⊎ HasLooseDate piece d) × (end ≡ At d)

-- the same cookie, but with the end of the last piece of the line that gives one so
pub record ReadsWithEnd (line : List ℕ) (seen known : Seen) : Type 0 where
  pub end : Option Expiration
  pub rest : List (List ℕ)
  pub cut : pieces line ≡ first_piece line ∷ rest
  pub last : HasLast GivesKnownEnd rest end
  pub same : known ≡ record seen { cookie = record seen.cookie { expires = end } }

-- what the known line reads as, by what the line reads as: the same refusal, or that cookie
abbrev pub ReadsKnown : List ℕ → Result Seen ParseError → Result Seen ParseError → Type 0
ReadsKnown line (Err error) known = known ≡ Err error
ReadsKnown line (Ok seen) (Err error) = ⊥
ReadsKnown line (Ok seen) (Ok known) = ReadsWithEnd line seen known

-- so it is of every line
abbrev pub KnownLinesRead : Type 0
KnownLinesRead =
    (line known : List ℕ) (read outcome : Result Seen ParseError) → IsKnownLine line known → ReadsPlain line read
    → ReadsPlain known outcome → ReadsKnown line read outcome
