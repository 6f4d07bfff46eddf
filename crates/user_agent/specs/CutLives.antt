-- A line whose life is cut at 400 days (the draft that follows RFC 6265, 5.5; 5.6.1, step 4; 5.6.2, step 6).
use Rattle.std.specs.Prelude.{◌≡◌, ◌⊎◌, ◌∷◌, ◌+ℤ◌, ◌≤ℤ◌, ◌<ℤ◌, ℕ, ℤ, pos, List, codes, Option, Some, None, option_map}
use Rattle.std.specs.Prelude.{IsSomeAnd, Result, Ok, Err}
use Rattle.std.specs.Int.{int_min}
use Rattle.jiff.specs.Types.{DateTime}
use Rattle.jiff.specs.Words.{civil_nanos}
use Rattle.cookie_text.specs.Attribute.{Expires, Gives, MaxAge}
use Rattle.cookie_text.specs.declared.error.ParseError.{ParseError}
use Rattle.cookie_text.specs.declared.expiration.Expiration.{Expiration}
use Rattle.cookie_text.specs.declared.expiration.Expiration.TheVariants.{DateTime as At, Session}
use Rattle.cookie_text.specs.Normal.{whole_moment}
use Rattle.cookie_text.specs.Pieces.{pieces}
use Rattle.cookie_text.specs.Reading.{ReadsPlain, first_piece}
use Rattle.cookie_text.specs.ReadingBack.{Pairwise}
use Rattle.cookie_text.specs.Record.{Record, Seen, moment_of}
use Rattle.store_parts.specs.Expiry.{seconds}
use Rattle.user_agent.specs.KnownDates.{dated_piece, joined_behind}

-- 400 days, in seconds
abbrev pub longest : ℕ
longest = 34_560_000

-- the moment is 400 days after now, in a year that the strict forms can write
pub record IsLimit (now : ℤ) (m : DateTime) : Type 0 where
  pub moment : civil_nanos m ≡ now +ℤ seconds longest
  pub written : pos 100 ≤ℤ m.date.year

-- the piece is a Max-Age over 400 days
abbrev pub HasLongAge : List ℕ → Type 0
HasLongAge piece = (z : ℤ) × Gives piece (MaxAge z) × (pos longest <ℤ z)

-- the piece is an Expires past this moment, 400 days after now
pub record EndsPast (now : ℤ) (piece : List ℕ) (m : DateTime) : Type 0 where
  pub date : DateTime
  pub given : Gives piece (Expires date)
  pub limit : IsLimit now m
  pub late : civil_nanos m <ℤ civil_nanos date

-- a piece as it is then: 400 days in the place of a longer Max-Age, that moment in the first of the strict forms, which
-- drops its fraction, in the place of a later one, any other as it stands
abbrev pub IsCut : ℤ → List ℕ → List ℕ → Type 0
IsCut now piece cut =
    (HasLongAge piece × (cut ≡ codes " Max-Age=34560000"))
    ⊎ (((m : DateTime) × EndsPast now piece m × (cut ≡ dated_piece m))
    ⊎ ((¬ (HasLongAge piece)) × ((m : DateTime) → ¬ (EndsPast now piece m)) × (cut ≡ piece)))

-- the line with its life cut: the first piece as it stands, and each other as it is then
pub record IsCutLine (now : ℤ) (line cut : List ℕ) : Type 0 where
  pub rest : List (List ℕ)
  pub others : List (List ℕ)
  pub parts : pieces line ≡ first_piece line ∷ rest
  pub each : Pairwise (IsCut now) rest others
  pub joined : cut ≡ joined_behind (first_piece line) others

-- ---- what it reads as

-- an expiry as it is then: past the limit, the whole second of it
abbrev pub IsCutEnd : ℤ → Option Expiration → Option Expiration → Type 0
IsCutEnd now (Some (At d)) cut =
    ((m : DateTime) × IsLimit now m × (civil_nanos m <ℤ civil_nanos d) × (cut ≡ Some (At (whole_moment m))))
    ⊎ (((m : DateTime) → IsLimit now m → ¬ (civil_nanos m <ℤ civil_nanos d)) × (cut ≡ Some (At d)))
IsCutEnd now (Some Session) cut = cut ≡ Some Session
IsCutEnd now None cut = cut ≡ None

-- the same cookie, but with a Max-Age of 400 days at most, and an expiry as it is then
pub record ReadsCut (now : ℤ) (seen cut : Seen) : Type 0 where
  pub end : Option Expiration
  pub is_end : IsCutEnd now seen.cookie.expires end
  pub same : cut ≡ record seen {
    cookie = record seen.cookie {
      max_age = option_map (λ age. int_min age (seconds longest)) seen.cookie.max_age;
      expires = end;
    };
  }

-- what the cut line reads as, by what the line reads as: the same refusal, or that cookie
abbrev pub ReadsAsCut : ℤ → Result Seen ParseError → Result Seen ParseError → Type 0
ReadsAsCut now (Err error) cut = cut ≡ Err error
ReadsAsCut now (Ok seen) (Err error) = ⊥
ReadsAsCut now (Ok seen) (Ok cut) = ReadsCut now seen cut

-- so it is of every line
abbrev pub CutLinesRead : Type 0
CutLinesRead =
    (now : ℤ) (line cut : List ℕ) (read outcome : Result Seen ParseError) → IsCutLine now line cut
    → ReadsPlain line read → ReadsPlain cut outcome → ReadsAsCut now read outcome

-- ---- steps of the code, for private contracts alone

-- the pieces of a text, their life cut, put behind what is there
abbrev pub PutsCut : ℤ → List ℕ → List ℕ → List ℕ → Type 0
PutsCut now text old new =
    (others : List (List ℕ)) × Pairwise (IsCut now) (pieces text) others × (new ≡ joined_behind old others)

-- what is put in the place of a piece
abbrev pub IsBriefer : ℤ → List ℕ → List ℕ → Type 0
IsBriefer now piece cut =
    (HasLongAge piece × (cut ≡ codes " Max-Age=34560000"))
    ⊎ ((m : DateTime) × EndsPast now piece m × (cut ≡ dated_piece m))

-- the piece isn't to be cut
abbrev pub IsBrief : ℤ → List ℕ → Type 0
IsBrief now piece = (¬ (HasLongAge piece)) × ((m : DateTime) → ¬ (EndsPast now piece m))

-- the cookie has a Max-Age over 400 days
abbrev pub IsLong : Record → Type 0
IsLong cookie = IsSomeAnd cookie.max_age (λ age. seconds longest <ℤ age)

-- its expiry is past this moment, 400 days after now
abbrev pub IsPast : ℤ → Record → DateTime → Type 0
IsPast now cookie m =
    IsLimit now m × IsSomeAnd (moment_of cookie.expires) (λ end. civil_nanos m <ℤ civil_nanos end)

-- what is put in the place of a piece that gives the cookie its attributes
abbrev pub IsBrieferFor : ℤ → Record → List ℕ → Type 0
IsBrieferFor now cookie cut =
    (IsLong cookie × (cut ≡ codes " Max-Age=34560000"))
    ⊎ ((m : DateTime) × IsPast now cookie m × (cut ≡ dated_piece m))

abbrev pub IsBriefCookie : ℤ → Record → Type 0
IsBriefCookie now cookie = (¬ (IsLong cookie)) × ((m : DateTime) → ¬ (IsPast now cookie m))
