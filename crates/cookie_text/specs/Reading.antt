-- What a text reads as (RFC 6265, section 5.2).
use Rattle.std.specs.Prelude.{◌≡◌, ◌↔◌, ℕ, Bool, true, List, [], ◌∷◌, ◌++◌, All, Option, Some, pos, ℤ, ◌*ℤ◌, ◌==◌, ◌<◌}
use Rattle.std.specs.Prelude.{length, MatchOption, Result, IfOk, IsOk, IsErrOf}
use Rattle.std.specs.List.{before_first}
use Rattle.jiff.specs.Types.{DateTime}
use Rattle.cookie_text.specs.declared.draft.SameSite.{SameSite}
use Rattle.cookie_text.specs.declared.error.ParseError.{ParseError}
use Rattle.cookie_text.specs.declared.error.ParseError.TheVariants.{MissingPair, EmptyName}
use Rattle.cookie_text.specs.declared.expiration.Expiration.{Expiration}
use Rattle.cookie_text.specs.declared.expiration.Expiration.TheVariants.{DateTime as At}
use Rattle.cookie_text.specs.Record.{Record, Seen, domain_of}
use Rattle.cookie_text.specs.Pieces.{semicolon, pieces, HasEquals, name_of, text_after}
use Rattle.cookie_text.specs.Attribute.{Attribute, Gives, HttpOnly, Secure, Partitioned, OfSite, MaxAge, Path, Domain}
use Rattle.cookie_text.specs.Attribute.{Expires}

-- no piece gives such a value
abbrev pub NoneGives : {A : Type 0} → (List ℕ → A → Type 0) → List (List ℕ) → Type 0
NoneGives {A} gives pieces = All (λ piece. (a : A) → ¬ (gives piece a)) pieces

-- the last of the pieces that gives a value gives this one
pub record IsLast {A : Type 0} (gives : List ℕ → A → Type 0) (pieces : List (List ℕ)) (value : A) : Type 0 where
  pub before : List (List ℕ)
  pub piece : List ℕ
  pub after : List (List ℕ)
  pub split : pieces ≡ before ++ piece ∷ after
  pub given : gives piece value
  pub later : NoneGives gives after

-- the value of the last piece that gives one, none where no piece does: 6 of ` Max-Age=5` and ` max-age=6`
abbrev pub HasLast : {A : Type 0} → (List ℕ → A → Type 0) → List (List ℕ) → Option A → Type 0
HasLast gives pieces o = MatchOption o (NoneGives gives pieces) (λ value. IsLast gives pieces value)

-- which piece gives each field
abbrev pub GivesFlag : Attribute → List ℕ → Bool → Type 0
GivesFlag a piece b = Gives piece a × (b ≡ true)

abbrev pub GivesSite : List ℕ → SameSite → Type 0
GivesSite piece s = Gives piece (OfSite s)

-- in nanoseconds
abbrev pub GivesAge : List ℕ → ℤ → Type 0
GivesAge piece nanos = (z : ℤ) × Gives piece (MaxAge z) × (nanos ≡ z *ℤ pos 1_000_000_000)

abbrev pub GivesPath : List ℕ → List ℕ → Type 0
GivesPath piece text = Gives piece (Path text)

abbrev pub GivesDomain : List ℕ → List ℕ → Type 0
GivesDomain piece text = Gives piece (Domain text)

abbrev pub GivesEnd : List ℕ → Expiration → Type 0
GivesEnd piece e = (d : DateTime) × Gives piece (Expires d) × (e ≡ At d)

-- each attribute has the value of the last of the pieces that is valid for it
pub record HasAttributes (pieces : List (List ℕ)) (r : Record) : Type 0 where
  pub http_only : HasLast (GivesFlag HttpOnly) pieces r.http_only
  pub secure : HasLast (GivesFlag Secure) pieces r.secure
  pub partitioned : HasLast (GivesFlag Partitioned) pieces r.partitioned
  pub same_site : HasLast GivesSite pieces r.same_site
  pub max_age : HasLast GivesAge pieces r.max_age
  pub path : HasLast GivesPath pieces r.path
  pub domain : HasLast GivesDomain pieces r.domain
  pub expires : HasLast GivesEnd pieces r.expires

-- path and domain are slices of the source
pub record HasSlices (s : Seen) : Type 0 where
  pub path : s.raw.path ≡ s.cookie.path
  pub domain : s.raw.domain ≡ domain_of s.cookie

-- each part is a slice of the source
pub record IsSliced (s : Seen) : Type 0 where
  pub name : s.raw.name ≡ Some s.cookie.name
  pub value : s.raw.value ≡ Some s.cookie.value
  pub path : s.raw.path ≡ s.cookie.path
  pub domain : s.raw.domain ≡ domain_of s.cookie

-- a pair: an `=`, and more than white space before the first one, as `a=` and ` a = 1`, not `a` and ` =1`
abbrev pub IsPair : List ℕ → Type 0
IsPair piece = HasEquals piece × (0 < length (name_of piece))

-- the piece before the first semicolon, and those after it
abbrev pub first_piece : List ℕ → List ℕ
first_piece text = before_first (λ b. b == semicolon) text

-- the attributes are those of the pieces after the first semicolon
abbrev pub HasRest : List ℕ → Record → Type 0
HasRest text r = (rest : List (List ℕ)) × (pieces text ≡ first_piece text ∷ rest) × HasAttributes rest r

-- what is read where this piece is the pair and the attributes are so: a cookie, or the one error that fits, and
-- never want of memory
pub record ReadsWith (AreAttributes : Record → Type 0) (piece : List ℕ) (r : Result Seen ParseError) : Type 0 where
  pub accepted : IsOk r ↔ IsPair piece
  pub name : IfOk r (λ s. HasEquals piece × (s.cookie.name ≡ name_of piece) × (0 < length s.cookie.name))
  pub value : IfOk r (λ s. s.cookie.value ≡ text_after piece)
  pub attributes : IfOk r (λ s. AreAttributes s.cookie)
  pub raw : IfOk r IsSliced
  pub missing_pair : IsErrOf r MissingPair ↔ (¬ (HasEquals piece))
  pub empty_name : IsErrOf r EmptyName ↔ (HasEquals piece × (name_of piece ≡ []))

-- what reading without decoding gives: `a=1; Path=/` reads as the cookie `a` of value `1` with the path `/`
abbrev pub ReadsPlain : List ℕ → Result Seen ParseError → Type 0
ReadsPlain text r = ReadsWith (HasRest text) (first_piece text) r
