-- The attributes of a cookie, and which pieces give one (RFC 6265, sections 5.2.1 to 5.2.6, and the draft that
-- follows it for SameSite).
use Rattle.std.specs.Prelude.{◌≡◌, ℕ, ◌-◌, ◌^◌, ◌<◌, ◌⊎◌, List, ◌∷◌, length, codes, Option, Some, ℤ, pos, min, IsTrue}
use Rattle.std.specs.Char.{is_ascii_digit}
use Rattle.std.specs.List.{list_all}
use Rattle.std.specs.Str.{str_to_ascii_lowercase}
use Rattle.std.specs.Str.Parse.{digits_value}
use Rattle.jiff.specs.Types.{DateTime}
use Rattle.cookie_text.specs.declared.draft.SameSite.{SameSite}
use Rattle.cookie_text.specs.declared.draft.SameSite.TheVariants.{Strict, Lax, None as Unrestricted}
use Rattle.cookie_text.specs.declared.attribute.Kind.{Kind}
use Rattle.cookie_text.specs.declared.attribute.Kind.TheVariants as kinds
use Rattle.cookie_text.specs.Pieces.{minus, name_of, value_of}
use Rattle.cookie_text.specs.Date.{Stamp, IsDateText, IsMoment}

-- an attribute with its value; max-age is in whole seconds
pub data Attribute : Type 0 where
  HttpOnly : Attribute
  Secure : Attribute
  Partitioned : Attribute
  OfSite : (s : SameSite) → Attribute
  MaxAge : (seconds : ℤ) → Attribute
  Path : (text : List ℕ) → Attribute
  Domain : (text : List ℕ) → Attribute
  Expires : (moment : DateTime) → Attribute

abbrev pub kind : Attribute → Kind
kind HttpOnly = kinds.HttpOnly
kind Secure = kinds.Secure
kind Partitioned = kinds.Partitioned
kind (OfSite s) = kinds.SameSite
kind (MaxAge z) = kinds.MaxAge
kind (Path text) = kinds.Path
kind (Domain text) = kinds.Domain
kind (Expires d) = kinds.Expires

-- the name of an attribute in small letters
abbrev pub kind_name : Kind → List ℕ
kind_name kinds.HttpOnly = codes "httponly"
kind_name kinds.Secure = codes "secure"
kind_name kinds.Partitioned = codes "partitioned"
kind_name kinds.SameSite = codes "samesite"
kind_name kinds.MaxAge = codes "max-age"
kind_name kinds.Path = codes "path"
kind_name kinds.Domain = codes "domain"
kind_name kinds.Expires = codes "expires"

-- one or more digits
abbrev pub AreDigits : List ℕ → Type 0
AreDigits text = (0 < length text) × IsTrue (list_all is_ascii_digit text)

-- so many seconds, and none behind a minus: 60 of `60`, 0 of `-1`
abbrev pub IsSeconds : List ℕ → ℤ → Type 0
IsSeconds text z =
    (AreDigits text × (z ≡ pos (min (digits_value 10 text) (2 ^ 63 - 1))))
    ⊎ ((digits : List ℕ) × (text ≡ minus ∷ digits) × AreDigits digits × (z ≡ pos 0))

-- a SameSite in small letters
abbrev pub small_name : SameSite → List ℕ
small_name Strict = codes "strict"
small_name Lax = codes "lax"
small_name Unrestricted = codes "none"

-- there is a value, and it is so
abbrev pub HasValue : Option (List ℕ) → (List ℕ → Type 0) → Type 0
HasValue value P = (text : List ℕ) × (value ≡ Some text) × P text

-- what a value may say
abbrev pub Says : Option (List ℕ) → Attribute → Type 0
Says value HttpOnly = Unit {0}
Says value Secure = Unit {0}
Says value Partitioned = Unit {0}
Says value (OfSite s) = HasValue value (λ text. str_to_ascii_lowercase text ≡ small_name s)
Says value (MaxAge z) = HasValue value (λ text. IsSeconds text z)
Says value (Path p) = value ≡ Some p
Says value (Domain d) = (value ≡ Some d) × (0 < length d)
Says value (Expires d) = HasValue value (λ text. (s : Stamp) × IsDateText text s × IsMoment s d)

-- the piece gives this attribute: it has its name, in letters of any case, and a value that says so
pub record Gives (piece : List ℕ) (a : Attribute) : Type 0 where
  pub named : str_to_ascii_lowercase (name_of piece) ≡ kind_name (kind a)
  pub says : Says (value_of piece) a
