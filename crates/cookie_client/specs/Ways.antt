-- The ways in which a session keeps a cookie: of which kind, under which name, and what it refuses (own:
-- docs/DEFINITIONS.md).
use Rattle.std.specs.Prelude.{◌≡◌, ℕ, List, [], ◌∷◌, ◌++◌, Bool, false, not, Option, Some, None, if◌then◌else◌}
use Rattle.cookie.specs.Prefix.{host_text, secure_text}
use Rattle.cookie.specs.Sealing.{is_sealable}
use Rattle.cookie_text.specs.declared.expiration.Expiration.{Expiration}
use Rattle.cookie_text.specs.Normal.{is_short_year}
use Rattle.cookie_text.specs.Record.{Record}
use Rattle.cookie_client.specs.declared.outcome.SessionError.{SessionError}
use Rattle.cookie_client.specs.declared.outcome.SessionError.TheVariants.{EmptyName, Year, TooLong, Rng, OutOfMemory}
use Rattle.cookie_client.specs.declared.way.Way.{Way}
use Rattle.cookie_client.specs.declared.way.Way.TheVariants as ways

-- how a value is kept
pub data Kind : Type 0 where
  Plain : Kind
  Signed : Kind
  Sealed : Kind

-- the kind of a way, and the name under which it keeps
abbrev pub kind_of : Way → Kind
kind_of ways.Plain = Plain
kind_of ways.Host = Plain
kind_of ways.Secure = Plain
kind_of ways.Signed = Signed
kind_of ways.Sealed = Sealed

abbrev pub stored_name : Way → List ℕ → List ℕ
stored_name ways.Plain name = name
stored_name ways.Host name = host_text ++ name
stored_name ways.Secure name = secure_text ++ name
stored_name ways.Signed name = name
stored_name ways.Sealed name = name

-- ---- why a command is refused

-- the name is empty, or the expiry is of a year below 100
abbrev pub refusal_of : List ℕ → Option Expiration → Option SessionError
refusal_of [] end = Some EmptyName
refusal_of (b ∷ bs) end = if is_short_year end then Some Year else None

-- a value or a name too long to be sealed
abbrev pub is_too_long : Way → List ℕ → List ℕ → Bool
is_too_long ways.Plain name value = false
is_too_long ways.Host name value = false
is_too_long ways.Secure name value = false
is_too_long ways.Signed name value = false
is_too_long ways.Sealed name value = not (is_sealable name value)

abbrev pub then_long : Option SessionError → Bool → Option SessionError
then_long (Some error) long = Some error
then_long None long = if long then Some TooLong else None

-- why a set is refused for its name, its expiry and its lengths: the first of these that there is
abbrev pub set_refusal : Way → Record → Option SessionError
set_refusal way c = then_long (refusal_of c.name c.expires) (is_too_long way c.name c.value)

-- a set may be refused so: where nothing else stands against it, and it has to be sealed, its generator may fail
abbrev pub Refuses : Way → Record → SessionError → Type 0
Refuses way c EmptyName = set_refusal way c ≡ Some EmptyName
Refuses way c Year = set_refusal way c ≡ Some Year
Refuses way c TooLong = set_refusal way c ≡ Some TooLong
Refuses way c Rng = (way ≡ ways.Sealed) × (set_refusal way c ≡ None)
Refuses way c OutOfMemory = ⊥
