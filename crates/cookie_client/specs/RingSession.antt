-- A session on a ring of keys: its cookies, and what it reads of them as its keys count at its moment; values that end
-- (own: docs/DEFINITIONS.md).
use Rattle.std.specs.Prelude.{◌≡◌, ◌↔◌, ℕ, List, Bool, true, false, not, Option, Some, None, MatchOption}
use Rattle.std.specs.Option.{option_map}
use Rattle.jiff.specs.Types.{DateTime}
use Rattle.cookie_text.specs.Record.{Record, Seen}
use Rattle.cookie_text.specs.Setting.{SetsExpires, with_max_age, with_value}
use Rattle.cookie_text.specs.declared.expiration.Expiration.TheVariants.{DateTime as At}
use Rattle.cookie.specs.Jar.{Jar, view}
use Rattle.cookie.specs.KeyRing.{Ring, ReadsFoundUnder, alone}
use Rattle.cookie.specs.Reading.{IsSigned, IsSealed}
use Rattle.cookie_client.specs.declared.ending.EndingWay.{EndingWay}
use Rattle.cookie_client.specs.declared.ending.EndingWay.TheVariants as ends
use Rattle.cookie_client.specs.declared.outcome.SessionError.{SessionError}
use Rattle.cookie_client.specs.declared.outcome.SessionError.TheVariants.{EmptyName, Year, TooLong, Rng, OutOfMemory}
use Rattle.cookie_client.specs.declared.way.Way.{Way}
use Rattle.cookie_client.specs.Ending.{IsKeptUntil, ReadsUntil, is_sealable_until}
use Rattle.cookie_client.specs.declared.way.Way.TheVariants as ways
use Rattle.cookie_client.specs.Jar.{Keyed, IsOpenedBy, ReadsIn, Sets, record_in, value_in}
use Rattle.cookie_client.specs.Ways.{Kind, Plain, Signed, Sealed, kind_of, refusal_of, stored_name, then_long}

-- a session: its ring, the moment at which its keys count, and its jar
pub record Ringed : Type 0 where
  pub ring : Ring
  pub moment : DateTime
  pub jar : Jar

-- the same cookies in a session with the current key alone
abbrev pub keyed : Ringed → Keyed
keyed s = record { key = s.ring.current; jar = s.jar }

-- it has the same ring and the same moment
abbrev pub KeepsRing : Ringed → Ringed → Type 0
KeepsRing old new = (new.ring ≡ old.ring) × (new.moment ≡ old.moment)

-- a session with this ring and this moment on this header, by a reading
pub record IsOpenedOnBy (shown : Bool) (ring : Ring) (now : DateTime) (header : List ℕ) (session : Ringed)
    : Type 0 where
  pub ring_is : session.ring ≡ ring
  pub moment_is : session.moment ≡ now
  pub opened : IsOpenedBy shown ring.current header (keyed session)

-- by the one that reads each pair
abbrev pub IsOpenedOn : Ring → DateTime → List ℕ → Ringed → Type 0
IsOpenedOn ring now header session = IsOpenedOnBy false ring now header session

-- by the one that passes over a pair which hides a prefix
abbrev pub IsOpenedOnShown : Ring → DateTime → List ℕ → Ringed → Type 0
IsOpenedOnShown ring now header session = IsOpenedOnBy true ring now header session

-- ---- getting

-- the value of a cookie that was read, and the place of the key
abbrev pub value_placed : Option (Seen × ℕ) → Option (List ℕ × ℕ)
value_placed read = option_map (λ r. (r.0.cookie.value, r.1)) read

-- a value that no key stands before is of place 0
abbrev pub at_0 : Option (List ℕ) → Option (List ℕ × ℕ)
at_0 value = option_map (λ v. (v, 0)) value

-- the value alone
abbrev pub value_alone : Option (List ℕ × ℕ) → Option (List ℕ)
value_alone read = option_map (λ r. r.0) read

-- what a session reads of a stored name as a value of this kind
abbrev pub RingReadsAs : Ringed → Kind → List ℕ → Option (List ℕ × ℕ) → Type 0
RingReadsAs s Plain name read = read ≡ at_0 (value_in (record_in (view s.jar name)))
RingReadsAs s Signed name read = (found : Option (Seen × ℕ))
    × ReadsFoundUnder IsSigned s.moment s.ring (view s.jar name) found × (read ≡ value_placed found)
RingReadsAs s Sealed name read = (found : Option (Seen × ℕ))
    × ReadsFoundUnder IsSealed s.moment s.ring (view s.jar name) found × (read ≡ value_placed found)

-- what it reads of a name in a way: the value, and the place of the key
abbrev pub RingReadsIn : Ringed → Way → List ℕ → Option (List ℕ × ℕ) → Type 0
RingReadsIn s way name read = RingReadsAs s (kind_of way) (stored_name way name) read

-- what it reads of a name as a value that ends
abbrev pub ReadsEnding : Ringed → EndingWay → List ℕ → Option (List ℕ × ℕ) → Type 0
ReadsEnding s way name read = MatchOption (view s.jar name) (read ≡ None)
    (λ stored. ReadsUntil way s.moment s.ring name stored.cookie.value read)

-- ---- setting a value until a moment

-- the cookie has the moment as its expiry, and no Max-Age
abbrev pub EndsAt : Seen → DateTime → Seen → Type 0
EndsAt s until ending = SetsExpires (with_max_age s None) (At until) ending

-- a value or a name too long to be sealed until a moment
abbrev pub is_ending_too_long : EndingWay → List ℕ → List ℕ → Bool
is_ending_too_long ends.Signed name value = false
is_ending_too_long ends.Sealed name value = not (is_sealable_until name value)

-- why such a cookie isn't set, for its name, its expiry and its lengths: the first of these that there is
abbrev pub until_refusal : EndingWay → Record → Option SessionError
until_refusal way c = then_long (refusal_of c.name c.expires) (is_ending_too_long way c.name c.value)

-- it may be refused so: where nothing else stands against it, its generator may fail where it has to be sealed, and
-- memory may be refused
abbrev pub IsUntilError : EndingWay → Record → SessionError → Type 0
IsUntilError way c EmptyName = until_refusal way c ≡ Some EmptyName
IsUntilError way c Year = until_refusal way c ≡ Some Year
IsUntilError way c TooLong = until_refusal way c ≡ Some TooLong
IsUntilError way c Rng = (way ≡ ends.Sealed) × (until_refusal way c ≡ None)
IsUntilError way c OutOfMemory = until_refusal way c ≡ None

abbrev pub RefusesUntil : EndingWay → Seen → DateTime → SessionError → Type 0
RefusesUntil way s until error = (ending : Seen) × EndsAt s until ending × IsUntilError way ending.cookie error

-- the cookie with the text of its value until a moment in the value's place
abbrev pub IsKeptWith : (List ℕ → Type 0) → List ℕ → EndingWay → Seen → DateTime → Seen → Type 0
IsKeptWith May key way ending until kept = (text : List ℕ)
    × IsKeptUntil May way key ending.cookie.name ending.cookie.value until text × (kept ≡ with_value ending text)

-- an accepted set of a value until a moment: the cookie with its text under the current key is set as it is
pub record SetsUntil (May : List ℕ → Type 0) (old : Ringed) (way : EndingWay) (s : Seen) (until : DateTime)
    (new : Ringed) : Type 0 where
  pub ending : Seen
  pub ends : EndsAt s until ending
  pub accepted : until_refusal way ending.cookie ≡ None
  pub kept : Seen
  pub is_kept : IsKeptWith May old.ring.current way ending until kept
  pub parts : KeepsRing old new
  pub sets : Sets (λ nonce. ⊥) (keyed old) ways.Plain kept (keyed new)

-- ---- laws

-- a session on a ring of one key reads in each way what a session with that key does, at place 0, and nothing else
abbrev pub IsThatSession : Type 0
IsThatSession = (key : List ℕ) (now : DateTime) (jar : Jar) (way : Way) (name : List ℕ) (read : Option (List ℕ × ℕ))
    → RingReadsIn (record { ring = alone key; moment = now; jar = jar }) way name read
    ↔ (ReadsIn (record { key = key; jar = jar }) way name (value_alone read)
    × MatchOption read (Unit {0}) (λ r. r.1 ≡ 0))
