-- A session's cookies: what its header brought (RFC 6265, section 4.2.1), what was set and removed since, and the
-- `Set-Cookie` lines of it (section 4.1.1). Names, signings and sealings by way are own: docs/DEFINITIONS.md.
use Rattle.std.specs.Prelude.{◌≡◌, ℕ, List, [], ◌∷◌, codes, map, Option, Some, None, option_map, IfSome}
use Rattle.std.specs.Prelude.{Result, Bool, true, false}
use Rattle.std.specs.Prelude.{if◌then◌else◌}
use Rattle.std.specs.Option.{option_or}
use Rattle.std.specs.List.{AllByRecursion}
use Rattle.std.specs.Str.{bytes_eq, IsUtf8}
use Rattle.std.specs.FinMap as finmap
use Rattle.jiff.specs.Types.{DateTime}
use Rattle.jiff_core.specs.Timestamp.{IsDurationNanos}
use Rattle.cookie_text.specs.declared.error.ParseError.{ParseError}
use Rattle.cookie_text.specs.Normal.{IsReadable}
use Rattle.cookie_text.specs.Printing.{encoded}
use Rattle.cookie_text.specs.Reading.{ReadsPlain}
use Rattle.cookie_text.specs.ReadingBack.{ReadsBack}
use Rattle.cookie_text.specs.Record.{Record, Seen, bare, unsliced}
use Rattle.cookie_text.specs.Setting.{with_value, MakesRemoval}
use Rattle.cookie.specs.ByName.{Lists}
use Rattle.cookie.specs.declared.delta.DeltaCookie.{DeltaCookie as Change}
use Rattle.cookie.specs.declared.delta.DeltaCookie.TheVariants.{Added}
use Rattle.cookie.specs.Jar.{Jar, cookie_of as cookie_in, view, delta, with_change, under_names, Removes}
use Rattle.cookie.specs.Prefix.{prefixed, host as as_host, host_text, secure_text}
use Rattle.cookie.specs.Reading.{ReadsFound, IsSigned, IsSealed}
use Rattle.cookie.specs.Sealing.{SealsAs}
use Rattle.cookie.specs.Signing.{signing}
use Rattle.cookie_client.specs.declared.way.Way.{Way}
use Rattle.cookie_client.specs.declared.way.Way.TheVariants.{Plain, Host, Secure, Signed, Sealed}
use Rattle.cookie_client.specs.declared.outcome.SessionError.{SessionError}
use Rattle.cookie_client.specs.Reading.{AreCookiesBy}
use Rattle.cookie_client.specs.Ways as site
use Rattle.cookie_client.specs.Ways.{Kind, kind_of, stored_name, set_refusal, refusal_of}

-- a session: its key, and its jar
pub record Keyed : Type 0 where
  pub key : List ℕ
  pub jar : Jar

-- the record and the value of a cookie that is there
abbrev pub record_in : Option Seen → Option Record
record_in cookie = option_map (λ s. s.cookie) cookie

abbrev pub value_in : Option Record → Option (List ℕ)
value_in cookie = option_map (λ c. c.value) cookie

-- ---- opening

-- the last cookie of a name
abbrev pub last_in : List Record → List ℕ → Option Record
last_in [] name = None
last_in (c ∷ cs) name = option_or (last_in cs name) (if bytes_eq name c.name then Some c else None)

-- the originals are these cookies, a later one in the place of an earlier one of its name, and nothing was changed
pub record Holds (cookies : List Record) (jar : Jar) : Type 0 where
  pub originals : (name : List ℕ) → record_in (finmap.get jar.originals name) ≡ last_in cookies name
  pub changes : jar.changes ≡ finmap.empty

-- a session with this key on this header, by a reading
pub record IsOpenedBy (shown : Bool) (key header : List ℕ) (session : Keyed) : Type 0 where
  pub cookies : List Record
  pub read : AreCookiesBy shown header cookies
  pub key_is : session.key ≡ key
  pub holds : Holds cookies session.jar

-- by the one that reads each pair
abbrev pub IsOpened : List ℕ → List ℕ → Keyed → Type 0
IsOpened key header session = IsOpenedBy false key header session

-- by the one that passes over a pair which hides a prefix
abbrev pub IsOpenedShown : List ℕ → List ℕ → Keyed → Type 0
IsOpenedShown key header session = IsOpenedBy true key header session

-- ---- getting

-- what a session reads of a stored name as a value of this kind
abbrev pub ReadsAs : Keyed → Kind → List ℕ → Option (List ℕ) → Type 0
ReadsAs session site.Plain name value = value ≡ value_in (record_in (view session.jar name))
ReadsAs session site.Signed name value = (read : Option Seen)
    × ReadsFound (IsSigned session.key) (view session.jar name) read × (value ≡ value_in (record_in read))
ReadsAs session site.Sealed name value = (read : Option Seen)
    × ReadsFound (IsSealed session.key) (view session.jar name) read × (value ≡ value_in (record_in read))

-- what it reads of a name in a way
abbrev pub ReadsIn : Keyed → Way → List ℕ → Option (List ℕ) → Type 0
ReadsIn session way name value = ReadsAs session (kind_of way) (stored_name way name) value

-- ---- setting

-- a cookie as it is sent, whatever its name: as `__Host-` asks for, with the path `/`, secure, and with no domain
abbrev pub sent : Seen → Seen
sent s = as_host s

-- a cookie is kept so in a way, where the nonce of a sealing is one of these
abbrev pub IsKeptAs : (List ℕ → Type 0) → List ℕ → Way → Seen → Seen → Type 0
IsKeptAs May key Plain s kept = kept ≡ s
IsKeptAs May key Host s kept = kept ≡ prefixed host_text s
IsKeptAs May key Secure s kept = kept ≡ prefixed secure_text s
IsKeptAs May key Signed s kept = kept ≡ with_value s (signing key s.cookie.value)
IsKeptAs May key Sealed s kept = (nonce : List ℕ) × May nonce × SealsAs key nonce s kept

-- the cookie, sent and kept so, is the change of its name
abbrev pub ChangesTo : (List ℕ → Type 0) → List ℕ → Way → Seen → Jar → Jar → Type 0
ChangesTo May key way s old new =
    (kept : Seen) × IsKeptAs May key way (sent s) kept × (new ≡ with_change old (Added kept))

-- an accepted set; what it sets is text, and its max-age is a length
pub record Sets (May : List ℕ → Type 0) (old : Keyed) (way : Way) (s : Seen) (new : Keyed) : Type 0 where
  pub name : IsUtf8 s.cookie.name
  pub value : IsUtf8 s.cookie.value
  pub age : IfSome s.cookie.max_age IsDurationNanos
  pub accepted : set_refusal way s.cookie ≡ None
  pub key_is : new.key ≡ old.key
  pub keeps : ChangesTo May old.key way s old.jar new.jar

-- ---- removing

-- the cookie that is taken out
abbrev pub taken : Way → List ℕ → Seen
taken way name = sent (unsliced (bare (stored_name way name) []))

-- why a removal of this name at this moment is refused, if it is: its name, or the expiry that it has
abbrev pub IsRemovalRefusal : List ℕ → DateTime → Option SessionError → Type 0
IsRemovalRefusal name now refusal =
    (removal : Seen) × MakesRemoval (unsliced (bare name [])) now removal
    × (refusal ≡ refusal_of name removal.cookie.expires)

-- an accepted removal
pub record TakesOut (old : Keyed) (way : Way) (name : List ℕ) (now : DateTime) (new : Keyed) : Type 0 where
  pub accepted : IsRemovalRefusal name now None
  pub key_is : new.key ≡ old.key
  pub removes : Removes old.jar (taken way name) now new.jar

-- ---- closing

-- a cookie as a session closes with it: text under a name that isn't empty, Secure, with the path `/` and no domain
pub record IsSent (c : Record) : Type 0 where
  pub name : IsUtf8 c.name
  pub value : IsUtf8 c.value
  pub secure : c.secure ≡ Some true
  pub path : c.path ≡ Some (codes "/")
  pub domain : c.domain ≡ None
  pub age : IfSome c.max_age IsDurationNanos
  pub readable : IsReadable c

-- the line of this cookie reads as its normal form, name and value still escaped
abbrev pub ReadsAsItself : Seen → Type 0
ReadsAsItself s = (outcome : Result Seen ParseError) → ReadsPlain (encoded s.cookie) outcome
    → ReadsBack s.cookie outcome

-- the lines of cookies
abbrev pub lines_of : List Seen → List (List ℕ)
lines_of cookies = map (λ s. encoded s.cookie) cookies

-- the lines that a session closes with: one for each cookie of the delta, in any order, and each reads back
pub record ClosesWith (jar : Jar) (lines : List (List ℕ)) : Type 0 where
  pub cookies : List Seen
  pub lists : Lists (under_names cookies) (delta jar)
  pub are_sent : AllByRecursion (λ s. IsSent s.cookie) cookies
  pub read_back : AllByRecursion ReadsAsItself cookies
  pub printed : lines ≡ lines_of cookies

-- each change is fit to be sent
abbrev pub IsSentJar : Jar → Type 0
IsSentJar jar = (name : List ℕ) (change : Change) → finmap.get jar.changes name ≡ Some change
    → IsSent (cookie_in change).cookie
