-- A ring of keys: which of them count at a moment, and what is read under it.
use Rattle.std.specs.Prelude.{◌≡◌, ◌<◌, ℕ, zero, suc, Bool, true, List, [], ◌∷◌, Option, Some, None, MatchOption}
use Rattle.std.specs.Prelude.{int_lt, slice_get, if◌then◌else◌}
use Rattle.std.specs.List.{filter}
use Rattle.std.specs.Option.{option_map}
use Rattle.jiff.specs.Types.{DateTime}
use Rattle.jiff.specs.Words.{civil_nanos}
use Rattle.cookie_text.specs.Record.{Seen}
use Rattle.cookie_text.specs.Setting.{with_value}
use Rattle.cookie.specs.declared.secure.key_ring.EarlierKey.{EarlierKey}

-- a current key, and the earlier ones in their order
pub record Ring : Type 0 where
  pub current : List ℕ
  pub earlier : List EarlierKey

-- the ring of one key
abbrev pub alone : List ℕ → Ring
alone key = record { current = key; earlier = [] }

-- ---- which keys count

-- a moment is before an end, and each is where there is none: at 12:00:00 a key counts that ends at 12:00:01, and none
-- that ends at 12:00:00
abbrev pub is_before : DateTime → Option DateTime → Bool
is_before now None = true
is_before now (Some end) = int_lt (civil_nanos now) (civil_nanos end)

-- an earlier key counts at the moment
abbrev pub counts : DateTime → EarlierKey → Bool
counts now earlier = is_before now earlier.until

-- it, where it counts
abbrev pub counting : DateTime → Option EarlierKey → Option (List ℕ)
counting now None = None
counting now (Some earlier) = if counts now earlier then Some earlier.key else None

-- the key of a place, where it counts at the moment: 0 is the current one, which counts at each, 1 is the first of the
-- earlier ones
abbrev pub key_at : DateTime → Ring → ℕ → Option (List ℕ)
key_at now ring zero = Some ring.current
key_at now ring (suc n) = counting now (slice_get ring.earlier n)

-- ---- the ring with a new key

-- those of the current key, which now has this end, and of the earlier ones that count at the moment
abbrev pub kept : DateTime → Option DateTime → Ring → List EarlierKey
kept now end ring = filter (counts now) (record { key = ring.current; until = end } ∷ ring.earlier)

-- the new key is the current one, and these are the earlier ones
abbrev pub rotated : List ℕ → DateTime → Option DateTime → Ring → Ring
rotated key now end ring = record { current = key; earlier = kept now end ring }

-- ---- what is read under it, where Gives says which value a key gives

-- a key that counts at this place gives this value, and no key that counts at an earlier place gives any
pub record GivesAt (Gives : List ℕ → List ℕ → Type 0) (now : DateTime) (ring : Ring) (value : List ℕ) (place : ℕ)
    : Type 0 where
  pub key : List ℕ
  pub counts : key_at now ring place ≡ Some key
  pub gives : Gives key value
  pub first : (p : ℕ) (k v : List ℕ) → p < place → key_at now ring p ≡ Some k → ¬ (Gives k v)

-- no key that counts gives any
abbrev pub GivesNone : (List ℕ → List ℕ → Type 0) → DateTime → Ring → Type 0
GivesNone Gives now ring = (p : ℕ) (k v : List ℕ) → key_at now ring p ≡ Some k → ¬ (Gives k v)

-- the value and its place, or none
abbrev pub GivesUnder : (List ℕ → List ℕ → Type 0) → DateTime → Ring → Option (List ℕ × ℕ) → Type 0
GivesUnder Gives now ring given = MatchOption given (GivesNone Gives now ring) (λ g. GivesAt Gives now ring g.0 g.1)

-- ---- what a jar reads under it, where StandsFor says which value a stored cookie stands for by a key

-- the stored cookie with the value that is given, in the place of its own, and the place of the key
abbrev pub ReadsUnder : (List ℕ → Seen → List ℕ → Type 0) → DateTime → Ring → Seen → Option (Seen × ℕ) → Type 0
ReadsUnder StandsFor now ring stored read = MatchOption read
    (GivesNone (λ key. StandsFor key stored) now ring)
    (λ r. (value : List ℕ) × GivesAt (λ key. StandsFor key stored) now ring value r.1 × (r.0 ≡ with_value stored value))

-- the same of the cookie that a jar gives, where it gives one
abbrev pub ReadsFoundUnder : (List ℕ → Seen → List ℕ → Type 0) → DateTime → Ring → Option Seen → Option (Seen × ℕ)
    → Type 0
ReadsFoundUnder StandsFor now ring found read =
    MatchOption found (read ≡ None) (λ stored. ReadsUnder StandsFor now ring stored read)

-- the cookie without the place
abbrev pub without_place : Option (Seen × ℕ) → Option Seen
without_place read = option_map (λ r. r.0) read

-- what is read without the place
abbrev pub IsReadUnder : (List ℕ → Seen → List ℕ → Type 0) → DateTime → Ring → Seen → Option Seen → Type 0
IsReadUnder StandsFor now ring stored cookie =
    (read : Option (Seen × ℕ)) × ReadsUnder StandsFor now ring stored read × (cookie ≡ without_place read)

abbrev pub IsFoundUnder : (List ℕ → Seen → List ℕ → Type 0) → DateTime → Ring → Option Seen → Option Seen → Type 0
IsFoundUnder StandsFor now ring found cookie =
    (read : Option (Seen × ℕ)) × ReadsFoundUnder StandsFor now ring found read × (cookie ≡ without_place read)
