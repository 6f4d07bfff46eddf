-- Values that end at a moment: the texts that stand for moment and value, and what is read of a text (own:
-- docs/DEFINITIONS.md). Moments are nanoseconds since 1970, in UTC.
use Rattle.std.specs.Prelude.{◌≡◌, ◌<ℤ◌, ℕ, ℤ, List, ◌∷◌, ◌++◌, length, codes, map, Bool, ◌&&◌, ◌+◌, ◌^◌, ◌-◌}
use Rattle.std.specs.Prelude.{nat_le, nat_lt, Option, None, MatchOption}
use Rattle.std.specs.Option.{option_map}
use Rattle.std.specs.Str.{IsUtf8}
use Rattle.std.specs.String.{string_bytes}
use Rattle.std.specs.declared.string.String.{String}
use Rattle.jiff.specs.Types.{DateTime}
use Rattle.jiff.specs.Words.{civil_nanos}
use Rattle.cookie.specs.Key.{derived}
use Rattle.cookie.specs.KeyRing.{Ring, GivesUnder}
use Rattle.cookie.specs.Sealing.{IsSealing, IsSealingUnder}
use Rattle.cookie.specs.Signing.{signing}
use Rattle.cookie.specs.declared.secure.key_ring.EarlierKey.{EarlierKey}
use Rattle.saved_text.specs.DateReading.{IsDateOf}
use Rattle.saved_text.specs.Rfc3339.{date_text}
use Rattle.cookie_client.specs.declared.ending.EndingWay.{EndingWay}
use Rattle.cookie_client.specs.declared.ending.EndingWay.TheVariants.{Signed, Sealed}

-- ---- keys

-- what keys of values that end are derived of, before key and name
abbrev pub label : List ℕ
label = codes "COOKIE;UNTIL:"

-- the key of the values that end under a name, derived of label, key and name
abbrev pub ending_key : List ℕ → List ℕ → List ℕ
ending_key key name = derived (label ++ (key ++ name))

-- an earlier key as such a key, with the same end
abbrev pub ending_earlier : List ℕ → EarlierKey → EarlierKey
ending_earlier name e = record { key = ending_key e.key name; until = e.until }

-- each key of a ring as such a key
abbrev pub ending_ring : List ℕ → Ring → Ring
ending_ring name ring = record {
  current = ending_key ring.current name;
  earlier = map (ending_earlier name) ring.earlier;
}

-- ---- moment and value in one text

-- The moment as a date of twenty bytes (RFC 3339, section 5.6), and then the value: `2026-11-28T12:00:00Zabc`.
pub record IsDated (dated : List ℕ) (end : ℤ) (value : List ℕ) : Type 0 where
  pub stamp : List ℕ
  pub is_text : IsUtf8 stamp
  pub size : length stamp ≡ 20
  pub date : IsDateOf stamp end
  pub parts : dated ≡ stamp ++ value

-- as it is written, without the moment's fraction of a second
abbrev pub dated_text : DateTime → List ℕ → List ℕ
dated_text until value = date_text until ++ value

-- ---- the texts of a cookie

-- A text of this form begins with `~`, which is no symbol of base64.
abbrev pub mark : ℕ
mark = 126

-- by this key, the text stands under the name for a dated text: it is `~` and the signing, or a sealing, of that
abbrev pub StandsFor : EndingWay → List ℕ → List ℕ → List ℕ → List ℕ → Type 0
StandsFor Signed name text key dated = text ≡ mark ∷ signing (ending_key key name) dated
StandsFor Sealed name text key dated =
    (rest : List ℕ) × (text ≡ mark ∷ rest) × IsUtf8 dated × IsSealing (ending_key key name) name dated rest

-- the text of a value until a moment, of a signing
abbrev pub signed_until : List ℕ → List ℕ → List ℕ → DateTime → List ℕ
signed_until key name value until = mark ∷ signing (ending_key key name) (dated_text until value)

-- of the sealing under the nonce
abbrev pub IsSealedUntil : List ℕ → List ℕ → List ℕ → DateTime → List ℕ → List ℕ → Type 0
IsSealedUntil key name value until nonce text = (rest : List ℕ) × (text ≡ mark ∷ rest)
    × IsSealingUnder (ending_key key name) name (dated_text until value) nonce rest

-- a value until a moment has such a text under the name, in the way, where the nonce of a sealing is one of these
abbrev pub IsKeptUntil : (List ℕ → Type 0) → EndingWay → List ℕ → List ℕ → List ℕ → DateTime → List ℕ → Type 0
IsKeptUntil May Signed key name value until text = text ≡ signed_until key name value until
IsKeptUntil May Sealed key name value until text =
    (nonce : List ℕ) × (length nonce ≡ 12) × May nonce × IsSealedUntil key name value until nonce text

-- a value of this length can be sealed until a moment under a name of this one: date and value have 2^36 - 32 bytes at
-- most, and the name has less than 2^61
abbrev pub is_sealable_until : List ℕ → List ℕ → Bool
is_sealable_until name value = nat_le (length value + 20) (2 ^ 36 - 32) && nat_lt (length name) (2 ^ 61)

-- ---- what is read

-- the dated text has this value, and its end is behind the moment
abbrev pub IsValueBefore : ℤ → List ℕ → List ℕ → Type 0
IsValueBefore now dated value = (end : ℤ) × IsDated dated end value × (now <ℤ end)

-- what is read at the moment of a dated text that the key of a place gives: its value and that place
abbrev pub IsReadBefore : ℤ → List ℕ → ℕ → Option (List ℕ × ℕ) → Type 0
IsReadBefore now dated place read = MatchOption read
    ((value : List ℕ) → ¬ (IsValueBefore now dated value))
    (λ r. IsValueBefore now dated r.0 × (r.1 ≡ place))

-- what a ring reads at the moment, where its keys give dated texts so: of the one that the first key gives that counts
-- and gives any; none where no key gives one
abbrev pub ReadsGiven : (List ℕ → List ℕ → Type 0) → DateTime → Ring → Option (List ℕ × ℕ) → Type 0
ReadsGiven Gives now ring read = (given : Option (List ℕ × ℕ)) × GivesUnder Gives now ring given
    × MatchOption given (read ≡ None) (λ g. IsReadBefore (civil_nanos now) g.0 g.1 read)

-- what it reads of a text under a name
abbrev pub ReadsUntil : EndingWay → DateTime → Ring → List ℕ → List ℕ → Option (List ℕ × ℕ) → Type 0
ReadsUntil way now ring name text read = ReadsGiven (StandsFor way name text) now ring read

-- a text and a place, with the text's bytes
abbrev pub placed : {Y : Type 0} → Option (String Y × ℕ) → Option (List ℕ × ℕ)
placed read = option_map (λ r. (string_bytes r.0, r.1)) read
