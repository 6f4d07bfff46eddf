-- Which keys of a ring open a text. Of these words `opened_by_ring` cites `GivesValue` and `told`, private contracts
-- the others.
use Rattle.std.specs.Prelude.{◌≡◌, ◌<◌, ◌↔◌, ℕ, Bool, true, false, List, Option, Some, MatchOption, length}
use Rattle.std.specs.Prelude.{slice_index_or}
use Rattle.std.specs.Option.{option_map}
use Rattle.std.specs.Str.{IsUtf8}
use Rattle.std.specs.String.{string_bytes}
use Rattle.std.specs.declared.string.String.{String}
use Rattle.jiff.specs.Types.{DateTime}
use Rattle.seal.specs.Hmac.{hmac}
use Rattle.cookie.specs.Base64.{base64}
use Rattle.cookie.specs.Key.{signing_half}
use Rattle.cookie.specs.KeyRing.{Ring, key_at, GivesAt}
use Rattle.cookie.specs.Sealing.{IsSealedAs, IsSealing}

-- the key of this place counts, and opens it
abbrev pub OpensAt : (List ℕ → Type 0) → DateTime → Ring → ℕ → Type 0
OpensAt Opens now ring place = (key : List ℕ) × (key_at now ring place ≡ Some key) × Opens key

-- the verdict of this place is true
abbrev pub IsYes : List Bool → ℕ → Type 0
IsYes verdicts place = slice_index_or verdicts place false ≡ true

-- at each of 17 places the verdict is true where its key counts and opens, and the ring has no more places
pub record AreVerdicts (Opens : List ℕ → Type 0) (now : DateTime) (ring : Ring) (verdicts : List Bool) : Type 0 where
  pub each : (place : ℕ) → place < 17 → IsYes verdicts place ↔ OpensAt Opens now ring place
  pub few : (place : ℕ) (key : List ℕ) → key_at now ring place ≡ Some key → place < 17

-- the text is the code of the value, as a signing begins with it
abbrev pub IsCode : List ℕ → List ℕ → List ℕ → Type 0
IsCode code value key = code ≡ base64 (hmac (signing_half key) value)

-- the bytes are sealed from some value under the name
abbrev pub AreSealed : List ℕ → List ℕ → List ℕ → Type 0
AreSealed name bytes key =
    (value : List ℕ) × (nonce : List ℕ) × (length nonce ≡ 12) × IsSealedAs key name value nonce bytes

-- the text is a sealing of this value, in UTF-8, under name and key
abbrev pub GivesValue : List ℕ → List ℕ → List ℕ → List ℕ → Type 0
GivesValue name text key value = IsUtf8 value × IsSealing key name value text

-- of the places below n, as GivesUnder says it of all
abbrev pub GivesBelow : (List ℕ → List ℕ → Type 0) → DateTime → Ring → ℕ → Option (List ℕ × ℕ) → Type 0
GivesBelow Gives now ring n given = MatchOption given
    ((p : ℕ) (k v : List ℕ) → p < n → key_at now ring p ≡ Some k → ¬ (Gives k v))
    (λ g. GivesAt Gives now ring g.0 g.1)

-- a text and a place, with the text's bytes
abbrev pub told : {Y : Type 0} → Option (String Y × ℕ) → Option (List ℕ × ℕ)
told opened = option_map (λ o. (string_bytes o.0, o.1)) opened
