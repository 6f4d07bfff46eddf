-- What is read of values that end, and that no text is of two forms.
use Rattle.std.specs.Prelude.{◌≡◌, ◌≢◌, ◌≤◌, ◌<ℤ◌, ◌≤ℤ◌, ℕ, ℤ, pos, List, Option, Some, None}
use Rattle.std.specs.Str.{IsUtf8}
use Rattle.jiff.specs.Types.{DateTime}
use Rattle.jiff.specs.Words.{civil_nanos}
use Rattle.cookie.specs.KeyRing.{Ring, key_at}
use Rattle.cookie.specs.Sealing.{IsSealing}
use Rattle.cookie.specs.Signing.{signing}
use Rattle.saved_text.specs.PrintedDates.{without_fraction}
use Rattle.cookie_client.specs.Ending.{IsKeptUntil, ReadsUntil, StandsFor, ending_key, signed_until}
use Rattle.cookie_client.specs.declared.ending.EndingWay.{EndingWay}
use Rattle.cookie_client.specs.declared.ending.EndingWay.TheVariants.{Signed}

-- the value is read, with this place, before the whole second of its end, and nothing from then on
pub record IsReadTill (now : ℤ) (until : DateTime) (value : List ℕ) (place : ℕ) (read : Option (List ℕ × ℕ)) : Type 0
  where
    pub before : now <ℤ without_fraction until → read ≡ Some (value, place)
    pub from : without_fraction until ≤ℤ now → read ≡ None

-- What was kept until a moment of the years from 0 on, under the current key, reads back under its name so, at any
-- moment and whatever the earlier keys and the nonce are.
abbrev pub EndsReadBack : Ring → Type 0
EndsReadBack ring = (way : EndingWay) (name value text : List ℕ) (until now : DateTime) (read : Option (List ℕ × ℕ))
    → pos 0 ≤ℤ until.date.year → IsUtf8 value
    → IsKeptUntil (λ nonce. Unit {0}) way ring.current name value until text
    → ReadsUntil way now ring name text read → IsReadTill (civil_nanos now) until value 0 read

-- What was signed under any key that counts reads back so too, with the place of that key or of one before it.
abbrev pub SignedEndsReadBack : Ring → Type 0
SignedEndsReadBack ring = (name value key : List ℕ) (place : ℕ) (until now : DateTime) (read : Option (List ℕ × ℕ))
    → pos 0 ≤ℤ until.date.year → key_at now ring place ≡ Some key
    → ReadsUntil Signed now ring name (signed_until key name value until) read
    → (p : ℕ) × (p ≤ place) × IsReadTill (civil_nanos now) until value p read

-- No text that stands for a value until a moment, under whatever key and name, is a signing or a sealing of the plain
-- form, under whatever key and name.
abbrev pub FormsAreApart : Type 0
FormsAreApart = (way : EndingWay) (name text key dated : List ℕ) → StandsFor way name text key dated
    → ((k v : List ℕ) → text ≢ signing k v) × ((k n v : List ℕ) → ¬ (IsSealing k n v text))

-- A text that stands under two names, or by two keys, stands for the same by both, and that has one signing under both
-- derived keys: one code of two keys.
abbrev pub NamesAreSigned : Type 0
NamesAreSigned = (name other text key k a b : List ℕ) → StandsFor Signed name text key a
    → StandsFor Signed other text k b
    → (a ≡ b) × (signing (ending_key key name) a ≡ signing (ending_key k other) a)
