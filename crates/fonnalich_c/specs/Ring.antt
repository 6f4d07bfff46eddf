-- A ring of keys as C hands it in: the current key and, behind it, the earlier ones, 64 bytes each; and an end for each
-- of the earlier ones (own: docs/DEFINITIONS.md).
use Rattle.std.specs.Prelude.{ℕ, ℤ, pos, ◌≡◌, ◌≢◌, ◌⊎◌, ◌≤◌, ◌<◌, ◌+◌, ◌*◌, ◌-◌, ◌^◌, ◌++◌, List, [], ◌∷◌, length}
use Rattle.std.specs.Prelude.{take, drop, Option, Some, None}
use Rattle.jiff.specs.Types.{DateTime}
use Rattle.jiff.specs.Words.{civil_nanos}
use Rattle.cookie.specs.KeyRing.{Ring}
use Rattle.cookie.specs.declared.secure.key_ring.EarlierKey.{EarlierKey}
use Rattle.fonnalich_c.specs.Given.{IsNoMoment, nanos_of}
use Rattle.fonnalich_c.specs.declared.refusal.Refusal.{Refusal}
use Rattle.fonnalich_c.specs.declared.refusal.Refusal.TheVariants as refusal

-- ---- the end of a key

-- the number of a key that counts at each moment: 2^63 - 1
abbrev pub no_end : ℤ
no_end = pos (2 ^ 63 - 1)

-- a key with this end counts no more from this moment on, or, with none, at each
abbrev pub IsUntil : ℤ → Option DateTime → Type 0
IsUntil end None = end ≡ no_end
IsUntil end (Some at) = civil_nanos at ≡ nanos_of end

-- it is neither none nor a second of the calendar
abbrev pub IsNoEnd : ℤ → Type 0
IsNoEnd end = (end ≢ no_end) × IsNoMoment end

-- one of these is neither
abbrev pub HasNoEnd : List ℤ → Type 0
HasNoEnd ends = (before : List ℤ) × (end : ℤ) × (after : List ℤ) × (ends ≡ before ++ end ∷ after) × IsNoEnd end

-- ---- the keys

abbrev pub IsEarlier : List ℕ → ℤ → EarlierKey → Type 0
IsEarlier key end earlier = (earlier.key ≡ key) × IsUntil end earlier.until

-- each of these has the next 64 bytes and the next end
abbrev pub AreEarlier : List ℕ → List ℤ → List EarlierKey → Type 0
AreEarlier keys [] earlier = earlier ≡ []
AreEarlier keys (end ∷ ends) earlier = (first : EarlierKey) × (later : List EarlierKey) × (earlier ≡ first ∷ later)
    × IsEarlier (take 64 keys) end first × AreEarlier (drop 64 keys) ends later

-- keys and ends make this ring
pub record IsRing (keys : List ℕ) (ends : List ℤ) (ring : Ring) : Type 0 where
  pub few : length ends ≤ 16
  pub whole : length keys ≡ 64 * (length ends + 1)
  pub current : ring.current ≡ take 64 keys
  pub earlier : AreEarlier (drop 64 keys) ends ring.earlier

-- what is wrong with them
abbrev pub IsKeyFault : List ℕ → List ℤ → Refusal → Type 0
IsKeyFault keys ends refused =
    ((refused ≡ refusal.ManyKeys) × (16 < length ends))
    ⊎ ((refused ≡ refusal.Keys) × (length keys ≢ 64 * (length ends + 1)))
    ⊎ ((refused ≡ refusal.KeyEnd) × HasNoEnd ends)
