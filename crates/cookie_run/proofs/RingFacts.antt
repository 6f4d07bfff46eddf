-- What the headline on a ring says after a rotation: of a key that still counts, and of one that doesn't.
use Rattle.std.proofs.Common.{◌≡◌, ◌≤◌, inl, inr, ℕ, true, false, List, Option, Some, None, refl, arith}
use Rattle.jiff.specs.Types.{DateTime}
use Rattle.cookie.specs.KeyRing.{alone, is_before, key_at, rotated}
use Rattle.cookie_run.specs.RingSite.{Form, IsGivenBefore, IsGivenOf, RingEntry, Signed}

abbrev entry_by : Form → List ℕ → List ℕ → RingEntry
entry_by form key value = record { form = form; key = key; content = value }

-- the key before counts at place 1, where it is kept past the rotation, till its end
counts_till : (old new : List ℕ) (at now : DateTime) (keep : Option DateTime) → is_before at keep ≡ true
    → is_before now keep ≡ true → key_at now (rotated new at keep (alone old)) 1 ≡ Some old
counts_till old new at now keep kept before = rw (kept, before) refl

-- from its end on it doesn't
over_from : (old new : List ℕ) (at now : DateTime) (keep : Option DateTime) → is_before at keep ≡ true
    → is_before now keep ≡ false → key_at now (rotated new at keep (alone old)) 1 ≡ None
over_from old new at now keep kept over = rw (kept, over) refl

-- one that is not kept past the rotation is gone
gone : (old new : List ℕ) (at now : DateTime) (keep : Option DateTime) → is_before at keep ≡ false
    → key_at now (rotated new at keep (alone old)) 1 ≡ None
gone old new at now keep over = rw over refl

-- what it signed before the rotation is read with its value, at place 1 or 0
signed_is_read : (old new name value : List ℕ) (at now : DateTime) (keep : Option DateTime)
    (read : Option (List ℕ × ℕ)) → is_before at keep ≡ true → is_before now keep ≡ true
    → IsGivenOf now (rotated new at keep (alone old)) Signed name (entry_by Signed old value) read
    → (place : ℕ) × (place ≤ 1) × (read ≡ Some (value, place))
signed_is_read old new name value at now keep read kept before h =
    elim (h.found refl 1 (counts_till old new at now keep kept before)) [
      | inl here ↦ (1, omega arith, here)
      | inr earlier ↦ shown read earlier (h.shown refl tt)
    ]
  where
    shown : (given : Option (List ℕ × ℕ)) → IsGivenBefore 1 given
        → Rattle.std.specs.Prelude.MatchOption given (Unit {0}) (λ g. g.0 ≡ value)
        → (place : ℕ) × (place ≤ 1) × (given ≡ Some (value, place))
    shown None less is = absurd less
    shown (Some g) less is = (g.1, omega (arith, less), (λ i. Some (is i, g.1)))
