-- An answer without a handle, in its room (own: docs/DEFINITIONS.md).
use Rattle.std.specs.Prelude.{ℕ, ℤ, pos, ◌≡◌, ◌⊎◌, ◌≤◌, ◌<◌, ◌++◌, List, length, drop}
use Rattle.fonnalich_c.specs.Numbers.{refusal_number}
use Rattle.fonnalich_c.specs.declared.refusal.Refusal.{Refusal}

-- The number is the answer's length. Where there is room for all of it, it stands at the beginning of what is written;
-- else nothing is written.
abbrev pub IsWritten : List ℕ → List ℕ → List ℕ → ℤ → Type 0
IsWritten answer out written number = (number ≡ pos (length answer))
    × (((length answer ≤ length out) × (written ≡ answer ++ drop (length answer) out))
    ⊎ ((length out < length answer) × (written ≡ out)))

-- an answer of this kind is written so, or a refusal of that kind is told and nothing is written
abbrev pub Gives : (List ℕ → Type 0) → (Refusal → Type 0) → List ℕ → List ℕ → ℤ → Type 0
Gives IsAnswer IsRefusal out written number =
    ((answer : List ℕ) × IsAnswer answer × IsWritten answer out written number)
    ⊎ ((refused : Refusal) × IsRefusal refused × (written ≡ out) × (number ≡ refusal_number refused))
