-- Which of several faults is told (own: docs/DEFINITIONS.md).
use Rattle.std.specs.Prelude.{◌≡◌, ◌⊎◌, ◌≤ℤ◌}
use Rattle.fonnalich_c.specs.Numbers.{refusal_number}
use Rattle.fonnalich_c.specs.declared.refusal.Refusal.{Refusal}
use Rattle.fonnalich_c.specs.declared.refusal.Refusal.TheVariants as refusal

-- Of the faults that hold, the first of the table of numbers: none has a number nearer to 0.
abbrev pub IsFirst : (Refusal → Type 0) → Refusal → Type 0
IsFirst IsFault refused =
    IsFault refused × ((other : Refusal) → IsFault other → refusal_number other ≤ℤ refusal_number refused)

-- what a call tells: want of memory, or its first fault
abbrev pub IsTold : (Refusal → Type 0) → Refusal → Type 0
IsTold IsFault refused = (refused ≡ refusal.Memory) ⊎ IsFirst IsFault refused
