-- How a play stops in an act: what is wrong, and how far the act's readings came (own: docs/DEFINITIONS.md).
use Rattle.std.specs.Prelude.{ℤ, List, ◌++◌, ◌≡◌, ◌⊎◌}
use Rattle.cookie_client.specs.declared.command.Reading.{Reading}
use Rattle.cookie_run.specs.declared.step.FaultKind.{FaultKind}
use Rattle.cookie_run.specs.declared.step.FaultKind.TheVariants.{Memory}
use Rattle.cookie_client.specs.Steps.{Act, Arrival, Arrives, Never}
use Rattle.cookie_run.specs.Acts.{opening_of, arrival_in}
use Rattle.cookie_run.specs.Moments.{IsWrong, Follows}

-- the readings go on from the old ones by some that are so
abbrev pub GoesOnBy : List Reading → (List Reading → Type 0) → List Reading → Type 0
GoesOnBy old Read readings = (told : List Reading) × Read told × (readings ≡ old ++ told)

-- the moment of the delivery is wrong
abbrev pub IsWrongArrival : FaultKind → ℤ → Arrival → Type 0
IsWrongArrival kind last (Arrives at) = IsWrong kind last at
IsWrongArrival kind last Never = ⊥

-- Past its first moment an act stops for want of memory, with what it reads by the first of its
-- commands, or at the moment of its delivery, with what it reads by all of them.
abbrev pub StopsInside : FaultKind → ℤ → Arrival → List Reading → (List Reading → Type 0) → (List Reading → Type 0)
    → List Reading → Type 0
StopsInside kind last arrival old Front All readings =
    ((kind ≡ Memory) × GoesOnBy old Front readings)
    ⊎ (IsWrongArrival kind last arrival × GoesOnBy old All readings)

-- An act stops at its first moment, with nothing read, or past it.
abbrev pub StopsFrom : FaultKind → ℤ → Act → List Reading → (List Reading → Type 0) → (List Reading → Type 0)
    → List Reading → Type 0
StopsFrom kind last act old Front All readings =
    (IsWrong kind last (opening_of act) × (readings ≡ old))
    ⊎ (Follows last (opening_of act) × StopsInside kind (opening_of act) (arrival_in act) old Front All readings)
