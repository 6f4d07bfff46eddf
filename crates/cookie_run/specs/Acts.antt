-- Steps as plain values: moments are nanoseconds since 1970, lists are lists (own: docs/DEFINITIONS.md).
use Rattle.std.specs.Prelude.{ℤ, List, [], ◌∷◌, ◌++◌, map}
use Rattle.jiff.specs.Words.{civil_nanos}
use Rattle.cookie_client.specs.Steps.{Act, Visits, Answers, Asks, Restarts, Arrival, Arrives, Never}
use Rattle.cookie_run.specs.declared.step.Delivery.{Delivery}
use Rattle.cookie_run.specs.declared.step.Delivery.TheVariants.{At, Lost}
use Rattle.cookie_run.specs.declared.step.Step.{Step}
use Rattle.cookie_run.specs.declared.step.Step.TheVariants.{Exchange, Foreign, Header, Restart}

abbrev pub arrival_of : Delivery → Arrival
arrival_of (At moment) = Arrives (civil_nanos moment)
arrival_of Lost = Never

abbrev pub act_of : Step → Act
act_of (Exchange url at commands delivery) = Visits url (civil_nanos at) commands.items (arrival_of delivery)
act_of (Foreign url lines at) = Answers url (map (λ line. line.items) lines.items) (civil_nanos at)
act_of (Header url at) = Asks url (civil_nanos at)
act_of (Restart at) = Restarts (civil_nanos at)

abbrev pub acts_of : List Step → List Act
acts_of steps = map act_of steps

-- the moment at which an act begins
abbrev pub opening_of : Act → ℤ
opening_of (Visits url at commands arrival) = at
opening_of (Answers url lines at) = at
opening_of (Asks url at) = at
opening_of (Restarts at) = at

-- the delivery of an act, if it has one
abbrev pub arrival_in : Act → Arrival
arrival_in (Visits url at commands arrival) = arrival
arrival_in (Answers url lines at) = Never
arrival_in (Asks url at) = Never
arrival_in (Restarts at) = Never

-- the moments that a play comes to, in order
abbrev pub arrival_moments : Arrival → List ℤ
arrival_moments (Arrives at) = at ∷ []
arrival_moments Never = []

abbrev pub moments_in : Act → List ℤ
moments_in act = opening_of act ∷ arrival_moments (arrival_in act)

abbrev pub moments_of : List Act → List ℤ
moments_of [] = []
moments_of (act ∷ acts) = moments_in act ++ moments_of acts
