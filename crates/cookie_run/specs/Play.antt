-- A play on the rows of a client, step by step, whatever the nonces and the order of a session's lines; its sessions
-- open by one of the two readings of a header (own: docs/DEFINITIONS.md).
use Rattle.std.specs.Prelude.{ℕ, ℤ, ◌+◌, length, List, [], ◌∷◌, ◌++◌, Bool, false, ◌≡◌, ◌⊎◌}
use Rattle.publicsuffix.specs.Rules.{Rule}
use Rattle.cookie_store.specs.Rows.{Row}
use Rattle.cookie_client.specs.Jar.{Keyed}
use Rattle.cookie_run.specs.Moments.{AllFollow, last_of, the_beginning}
use Rattle.cookie_run.specs.Readings.{all_told}
use Rattle.cookie_client.specs.declared.command.Command.{Command}
use Rattle.cookie_run.specs.declared.step.FaultKind.{FaultKind}
use Rattle.cookie_client.specs.declared.command.Reading.{Reading}
use Rattle.cookie_client.specs.declared.command.Reading.TheVariants.{Header}
use Rattle.cookie_client.specs.Steps.{Act, Visits, Answers, Asks, Restarts, OneStep, Serves}
use Rattle.cookie_run.specs.Acts.{moments_of}
use Rattle.cookie_client.specs.Header.{IsHeader}
use Rattle.cookie_run.specs.Stops.{StopsFrom}

-- by all of its commands
abbrev pub ServesAll : Bool → List ℕ → List ℕ → ℤ → List Command → List Reading → Type 0
ServesAll shown key header at commands told = (new : Keyed) × Serves shown key header at commands told new

-- nothing, where it wasn't opened yet, or by the first of its commands
abbrev pub ServesFront : Bool → List ℕ → List ℕ → ℤ → List Command → List Reading → Type 0
ServesFront shown key header at commands told = (told ≡ [])
    ⊎ ((front : List Command) × (rest : List Command) × (commands ≡ front ++ rest)
    × ServesAll shown key header at front told)

-- ---- the steps

-- what each of the steps reads, and the rows after them
abbrev pub Plays : Bool → List Rule → List ℕ → List Row → List Act → List (List Reading) → List Row → Type 0
Plays shown list key rows [] [] new = new ≡ rows
Plays shown list key rows (step ∷ steps) (told ∷ later) new =
    (mid : List Row) × OneStep shown list key rows step told mid × Plays shown list key mid steps later new
Plays shown list key rows [] (told ∷ later) new = ⊥
Plays shown list key rows (step ∷ steps) [] new = ⊥

-- what a step reads by all its commands
abbrev pub ReadsAll : Bool → List ℕ → List Row → Act → List Reading → Type 0
ReadsAll shown key rows (Visits url at commands arrival) told =
    (header : List ℕ) × IsHeader rows url at header × ServesAll shown key header at commands told
ReadsAll shown key rows (Answers url lines at) told = told ≡ []
ReadsAll shown key rows (Asks url at) told =
    (header : List ℕ) × IsHeader rows url at header × (told ≡ Header header ∷ [])
ReadsAll shown key rows (Restarts at) told = told ≡ []

-- what it reads by the first of its commands, or before it has read
abbrev pub ReadsFront : Bool → List ℕ → List Row → Act → List Reading → Type 0
ReadsFront shown key rows (Visits url at commands arrival) told =
    (told ≡ [])
    ⊎ ((header : List ℕ) × IsHeader rows url at header × ServesFront shown key header at commands told)
ReadsFront shown key rows (Answers url lines at) told = told ≡ []
ReadsFront shown key rows (Asks url at) told = told ≡ []
ReadsFront shown key rows (Restarts at) told = told ≡ []

-- THE PLAY: what a client that begins with no row and this list of public suffixes reads by all the acts, where each
-- session opens by this reading
pub record IsRunOf (shown : Bool) (list : List Rule) (key : List ℕ) (acts : List Act) (readings : List Reading)
    : Type 0 where
  pub told : List (List Reading)
  pub rows : List Row
  pub ran : Plays shown list key [] acts told rows
  pub read : readings ≡ all_told told

-- The same of a play that stopped in a step, counted from 1: the acts before it ran, their moments in order, and it
-- stopped as it must for this kind of fault.
pub record IsRunUntilOf (shown : Bool) (list : List Rule) (key : List ℕ) (acts : List Act) (step : ℕ)
    (kind : FaultKind) (readings : List Reading) : Type 0 where
  pub before : List Act
  pub act : Act
  pub after : List Act
  pub cut : acts ≡ before ++ act ∷ after
  pub at_step : step ≡ length before + 1
  pub told : List (List Reading)
  pub rows : List Row
  pub ran : Plays shown list key [] before told rows
  pub in_order : AllFollow the_beginning (moments_of before)
  pub stops : StopsFrom kind (last_of the_beginning (moments_of before)) act (all_told told)
      (ReadsFront shown key rows act) (ReadsAll shown key rows act) readings

-- by the reading that reads each pair, as `play` plays
abbrev pub IsRun : List Rule → List ℕ → List Act → List Reading → Type 0
IsRun list key acts readings = IsRunOf false list key acts readings

abbrev pub IsRunUntil : List Rule → List ℕ → List Act → ℕ → FaultKind → List Reading → Type 0
IsRunUntil list key acts step kind readings = IsRunUntilOf false list key acts step kind readings
