-- A play on a ring of one key, without values that end and without rotations, is a play with that key.
use Rattle.std.specs.Prelude.{◌≡◌, ⊤, ℕ, Bool, List, [], ◌∷◌, map}
use Rattle.std.specs.List.{AllByRecursion}
use Rattle.jiff.specs.Words.{civil_nanos}
use Rattle.cookie.specs.KeyRing.{Ring, alone}
use Rattle.publicsuffix.specs.Rules.{Rule}
use Rattle.cookie_store.specs.Rows.{Row}
use Rattle.cookie_client.specs.Steps as acts
use Rattle.cookie_client.specs.Steps.{Act}
use Rattle.cookie_run.specs.Play.{Plays}
use Rattle.cookie_run.specs.RingPlay.{Answers, Asks, Restarts, RingAct, RingCommand, RingPlays, RingReading}
use Rattle.cookie_run.specs.RingPlay.{Get, GetUntil, Header, Read, Refused, Remove, Rotates, Set, SetUntil, Visits}
use Rattle.cookie_client.specs.RingSession.{at_0}
use Rattle.cookie_client.specs.declared.command.Command.{Command}
use Rattle.cookie_client.specs.declared.command.Command.TheVariants as commands
use Rattle.cookie_client.specs.declared.command.Reading.{Reading}
use Rattle.cookie_client.specs.declared.command.Reading.TheVariants as readings

-- a command that knows no moment
abbrev pub HasNoEnd : RingCommand → Type 0
HasNoEnd (Set way cookie) = ⊤
HasNoEnd (SetUntil way cookie until) = ⊥
HasNoEnd (Remove way name) = ⊤
HasNoEnd (Get way name) = ⊤
HasNoEnd (GetUntil way name) = ⊥

-- acts of such commands, and no rotation
abbrev pub AreOfOneKey : List RingAct → Type 0
AreOfOneKey [] = ⊤
AreOfOneKey (Visits url at commands arrival ∷ later) = AllByRecursion HasNoEnd commands × AreOfOneKey later
AreOfOneKey (Answers url lines at ∷ later) = AreOfOneKey later
AreOfOneKey (Asks url at ∷ later) = AreOfOneKey later
AreOfOneKey (Restarts at ∷ later) = AreOfOneKey later
AreOfOneKey (Rotates key at keep_until ∷ later) = ⊥

-- the same commands, acts and readings without a ring
abbrev pub commands_of : List RingCommand → List Command
commands_of [] = []
commands_of (Set way cookie ∷ later) = commands.Set way cookie ∷ commands_of later
commands_of (SetUntil way cookie until ∷ later) = commands_of later
commands_of (Remove way name ∷ later) = commands.Remove way name ∷ commands_of later
commands_of (Get way name ∷ later) = commands.Get way name ∷ commands_of later
commands_of (GetUntil way name ∷ later) = commands_of later

abbrev pub acts_of_one : List RingAct → List Act
acts_of_one [] = []
acts_of_one (Visits url at cs arrival ∷ later) =
    acts.Visits url (civil_nanos at) (commands_of cs) arrival ∷ acts_of_one later
acts_of_one (Answers url lines at ∷ later) = acts.Answers url lines at ∷ acts_of_one later
acts_of_one (Asks url at ∷ later) = acts.Asks url at ∷ acts_of_one later
acts_of_one (Restarts at ∷ later) = acts.Restarts at ∷ acts_of_one later
acts_of_one (Rotates key at keep_until ∷ later) = acts_of_one later

-- a reading with the place 0 behind its value
abbrev pub placed_at_0 : Reading → RingReading
placed_at_0 (readings.Value way name value) = Read way name (at_0 value)
placed_at_0 (readings.Refused error) = Refused error
placed_at_0 (readings.Header header) = Header header

abbrev pub all_placed : List (List Reading) → List (List RingReading)
all_placed read = map (map placed_at_0) read

-- such a play on a ring of one key is a play with that key, which leaves the same rows and reads the same
abbrev pub AreThatPlay : Type 0
AreThatPlay = (shown : Bool) (list : List Rule) (key : List ℕ) (rows : List Row) (steps : List RingAct)
    (told : List (List RingReading)) (left : Ring) (new : List Row) → AreOfOneKey steps
    → RingPlays shown list (alone key) rows steps told left new
    → (read : List (List Reading)) × Plays shown list key rows (acts_of_one steps) read new × (told ≡ all_placed read)
    × (left ≡ alone key)

-- and each play with the key is one on the ring
abbrev pub IsSuchAPlay : Type 0
IsSuchAPlay = (shown : Bool) (list : List Rule) (key : List ℕ) (rows : List Row) (steps : List RingAct)
    (read : List (List Reading)) (new : List Row) → AreOfOneKey steps
    → Plays shown list key rows (acts_of_one steps) read new
    → RingPlays shown list (alone key) rows steps (all_placed read) (alone key) new
