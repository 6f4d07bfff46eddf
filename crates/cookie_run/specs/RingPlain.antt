-- The commands of a session on a ring as commands of a session that signs and seals nothing.
use Rattle.std.specs.Prelude.{◌≡◌, ◌≢◌, ⊤, ℕ, Bool, List, [], ◌∷◌}
use Rattle.std.specs.List.{AllByRecursion}
use Rattle.jiff.specs.Words.{civil_nanos}
use Rattle.cookie.specs.KeyRing.{Ring}
use Rattle.publicsuffix.specs.Rules.{Rule}
use Rattle.cookie_store.specs.Rows.{Row}
use Rattle.cookie_client.specs.Steps as acts
use Rattle.cookie_client.specs.Steps.{Act, Tells}
use Rattle.cookie_run.specs.Play.{Plays}
use Rattle.cookie_run.specs.RingPlay.{Answers, Asks, Restarts, RingAct, RingCommand, RingPlays, RingReading, RingTells}
use Rattle.cookie_run.specs.RingPlay.{Rotates, Visits}
use Rattle.cookie_client.specs.RingSession.{KeepsRing, Ringed, keyed}
use Rattle.cookie_client.specs.declared.command.Command.{Command}
use Rattle.cookie_client.specs.declared.command.Command.TheVariants.{Set, Remove, Get}
use Rattle.cookie_client.specs.declared.command.Reading.{Reading}
use Rattle.cookie_client.specs.declared.way.Way.TheVariants.{Signed, Sealed}

-- it sets and gets in no way that signs or seals
abbrev pub IsPlainCommand : Command → Type 0
IsPlainCommand (Set way cookie) = (way ≢ Signed) × (way ≢ Sealed)
IsPlainCommand (Remove way name) = ⊤
IsPlainCommand (Get way name) = (way ≢ Signed) × (way ≢ Sealed)

-- what they leave, such commands leave
abbrev pub RingCommandsArePlain : Type 0
RingCommandsArePlain = (old new : Ringed) (commands : List RingCommand) (told : List RingReading)
    → RingTells old commands told new
    → (plain : List Command) × (read : List Reading) × AllByRecursion IsPlainCommand plain
    × Tells (keyed old) (civil_nanos old.moment) plain read (keyed new) × KeepsRing old new

-- acts of a play without a ring are those of one on a ring: each exchange by such commands, and no rotation
abbrev pub Mirrors : List RingAct → List Act → Type 0
Mirrors [] plain = plain ≡ []
Mirrors (Visits url at commands arrival ∷ later) plain = (cs : List Command) × (rest : List Act)
    × (plain ≡ acts.Visits url (civil_nanos at) cs arrival ∷ rest) × AllByRecursion IsPlainCommand cs
    × Mirrors later rest
Mirrors (Answers url lines at ∷ later) plain =
    (rest : List Act) × (plain ≡ acts.Answers url lines at ∷ rest) × Mirrors later rest
Mirrors (Asks url at ∷ later) plain = (rest : List Act) × (plain ≡ acts.Asks url at ∷ rest) × Mirrors later rest
Mirrors (Restarts at ∷ later) plain = (rest : List Act) × (plain ≡ acts.Restarts at ∷ rest) × Mirrors later rest
Mirrors (Rotates key at keep_until ∷ later) plain = Mirrors later plain

-- what a play on a ring leaves, a play of such acts leaves, whatever the key
abbrev pub RingPlaysArePlain : Type 0
RingPlaysArePlain = (shown : Bool) (key : List ℕ) (list : List Rule) (ring : Ring) (rows : List Row)
    (acts : List RingAct) (told : List (List RingReading)) (left : Ring) (new : List Row)
    → RingPlays shown list ring rows acts told left new
    → (plain : List Act) × (read : List (List Reading)) × Mirrors acts plain × Plays shown list key rows plain read new
