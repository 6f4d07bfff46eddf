-- What becomes of the jar's file in a run, under its lock (this repository's own).
use Rattle.std.specs.Prelude.{◌≡◌, ◌⊎◌, ℕ, Bool, true, false, List, Option, None, Result, Ok, Err}
use Rattle.kept_file.specs.Locks.{Lock, IsUnread, kept_so}
use Rattle.jar_commands.specs.Outcomes.{OutcomeText}
use Rattle.jar_commands.specs.Performing.{Source}
use Rattle.jar_commands.specs.Plans.{PlanText}
use Rattle.jar_commands.specs.Program.{GivesPlan, IsToldBy, IsWithoutJar, Serves, Writer}
use Rattle.jar_commands.specs.declared.failure.Failure.{Failure}
use Rattle.jar_commands.specs.declared.plan.Command.{Command}
use Rattle.jar_commands.specs.declared.plan.Command.TheVariants as command

-- the commands that change a jar
abbrev pub changes : Command → Bool
changes (command.Receive url start is_one) = true
changes (command.Set url line) = true
changes (command.Remove domain path name) = true
changes command.Clear = true
changes (command.Import file form is_strict) = true
changes other = false

-- the text that the jar is to hold, or none
abbrev pub jar_of : Result OutcomeText Failure → Option (List ℕ)
jar_of (Ok outcome) = outcome.jar
jar_of (Err failure) = None

-- The exit status of what a command gives. Where a file isn't written, or nothing can be printed, it is 2.
abbrev pub EndsWith : Result OutcomeText Failure → ℕ → Type 0
EndsWith (Ok outcome) status = (status ≡ outcome.status) ⊎ (status ≡ 2)
EndsWith (Err failure) status = status ≡ 2

-- a command that changes the jar leaves its lock so, behind what was read and what is put; any other leaves it alone
abbrev pub Leaves : Bool → List ℕ → Option (List ℕ) → Option (List ℕ) → Lock × Lock → Type 0
Leaves true path stored put lock = lock.1 ≡ kept_so path stored put
Leaves false path stored put lock = lock.1 ≡ lock.0

-- What is to take the jar's place is the whole text that the command gives for what was read of the jar while its lock
-- was held, and nothing is where the command gives no text; then the lock is given back. Commands that don't change the
-- jar leave it alone. Or the jar wasn't read.
abbrev pub KeepsJar : Type 0 → Source → PlanText → Lock × Lock → ℕ → Type 0
KeepsJar Unread reader plan lock status =
    ((suffixes : List ℕ) × (stored : Option (List ℕ)) × (given : Option (List ℕ))
    × (result : Result OutcomeText Failure)
    × GivesPlan Unread reader plan suffixes stored given result × EndsWith result status
    × Leaves (changes plan.command) plan.jar stored (jar_of result) lock)
    ⊎ ((status ≡ 2) × IsUnread lock)

-- ---- all

-- what is asked is refused, and nothing is done; or it is done by a plan
abbrev pub RunsWords : Type 0 → Type 0 → Source → Writer → Lock × Lock → ℕ → Type 0
RunsWords Unread Unwritten reader writer lock status =
    ((status ≡ 2) × Unread × Unwritten × (lock.1 ≡ lock.0))
    ⊎ ((plan : PlanText) × (given : Result ℕ Failure) × Serves Unread Unwritten reader writer plan given
    × IsToldBy given status × KeepsJar Unread reader plan lock status)

-- what the program does for its words
abbrev pub Runs : Type 0 → Type 0 → Source → Writer → Lock × Lock → ℕ → Type 0
Runs Unread Unwritten reader writer lock status =
    (IsWithoutJar Unwritten writer status × Unread × (lock.1 ≡ lock.0))
    ⊎ RunsWords Unread Unwritten reader writer lock status
