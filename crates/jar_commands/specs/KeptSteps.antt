-- What private functions answer of a jar's file. No public contract names a word of this file.
use Rattle.std.specs.Prelude.{◌≡◌, ◌⊎◌, ℕ, Bool, List, Option, Some, None, Result, Ok, Err}
use Rattle.kept_file.specs.Locks.{Lock, bytes_of, with_put, IsUnread}
use Rattle.jar_commands.specs.Outcomes.{OutcomeText}
use Rattle.jar_commands.specs.Performing.{AnswersTexts}
use Rattle.jar_commands.specs.Plans.{PlanText}
use Rattle.jar_commands.specs.Program.{IsOfFiles, IsUnwritten}
use Rattle.jar_commands.specs.ProgramKept.{Leaves}
use Rattle.jar_commands.specs.declared.failure.Failure.{Failure}

-- an outcome, but for the text that the jar is to hold
abbrev pub IsBut : OutcomeText → OutcomeText → Type 0
IsBut whole outcome =
    (outcome.printed ≡ whole.printed) × (outcome.status ≡ whole.status) × (outcome.file ≡ whole.file)

-- the lock, behind a text that is to take the file's place
abbrev pub put_of : Option (List ℕ) → Lock → Lock
put_of None lock = lock
put_of (Some text) lock = with_put text lock

-- what a plan gives of what was read under the lock, which stays held
abbrev pub PerformsHeld : PlanText → List ℕ → Option (List ℕ) → Lock × Lock → Result OutcomeText Failure → Type 0
PerformsHeld plan suffixes brought lock (Ok outcome) =
    (whole : OutcomeText) × AnswersTexts plan suffixes (bytes_of lock.0) brought (Ok whole) × IsBut whole outcome
    × (lock.1 ≡ put_of whole.jar lock.0)
PerformsHeld plan suffixes brought lock (Err failure) =
    (AnswersTexts plan suffixes (bytes_of lock.0) brought (Err failure) × (lock.1 ≡ lock.0))
    ⊎ ((whole : OutcomeText) × AnswersTexts plan suffixes (bytes_of lock.0) brought (Ok whole) × IsUnwritten failure
    × (lock.1 ≡ put_of whole.jar lock.0))

-- What a plan gives over the jar's file, which it changes or doesn't: the file isn't read, the texts give
-- nothing, the jar isn't written, or all is done but for what is to be printed and for the other file.
abbrev pub GivesKept : Bool → PlanText → List ℕ → Option (List ℕ) → Lock × Lock
    → Result OutcomeText Failure → Type 0
GivesKept changes plan suffixes brought lock (Ok outcome) =
    (stored : Option (List ℕ)) × (whole : OutcomeText) × AnswersTexts plan suffixes stored brought (Ok whole)
    × IsBut whole outcome × Leaves changes plan.jar stored whole.jar lock
GivesKept changes plan suffixes brought lock (Err failure) =
    (IsOfFiles failure × IsUnread lock)
    ⊎ (((stored : Option (List ℕ)) × AnswersTexts plan suffixes stored brought (Err failure)
    × Leaves changes plan.jar stored None lock)
    ⊎ ((stored : Option (List ℕ)) × (whole : OutcomeText) × AnswersTexts plan suffixes stored brought (Ok whole)
    × IsUnwritten failure × Leaves changes plan.jar stored whole.jar lock))
