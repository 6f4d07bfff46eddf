-- What becomes of the store file in a run, under its lock (own: docs/DEFINITIONS.md).
use Rattle.std.specs.Prelude.{ℕ, List, Option, Some, None, Result, Ok, Err, ◌≡◌, ◌⊎◌}
use Rattle.kept_file.specs.Locks.{Lock, IsUnread, bytes_of, kept_so, with_put}
use Rattle.cookie_run.specs.Program.{Asked, Devices, RunGives, asked_of, help_words, version_words}
use Rattle.cookie_run.specs.declared.program.failure.Failure.{Failure}

-- the text that a run gives to be saved, or none
abbrev pub text_of : Result (Option (List ℕ)) Failure → Option (List ℕ)
text_of (Ok text) = text
text_of (Err failure) = None

-- The exit status of what a run gives. A text that isn't put in the store file's place is status 2.
abbrev pub EndsWith : Result (Option (List ℕ)) Failure → ℕ → Type 0
EndsWith (Ok (Some text)) status = (status ≡ 0) ⊎ (status ≡ 2)
EndsWith (Ok None) status = status ≡ 1
EndsWith (Err failure) status = status ≡ 2

-- What is to take the store file's place is the whole text that the run gives for what was read of it while its lock
-- was held, and nothing is where the run gives no text; then the lock is given back. Or the store file wasn't read.
abbrev pub KeepsStore : Type 0 → Devices → List (List ℕ) → Lock × Lock → ℕ → Type 0
KeepsStore Untouched io words lock status =
    ((asked : Asked) × (suffixes : List ℕ) × (stored : Option (List ℕ)) × (given : Result (Option (List ℕ)) Failure)
    × (asked_of words ≡ Ok asked) × RunGives Untouched io words suffixes stored given × EndsWith given status
    × (lock.1 ≡ kept_so asked.store_file stored (text_of given)))
    ⊎ ((status ≡ 2) × IsUnread lock)

-- words that ask for the help or the version leave the lock
abbrev pub WordsKeep : Type 0 → Devices → List (List ℕ) → Lock × Lock → ℕ → Type 0
WordsKeep Untouched io words lock status =
    (((words ≡ help_words) ⊎ (words ≡ version_words)) × (lock.1 ≡ lock.0)) ⊎ KeepsStore Untouched io words lock status

-- ---- for private contracts alone

-- the lock, behind what a run gives
abbrev pub put_by : Result (Option (List ℕ)) Failure → Lock → Lock
put_by (Ok (Some text)) lock = with_put text lock
put_by (Ok None) lock = lock
put_by (Err failure) lock = lock

-- what a run gives of what was read under the lock, which stays held
abbrev pub RunKeeps : Type 0 → Devices → List (List ℕ) → List ℕ → Lock × Lock → ℕ → Type 0
RunKeeps Untouched io words suffixes lock status = (given : Result (Option (List ℕ)) Failure)
    × RunGives Untouched io words suffixes (bytes_of lock.0) given × EndsWith given status
    × (lock.1 ≡ put_by given lock.0)
