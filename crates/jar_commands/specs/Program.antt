-- What the program tells (this repository's own).
use Rattle.std.specs.Prelude.{◌≡◌, ◌⊎◌, ℕ, Bool, true, false, List, [], Option, Result, Ok, Err, codes, unwrap_or}
use Rattle.std.specs.Io.KnownBytes.{Appends}
use Rattle.std.specs.Str.{bytes_eq}
use Rattle.devices.specs.Device.{AppendsFront, Rose}
use Rattle.jar_commands.specs.Outcomes.{OutcomeText}
use Rattle.jar_commands.specs.Performing.{AnswersTexts, Brings, BringsNothing, Source, UnreadBut}
use Rattle.jar_commands.specs.Plans.{PlanText}
use Rattle.jar_commands.specs.declared.failure.Failure.{Failure}
use Rattle.jar_commands.specs.declared.failure.Failure.TheVariants.{SuffixFile, JarInUse, LockFile}
use Rattle.jar_commands.specs.declared.failure.Failure.TheVariants.{JarFile, File, OwnFile, Output, Memory}
use Rattle.jar_commands.specs.declared.plan.Command.{Command}
use Rattle.jar_commands.specs.declared.plan.Command.TheVariants as command

-- what is known of a writer, before and behind a call: what was written, and how many calls failed
pub record Writer : Type 0 where
  pub written : Option (List ℕ) × Option (List ℕ)
  pub unwritten : ℕ × ℕ

-- that of a writer which was `old` and is `new`, by what it has written and its failures
abbrev pub written_by : {W : Type 0} → (W → Option (List ℕ)) → (W → ℕ) → W → W → Writer
written_by written fails old new = record { written = (written old, written new); unwritten = (fails old, fails new) }

-- the text was printed whole
abbrev pub Printed : Writer → List ℕ → Type 0
Printed writer text = Appends writer.written.0 writer.written.1 text

-- the writer failed behind a front of the text
abbrev pub Unprinted : Writer → List ℕ → Type 0
Unprinted writer text =
    AppendsFront writer.written.0 writer.written.1 text × Rose writer.unwritten.0 writer.unwritten.1

-- ---- what a command is brought, and what it gives

-- a file of this name is the program's input or output
abbrev pub is_dash : List ℕ → Bool
is_dash name = bytes_eq name (codes "-")

-- `receive` reads the program's input, and so does `import -`
abbrev pub reads_input : Command → Bool
reads_input (command.Receive url start is_one) = true
reads_input (command.Import file form is_strict) = is_dash file.now
reads_input other = false

-- What a plan gives, brought the input or the bytes of the other file, for the texts of the suffix list and of the jar,
-- or none: nothing is brought, or it is what the plan gives for them all.
abbrev pub GivesPlan : Type 0 → Source → PlanText → List ℕ → Option (List ℕ) → Option (List ℕ)
    → Result OutcomeText Failure → Type 0
GivesPlan Unread reader plan suffixes stored given result =
    ((failure : Failure) × (result ≡ Err failure) × BringsNothing reader (reads_input plan.command) failure)
    ⊎ ((brought : Option (List ℕ)) × Brings Unread reader (reads_input plan.command) given brought
    × AnswersTexts plan suffixes stored brought result)

-- a plan gives this for some bytes of the files: what they hold, no contract sees
abbrev pub FilesGive : Type 0 → Source → PlanText → Result OutcomeText Failure → Type 0
FilesGive Unread reader plan result =
    (suffixes : List ℕ) × (stored : Option (List ℕ)) × (given : Option (List ℕ))
    × GivesPlan Unread reader plan suffixes stored given result

-- ---- what is printed

-- `export -` prints the text that another export writes to its file
abbrev pub prints_text : Command → Bool
prints_text (command.Export file form reader) = is_dash file.now
prints_text other = false

-- what goes to the output: a text in the place of what would be printed of it
abbrev pub output_by : Bool → OutcomeText → List ℕ
output_by true outcome = unwrap_or outcome.file []
output_by false outcome = outcome.printed

abbrev pub output : Command → OutcomeText → List ℕ
output command outcome = output_by (prints_text command) outcome

-- ---- how a command ends

-- a file isn't read, the jar's lock isn't to be had, or memory was refused for it
abbrev pub IsOfFiles : Failure → Type 0
IsOfFiles failure = (failure ≡ SuffixFile) ⊎ ((failure ≡ JarInUse) ⊎ ((failure ≡ LockFile)
    ⊎ ((failure ≡ JarFile) ⊎ ((failure ≡ File) ⊎ (failure ≡ Memory)))))

-- a file isn't written, memory was refused for it, or the system says that it is the jar itself
abbrev pub IsUnwritten : Failure → Type 0
IsUnwritten failure = (failure ≡ JarFile) ⊎ ((failure ≡ File) ⊎ ((failure ≡ OwnFile) ⊎ (failure ≡ Memory)))

-- Why a command ends with status 2: the texts give nothing; a file isn't read; a file isn't written; or the files are,
-- and the writer fails. Up to there it is as it was.
abbrev pub RunFails : Type 0 → Type 0 → Source → Writer → PlanText → Failure → Type 0
RunFails Unread Unwritten reader writer plan failure =
    (FilesGive Unread reader plan (Err failure) × Unwritten)
    ⊎ ((IsOfFiles failure × UnreadBut Unread (reads_input plan.command) × Unwritten)
    ⊎ (((outcome : OutcomeText) × FilesGive Unread reader plan (Ok outcome) × IsUnwritten failure × Unwritten)
    ⊎ ((outcome : OutcomeText) × FilesGive Unread reader plan (Ok outcome) × (failure ≡ Output)
    × Unprinted writer (output plan.command outcome))))

-- a command gives this status where the files are written and all is printed
abbrev pub Ends : Type 0 → Source → Writer → PlanText → ℕ → Type 0
Ends Unread reader writer plan status =
    (outcome : OutcomeText) × FilesGive Unread reader plan (Ok outcome) × (status ≡ outcome.status)
    × Printed writer (output plan.command outcome)

-- what a command gives
abbrev pub Serves : Type 0 → Type 0 → Source → Writer → PlanText → Result ℕ Failure → Type 0
Serves Unread Unwritten reader writer plan (Ok status) = Ends Unread reader writer plan status
Serves Unread Unwritten reader writer plan (Err failure) = RunFails Unread Unwritten reader writer plan failure

-- the exit status: 2 where a failure stops the program
abbrev pub IsToldBy : Result ℕ Failure → ℕ → Type 0
IsToldBy (Ok given) status = status ≡ given
IsToldBy (Err failure) status = status ≡ 2

-- a text is printed whole, or nothing or a front of one
abbrev pub PrintsOnly : Type 0 → Writer → Result ℕ Failure → Type 0
PrintsOnly Unwritten writer (Ok status) = (status ≡ 0) × ((text : List ℕ) × Printed writer text)
PrintsOnly Unwritten writer (Err failure) = Unwritten ⊎ ((text : List ℕ) × Unprinted writer text)

-- what asks for nothing of a jar
abbrev pub IsWithoutJar : Type 0 → Writer → ℕ → Type 0
IsWithoutJar Unwritten writer status =
    (given : Result ℕ Failure) × PrintsOnly Unwritten writer given × IsToldBy given status
