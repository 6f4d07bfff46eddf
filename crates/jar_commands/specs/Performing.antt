-- What a command gives for the texts of the files, and why it gives nothing (this repository's own).
use Rattle.std.specs.Prelude.{◌≡◌, ◌≢◌, ◌⊎◌, ◌^◌, ◌-◌, ℕ, ℤ, Bool, true, false, List, [], Option, Some, None}
use Rattle.std.specs.Prelude.{Result, Ok, Err, IfSome, IsSomeAnd, is_some, ⊤}
use Rattle.devices.specs.Device.{Rose}
use Rattle.url.specs.Parts.{Parts}
use Rattle.cookie_store.specs.Rows.{Row, Store, live}
use Rattle.cookie_jar.specs.Asking.{meant, without}
use Rattle.cookie_jar.specs.Entries.{HasNoItems}
use Rattle.cookie_jar.specs.Importing.{Imports, ImportText}
use Rattle.cookie_jar.specs.Saving.{HaveNoText}
use Rattle.cookie_jar.specs.declared.form.Form.{Form}
use Rattle.cookie_jar.specs.declared.importing.Cause.{Cause}
use Rattle.cookie_jar.specs.declared.taking.End.{End}
use Rattle.cookies_txt.specs.declared.readers.Reader.{Reader}
use Rattle.jar_commands.specs.Jars.{IsJar, MakesNoJar}
use Rattle.jar_commands.specs.Outcomes as gives
use Rattle.jar_commands.specs.Outcomes.{OutcomeText}
use Rattle.jar_commands.specs.Plans.{PlanText}
use Rattle.jar_commands.specs.Receiving.{IsNoHeads, TakesHeads}
use Rattle.jar_commands.specs.Setting.{TakesSet}
use Rattle.jar_commands.specs.declared.failure.Failure.{Failure}
use Rattle.jar_commands.specs.declared.failure.Failure.TheVariants.{File, FileEntry, FileRow, FileText, Input, JarRow}
use Rattle.jar_commands.specs.declared.failure.Failure.TheVariants.{Memory}
use Rattle.jar_commands.specs.declared.failure.Spot.{Spot}
use Rattle.jar_commands.specs.declared.plan.Command.{Command}
use Rattle.jar_commands.specs.declared.plan.Command.TheVariants as command
use Rattle.jar_commands.specs.declared.plan.Start.{Start}

-- what is known of a reader, before and behind a call: what was left to read, how many reads and how many failed calls
pub record Source : Type 0 where
  pub left : Option (List ℕ)
  pub reads : ℕ
  pub unread : ℕ × ℕ

-- that of a reader which was `old` and is `new`, by what it has left, its reads and its failures
abbrev pub read_by : {R : Type 0} → (R → Option (List ℕ)) → (R → ℕ) → (R → ℕ) → R → R → Source
read_by left reads failed old new = record { left = left old; reads = reads new; unread = (failed old, failed new) }

-- What is brought to a command: where it reads all that was left, where that is known; else what is given, and nothing
-- is read.
abbrev pub Brings : Type 0 → Source → Bool → Option (List ℕ) → Option (List ℕ) → Type 0
Brings Unread reader true given brought =
    (text : List ℕ) × (brought ≡ Some text) × IfSome reader.left (λ whole. text ≡ whole)
Brings Unread reader false given brought = (brought ≡ given) × Unread

-- nothing is brought where the reader failed, or memory was refused
abbrev pub BringsNothing : Source → Bool → Failure → Type 0
BringsNothing reader true failure =
    (failure ≡ Memory) ⊎ ((failure ≡ Input) × (Rose reader.unread.0 reader.unread.1 ⊎ (reader.reads ≡ 2 ^ 64 - 1)))
BringsNothing reader false failure = ⊥

-- nothing is read by a command that doesn't read
abbrev pub UnreadBut : Type 0 → Bool → Type 0
UnreadBut Unread true = ⊤
UnreadBut Unread false = Unread

-- ---- what a command gives

-- A command gives this of a jar; `receive` and `import` want what is brought.
abbrev pub Gives : PlanText → Store → Option (List ℕ) → Command → OutcomeText → Type 0
Gives plan jar brought (command.Receive url start is_one) outcome =
    IsSomeAnd brought (λ text. gives.GivesReceived plan jar url start is_one text outcome)
Gives plan jar brought (command.Header url start) outcome = gives.GivesHeader plan jar url start outcome
Gives plan jar brought (command.Get url name) outcome = gives.GivesValue plan jar url name.now outcome
Gives plan jar brought (command.Set url line) outcome = gives.GivesSet plan jar url line.now outcome
Gives plan jar brought (command.List which layout) outcome = gives.Tells 0 None None outcome
Gives plan jar brought (command.Explain url line) outcome = gives.Tells 0 None None outcome
Gives plan jar brought (command.Remove domain path name) outcome =
    gives.GivesRemoved plan jar (meant domain.now path.now name.now jar.rows) outcome
Gives plan jar brought command.Clear outcome = gives.Keeps plan 0 [] outcome
Gives plan jar brought (command.Import file form is_strict) outcome =
    IsSomeAnd brought (λ text. gives.GivesImported plan jar form is_strict text outcome)
Gives plan jar brought (command.Export file form reader) outcome = gives.GivesExported plan jar form reader outcome

-- ---- why it gives nothing

-- these rows, behind a change, have no text in the jar's form
abbrev pub Unkept : PlanText → List Row → Failure → Type 0
Unkept plan rows failure = (failure ≡ JarRow) × HaveNoText plan.form false (live plan.now rows)

-- `receive`
abbrev pub FailsToReceive : PlanText → Store → Parts → Start → Bool → Option (List ℕ) → Failure → Type 0
FailsToReceive plan jar url start is_one None failure = failure ≡ Input
FailsToReceive plan jar url start is_one (Some text) failure =
    (failure ≡ Memory)
    ⊎ (IsNoHeads text failure
    ⊎ ((refused : Bool) × (new : List Row)
    × TakesHeads is_one plan.form plan.rules start jar plan.now url text refused new × Unkept plan new failure))

-- `set`
abbrev pub FailsToSet : PlanText → Store → Parts → List ℕ → Failure → Type 0
FailsToSet plan jar url line failure =
    (failure ≡ Memory)
    ⊎ ((ends : List End) × (new : List Row)
    × TakesSet plan.form plan.rules jar.suffixes jar.rows url plan.now line ends new × Unkept plan new failure)

-- `remove`, of the row that is meant, or none
abbrev pub FailsToRemove : PlanText → Store → Option Row → Failure → Type 0
FailsToRemove plan jar row failure =
    (failure ≡ Memory) ⊎ ((is_some row ≡ true) × Unkept plan (without row jar.rows) failure)

-- a line or a row of another text is refused
abbrev pub IsOfEntry : Failure → Type 0
IsOfEntry failure = (spot : Spot) × (cause : Cause) × (failure ≡ FileEntry spot cause)

-- `import` of a text: it has no items; something of it is refused where nothing may be; or the rows have no text
abbrev pub FailsToImportText : PlanText → Store → Form → Bool → List ℕ → Failure → Type 0
FailsToImportText plan jar form is_strict text failure =
    (failure ≡ Memory)
    ⊎ (((failure ≡ FileText) × HasNoItems form text)
    ⊎ ((done : ImportText) × (new : List Row) × Imports form plan.form plan.now text jar.rows done new
    × (((is_strict ≡ true) × (done.refused ≢ 0) × IsOfEntry failure)
    ⊎ ((is_strict ≡ true → done.refused ≡ 0) × Unkept plan new failure))))

-- `import`
abbrev pub FailsToImport : PlanText → Store → Form → Bool → Option (List ℕ) → Failure → Type 0
FailsToImport plan jar form is_strict None failure = failure ≡ File
FailsToImport plan jar form is_strict (Some text) failure = FailsToImportText plan jar form is_strict text failure

-- `export`
abbrev pub FailsToExport : PlanText → Store → Form → Option Reader → Failure → Type 0
FailsToExport plan jar form None failure =
    (failure ≡ Memory) ⊎ ((failure ≡ FileRow) × HaveNoText form true (live plan.now jar.rows))
FailsToExport plan jar form (Some reader) failure = failure ≡ Memory

-- a command fails so
abbrev pub PlanFails : PlanText → Store → Option (List ℕ) → Command → Failure → Type 0
PlanFails plan jar brought (command.Receive url start is_one) failure =
    FailsToReceive plan jar url start is_one brought failure
PlanFails plan jar brought (command.Header url start) failure = failure ≡ Memory
PlanFails plan jar brought (command.Get url name) failure = failure ≡ Memory
PlanFails plan jar brought (command.Set url line) failure = FailsToSet plan jar url line.now failure
PlanFails plan jar brought (command.List which layout) failure = failure ≡ Memory
PlanFails plan jar brought (command.Explain url line) failure = failure ≡ Memory
PlanFails plan jar brought (command.Remove domain path name) failure =
    FailsToRemove plan jar (meant domain.now path.now name.now jar.rows) failure
PlanFails plan jar brought command.Clear failure = (failure ≡ Memory) ⊎ Unkept plan [] failure
PlanFails plan jar brought (command.Import file form is_strict) failure =
    FailsToImport plan jar form is_strict brought failure
PlanFails plan jar brought (command.Export file form reader) failure = FailsToExport plan jar form reader failure

-- ---- all

-- what a command gives, or why nothing
abbrev pub Performs : PlanText → Store → Option (List ℕ) → Result OutcomeText Failure → Type 0
Performs plan jar brought (Ok outcome) = Gives plan jar brought plan.command outcome
Performs plan jar brought (Err failure) = PlanFails plan jar brought plan.command failure

-- What a plan gives for the texts of the suffix list, of the jar, or none, and what is brought: the texts make no jar,
-- or the task is done with the jar.
abbrev pub AnswersTexts : PlanText → List ℕ → Option (List ℕ) → Option (List ℕ) → Result OutcomeText Failure
    → Type 0
AnswersTexts plan suffixes stored brought result =
    ((failure : Failure) × (result ≡ Err failure) × MakesNoJar plan.form suffixes stored failure)
    ⊎ ((jar : Store) × IsJar plan.form plan.now suffixes stored jar × Performs plan jar brought result)
