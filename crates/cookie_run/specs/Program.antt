-- What the program answers (own: docs/DEFINITIONS.md).
use Rattle.std.specs.Prelude.{ℕ, ℤ, List, [], ◌∷◌, Option, Some, None, Result, Ok, Err, codes, ◌≡◌, ◌≢◌, ◌⊎◌, ◌^◌, ◌-◌}
use Rattle.std.specs.Prelude.{IfSome, IsSomeAnd, false, length, ⊤}
use Rattle.std.specs.Str.{IsUtf8}
use Rattle.std.specs.Io.KnownBytes.{Appends}
use Rattle.std.specs.declared.convert.Infallible.{Infallible}
use Rattle.devices.specs.Device.{AppendsFront, Rose}
use Rattle.rand_core.specs.Steps.{steps_u32, stream_of}
use Rattle.rand_core.specs.Stream.{Stream, fill_bytes}
use Rattle.rand_chacha.specs.ChaCha.{ChaCha, next_word, of_seed}
use Rattle.cookie.specs.Key.{derived}
use Rattle.cookie.specs.KeyRing.{alone}
use Rattle.publicsuffix.specs.declared.error.ListError.{ListError}
use Rattle.publicsuffix.specs.declared.error.ListError.TheVariants as list
use Rattle.publicsuffix.specs.Rules.{Rule}
use Rattle.saved_text.specs.RonLayout.{ron_layout}
use Rattle.saved_text.specs.RonReading.{ShowsOnly}
use Rattle.store_parts.specs.declared.error.Error.{Error}
use Rattle.store_parts.specs.declared.error.Error.TheVariants.{Io, OutOfMemory}
use Rattle.cookie_store.specs.Given.{ArePicked}
use Rattle.cookie_store.specs.Placing.{saved}
use Rattle.cookie_store.specs.Rows.{Row, Store}
use Rattle.cookie_store.specs.SavedTexts.{Saves, Loads, IsAnyBeforeYears}
use Rattle.cookie_run.specs.Drawn.{Draw, DrawsSo}
use Rattle.cookie_client.specs.HostPrefix.{IsHeldRightly}
use Rattle.cookie_client.specs.Loading.{IsNoSavedText, IsNoSuffixList, IsSuffixList}
use Rattle.cookie_run.specs.ScriptDrawn.{IsScriptBy}
use Rattle.cookie_run.specs.ScriptLine.{seed_of}
use Rattle.cookie_client.specs.Moment.{moment_of}
use Rattle.cookie_run.specs.ScriptText.{Runs}
use Rattle.cookie_client.specs.Version.{version_line}
use Rattle.cookie_run.specs.declared.program.failure.Failure.{Failure}
use Rattle.cookie_run.specs.declared.program.failure.Failure.TheVariants.{Arguments, Seed, Moment, SuffixFile}
use Rattle.cookie_run.specs.declared.program.failure.Failure.TheVariants.{SuffixList, StoreInUse, LockFile, StoreFile}
use Rattle.cookie_run.specs.declared.program.failure.Failure.TheVariants.{StoreText, Input, Output, Memory}
use Rattle.cookie_run.specs.declared.program.help.TheConstants.{HELP}
use Rattle.cookie_run.specs.declared.script.ended.Ended.{Ended}
use Rattle.cookie_run.specs.declared.script.ended.Ended.TheVariants.{Whole, Faulty}

-- ---- the words

-- what four words ask for; the moment in nanoseconds since 1970
pub record Asked : Type 0 where
  pub suffix_file : List ℕ
  pub seed : List ℕ
  pub store_file : List ℕ
  pub at : ℤ

-- the seed is tested before the moment
abbrev pub asked_by : List ℕ → Option (List ℕ) → List ℕ → Option ℤ → Result Asked Failure
asked_by suffixes None store at = Err Seed
asked_by suffixes (Some seed) store None = Err Moment
asked_by suffixes (Some seed) store (Some at) =
    Ok (record { suffix_file = suffixes; seed = seed; store_file = store; at = at })

-- `SUFFIXFILE SEED STOREFILE MOMENT`
abbrev pub asked_of : List (List ℕ) → Result Asked Failure
asked_of (suffixes ∷ seed ∷ store ∷ moment ∷ []) = asked_by suffixes (seed_of seed) store (moment_of moment)
asked_of words = Err Arguments

-- what goes to standard error
abbrev pub failure_text : Failure → List ℕ
failure_text Arguments = codes "arguments"
failure_text Seed = codes "seed"
failure_text Moment = codes "moment"
failure_text SuffixFile = codes "suffix file"
failure_text SuffixList = codes "suffix list"
failure_text StoreInUse = codes "store in use"
failure_text LockFile = codes "lock file"
failure_text StoreFile = codes "store file"
failure_text StoreText = codes "store text"
failure_text Input = codes "input"
failure_text Output = codes "output"
failure_text Memory = codes "memory"

-- ---- the client that a run begins with

-- the rows of a saved text that aren't expired at this moment, but for those that aren't held rightly, or none where
-- there is no store file
abbrev pub AreLoaded : ℤ → Option (List ℕ) → List Row → Type 0
AreLoaded at None rows = rows ≡ []
AreLoaded at (Some text) rows = IsUtf8 text × ((loaded : Store) × Loads ShowsOnly false at text loaded
    × ArePicked IsHeldRightly loaded.rows rows)

-- what a refusal to parse a list is told as: want of memory, and every other cause
abbrev pub IsListToldAs : ListError → Failure → Type 0
IsListToldAs cause failure =
    ((cause ≡ list.OutOfMemory) × (failure ≡ Memory)) ⊎ ((cause ≢ list.OutOfMemory) × (failure ≡ SuffixList))

-- what a refusal to load a text that stands in memory is told as: every cause that isn't the text's is want of memory
abbrev pub IsToldAs : Error → Failure → Type 0
IsToldAs cause failure = (((cause ≡ Io) ⊎ (cause ≡ OutOfMemory)) × (failure ≡ Memory))
    ⊎ ((cause ≢ Io) × (cause ≢ OutOfMemory) × (failure ≡ StoreText))

-- No list is made of this text: it is none, or memory was refused.
abbrev pub MakesNoList : List ℕ → Failure → Type 0
MakesNoList suffixes failure = ((failure ≡ SuffixList) × IsNoSuffixList suffixes) ⊎ (failure ≡ Memory)

-- No client is made of these texts: none of the list; or the first is a list and the other, where there is one, no
-- saved text; or memory was refused.
abbrev pub MakesNoClient : List ℕ → Option (List ℕ) → Failure → Type 0
MakesNoClient suffixes stored failure = MakesNoList suffixes failure
    ⊎ ((failure ≡ StoreText) × ((list : List Rule) × IsSuffixList suffixes list) × IsSomeAnd stored IsNoSavedText)

-- ---- the script, and what is saved

-- the bytes that a ChaCha20 generator gives from where it stands
abbrev stream : ChaCha → Stream
stream = stream_of (steps_u32 (next_word 10))

-- these are its next bytes, and behind them it stands so
abbrev pub IsFill : ChaCha → List ℕ → ChaCha → Type 0
IsFill old bytes new = (bytes, stream new) ≡ fill_bytes (length bytes) (stream old)

-- what is known of a reader and a writer, before and behind a call: what is left, reads, what is written, failed calls
pub record Devices : Type 0 where
  pub left : Option (List ℕ)
  pub reads : ℕ
  pub unread : ℕ × ℕ
  pub written : Option (List ℕ) × Option (List ℕ)
  pub unwritten : ℕ × ℕ

-- that of a reader which was `old` and is `new`, by what it has left, its reads and its failures, and so of a writer
abbrev pub devices_by : {R W : Type 0} → (R → Option (List ℕ)) → (R → ℕ) → (R → ℕ) → R → R
    → (W → Option (List ℕ)) → (W → ℕ) → W → W → Devices
devices_by left reads unread old new written unwritten before behind = record {
  left = left old;
  reads = reads new;
  unread = (unread old, unread new);
  written = (written before, written behind);
  unwritten = (unwritten before, unwritten behind);
}

-- The draws of the generator that comes from the seed are so: twelve bytes of its stream for each, one behind another.
abbrev pub SeedDraws : List ℕ → (List Draw → Type 0) → Type 0
SeedDraws seed Are = (left : ChaCha) × DrawsSo IsFill Infallible (of_seed seed) Are left

-- From these rows on, with this list, the ring of the key that comes from the seed alone, and the generator that comes
-- from it, the script that was read ends so, and what it prints was written; and so it is with the rows that it left
-- and its last moment. Where what was left to read isn't known, nothing is said.
abbrev pub ScriptEnds : Devices → Asked → List Rule → List Row → Ended → (List Row → ℤ → Type 0) → Type 0
ScriptEnds io asked list rows ended Is = IfSome io.left (λ input. (output : List ℕ)
    × Appends io.written.0 io.written.1 output × ((new : List Row) × (end : ℤ)
    × Runs Infallible list (alone (derived asked.seed)) rows asked.at input output new end ended
    × SeedDraws asked.seed (λ drawn. IsScriptBy drawn list (alone (derived asked.seed)) rows asked.at input
    io.written.0 io.written.1 new end (Ok ended)) × Is new end))

-- Why the script gives no text: a device fails; or it ended whole, and the rows that it left have no saved text at its
-- last moment, for a death of a year below 0 or for want of memory.
abbrev pub ScriptFails : Devices → Asked → List Rule → List Row → Failure → Type 0
ScriptFails io asked list rows failure =
    ((failure ≡ Input) × (Rose io.unread.0 io.unread.1 ⊎ (io.reads ≡ 2 ^ 64 - 1)))
    ⊎ (((failure ≡ Output) × Rose io.unwritten.0 io.unwritten.1)
    ⊎ (((failure ≡ StoreText) × ScriptEnds io asked list rows Whole (λ new end. IsAnyBeforeYears (saved end new)))
    ⊎ ((failure ≡ Memory) × ScriptEnds io asked list rows Whole (λ new end. ⊤))))

-- What the script gives: where it ended whole the saved text, at its last moment, of the rows that it left; nothing to
-- save where a line is faulty; or a failure.
abbrev pub ScriptGives : Devices → Asked → List Rule → List Row → Result (Option (List ℕ)) Failure → Type 0
ScriptGives io asked list rows (Ok (Some text)) =
    ScriptEnds io asked list rows Whole (λ new end. Saves ron_layout (saved end new) text)
ScriptGives io asked list rows (Ok None) =
    (line : ℕ) × ScriptEnds io asked list rows (Faulty line) (λ new end. ⊤)
ScriptGives io asked list rows (Err failure) = ScriptFails io asked list rows failure

-- ---- what a run gives

-- Words that are refused, and texts of which no client is made, leave the devices untouched; else the script is played
-- on the client that the texts make at the moment of the words.
abbrev pub AskedGives : Type 0 → Devices → Result Asked Failure → List ℕ → Option (List ℕ)
    → Result (Option (List ℕ)) Failure → Type 0
AskedGives Untouched io (Err failure) suffixes stored result = (result ≡ Err failure) × Untouched
AskedGives Untouched io (Ok asked) suffixes stored result =
    ((failure : Failure) × (result ≡ Err failure) × MakesNoClient suffixes stored failure × Untouched)
    ⊎ ((list : List Rule) × (rows : List Row) × IsSuffixList suffixes list × AreLoaded asked.at stored rows
    × ScriptGives io asked list rows result)

-- What a run gives for its words, the text of the suffix file, and that of the store file or none: the text that is to
-- be saved where its script ended whole, none where a line is faulty, or a failure.
abbrev pub RunGives : Type 0 → Devices → List (List ℕ) → List ℕ → Option (List ℕ)
    → Result (Option (List ℕ)) Failure → Type 0
RunGives Untouched io words suffixes stored result = AskedGives Untouched io (asked_of words) suffixes stored result

-- ---- what the program tells

-- the exit status, and what goes to standard error
abbrev pub IsToldBy : Result (Option (List ℕ)) Failure → ℕ → Option (List ℕ) → Type 0
IsToldBy (Ok (Some text)) status said = (status ≡ 0) × (said ≡ None)
IsToldBy (Ok None) status said = (status ≡ 1) × (said ≡ None)
IsToldBy (Err failure) status said = (status ≡ 2) × (said ≡ Some (failure_text failure))

-- what a run gives for some bytes of both files: what they hold, no contract sees
abbrev pub FilesGive : Type 0 → Devices → List (List ℕ) → Result (Option (List ℕ)) Failure → Type 0
FilesGive Untouched io words result = (suffixes : List ℕ) × (stored : Option (List ℕ))
    × RunGives Untouched io words suffixes stored result

-- a file isn't read or not written, the store's lock isn't to be had, or memory was refused for it
abbrev pub IsOfFiles : Failure → Type 0
IsOfFiles failure = (failure ≡ SuffixFile) ⊎ ((failure ≡ StoreInUse) ⊎ ((failure ≡ LockFile)
    ⊎ ((failure ≡ StoreFile) ⊎ (failure ≡ Memory))))

-- A file isn't read, and the devices stay untouched; or the store file isn't written, behind a script that ended whole.
abbrev pub FilesFail : Type 0 → Devices → List (List ℕ) → Failure → Type 0
FilesFail Untouched io words failure =
    ((asked : Asked) × (asked_of words ≡ Ok asked) × IsOfFiles failure × Untouched)
    ⊎ (((failure ≡ StoreFile) ⊎ (failure ≡ Memory))
    × ((text : List ℕ) × FilesGive Untouched io words (Ok (Some text))))

-- why the program ends with status 2
abbrev pub ProgramFails : Type 0 → Devices → List (List ℕ) → Failure → Type 0
ProgramFails Untouched io words failure =
    FilesGive Untouched io words (Err failure) ⊎ FilesFail Untouched io words failure

-- The exit status, and what goes to standard error: those of what a run gives for some bytes of both files, or that a
-- file isn't read or not written.
abbrev pub ProgramTells : Type 0 → Devices → List (List ℕ) → ℕ → Option (List ℕ) → Type 0
ProgramTells Untouched io words status said =
    ((kept : Option (List ℕ)) × IsToldBy (Ok kept) status said × FilesGive Untouched io words (Ok kept))
    ⊎ ((failure : Failure) × IsToldBy (Err failure) status said × ProgramFails Untouched io words failure)

-- ---- the help and the version

-- A text was written; or the writer failed behind a front of it.
abbrev pub PrintTells : List ℕ → Option (List ℕ) × Option (List ℕ) → ℕ × ℕ → ℕ → Option (List ℕ) → Type 0
PrintTells text written unwritten status said =
    ((status ≡ 0) × (said ≡ None) × Appends written.0 written.1 text)
    ⊎ ((status ≡ 2) × (said ≡ Some (failure_text Output)) × Rose unwritten.0 unwritten.1
    × AppendsFront written.0 written.1 text)

-- `--help`, alone
abbrev pub help_words : List (List ℕ)
help_words = codes "--help" ∷ []

-- what the code has as the text of `--help`
abbrev pub help_text : List ℕ
help_text = HELP.now

-- `--version`, alone
abbrev pub version_words : List (List ℕ)
version_words = codes "--version" ∷ []

-- `cookie-run`, a space, the version and a line feed
abbrev pub program_version : List ℕ
program_version = version_line (codes "cookie-run")

-- The text of the help was printed, or the writer failed.
abbrev pub HelpTells : Option (List ℕ) × Option (List ℕ) → ℕ × ℕ → ℕ → Option (List ℕ) → Type 0
HelpTells written unwritten status said = PrintTells help_text written unwritten status said

-- The line of the version was printed, or the writer failed; or memory was refused for it, and the writer is as it was.
abbrev pub VersionTells : Type 0 → Option (List ℕ) × Option (List ℕ) → ℕ × ℕ → ℕ → Option (List ℕ) → Type 0
VersionTells Unwritten written unwritten status said =
    PrintTells program_version written unwritten status said
    ⊎ ((status ≡ 2) × (said ≡ Some (failure_text Memory)) × Unwritten)

-- What the program tells of any words: of its help or its version where they ask for that, and nothing is read then;
-- else what a run tells.
abbrev pub WordsTell : Type 0 → Type 0 → Devices → List (List ℕ) → ℕ → Option (List ℕ) → Type 0
WordsTell Unread Unwritten io words status said =
    ((words ≡ help_words) × Unread × HelpTells io.written io.unwritten status said)
    ⊎ (((words ≡ version_words) × Unread × VersionTells Unwritten io.written io.unwritten status said)
    ⊎ ((words ≢ help_words) × (words ≢ version_words) × ProgramTells (Unread × Unwritten) io words status said))
