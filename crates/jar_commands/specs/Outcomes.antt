-- What each command gives, of the jar that it begins with (this repository's own).
use Rattle.std.specs.Prelude.{◌≡◌, ◌==◌, ◌++◌, ℕ, Bool, true, false, List, [], ◌∷◌, Option, Some, None, is_some}
use Rattle.std.specs.Prelude.{if◌then◌else◌, map, option_map, string_bytes}
use Rattle.url.specs.Parts.{Parts}
use Rattle.cookie_store.specs.Longest.{AreGivenLongest}
use Rattle.cookie_store.specs.Rows.{Row, Store, live}
use Rattle.cookies_txt.specs.Layout.{text_for}
use Rattle.cookies_txt.specs.Writing.{held, line_of_row}
use Rattle.cookies_txt.specs.declared.readers.Reader.{Reader}
use Rattle.cookie_jar.specs.Asking.{first_value, without}
use Rattle.cookie_jar.specs.Importing.{Imports, ImportText}
use Rattle.cookie_jar.specs.Keeping.{has_control}
use Rattle.cookie_jar.specs.Saving.{IsText, fitting}
use Rattle.cookie_jar.specs.Terminal.{ShowsNoControl}
use Rattle.cookie_jar.specs.Told.{header_line}
use Rattle.cookie_jar.specs.declared.form.Form.{Form}
use Rattle.cookie_jar.specs.declared.taking.End.{End}
use Rattle.user_agent.specs.CrossSite.{IsHeaderFor}
use Rattle.user_agent.specs.declared.sites.Initiator.{Initiator}
use Rattle.jar_commands.specs.Plans.{PlanText}
use Rattle.jar_commands.specs.Receiving.{TakesHeads, is_any_refused}
use Rattle.jar_commands.specs.Setting.{TakesSet}
use Rattle.jar_commands.specs.Started.{IsStarted}
use Rattle.jar_commands.specs.declared.outcome.Outcome.{Outcome}
use Rattle.jar_commands.specs.declared.outcome.Printed.{Printed}
use Rattle.jar_commands.specs.declared.outcome.Printed.TheVariants.{Exact, Told}
use Rattle.jar_commands.specs.declared.plan.Start.{Start}

-- what is printed, the exit status, and the texts that the jar and the other file are to hold, where they change
pub record OutcomeText : Type 0 where
  pub printed : List ℕ
  pub status : ℕ
  pub jar : Option (List ℕ)
  pub file : Option (List ℕ)

abbrev pub printed_text : Printed → List ℕ
printed_text (Exact text) = string_bytes text
printed_text (Told told) = told

abbrev pub outcome_text : Outcome → OutcomeText
outcome_text outcome = record {
  printed = printed_text outcome.printed;
  status = outcome.status;
  jar = option_map (λ text. text.items) outcome.jar;
  file = option_map (λ text. text.items) outcome.file;
}

-- a text is printed, and the files stay
abbrev pub Prints : List ℕ → OutcomeText → Type 0
Prints printed outcome = outcome ≡ record { printed = printed; status = 0; jar = None; file = None }

-- what is told is for a terminal; and the texts that the jar and the other file are to hold, where they change
pub record Tells (status : ℕ) (jar file : Option (List ℕ)) (outcome : OutcomeText) : Type 0 where
  pub shows : ShowsNoControl outcome.printed
  pub ends : outcome.status ≡ status
  pub keeps : outcome.jar ≡ jar
  pub gives : outcome.file ≡ file

-- the jar is to hold the text of these rows that aren't expired
abbrev pub Keeps : PlanText → ℕ → List Row → OutcomeText → Type 0
Keeps plan status rows outcome =
    (text : List ℕ) × IsText plan.form (live plan.now rows) text × Tells status (Some text) None outcome

-- ---- commands that print

abbrev pub GivesHeader : PlanText → Store → Parts → Start → OutcomeText → Type 0
GivesHeader plan jar url start outcome =
    (initiator : Initiator) × IsStarted start initiator
    × (header : List ℕ) × IsHeaderFor plan.rules jar.suffixes jar.rows url initiator plan.now header
    × (has_control header ≡ false) × Prints (header_line header) outcome

-- the value and a line feed, or nothing where there is none, as the status tells
abbrev pub PrintsValue : Option (List ℕ) → OutcomeText → Type 0
PrintsValue None outcome = outcome ≡ record { printed = []; status = 1; jar = None; file = None }
PrintsValue (Some value) outcome = Prints (value ++ 10 ∷ []) outcome

-- of this name, the first that a request gets
abbrev pub GivesValue : PlanText → Store → Parts → List ℕ → OutcomeText → Type 0
GivesValue plan jar url name outcome =
    (rows : List Row) × AreGivenLongest jar.rows url plan.now rows × PrintsValue (first_value name rows) outcome

-- ---- commands that change the jar

-- the status tells a refused line
abbrev pub GivesReceived : PlanText → Store → Parts → Start → Bool → List ℕ → OutcomeText → Type 0
GivesReceived plan jar url start is_one text outcome =
    (refused : Bool) × (new : List Row)
    × TakesHeads is_one plan.form plan.rules start jar plan.now url text refused new
    × Keeps plan (if refused then 1 else 0) new outcome

-- the status tells that the line was refused
abbrev pub GivesSet : PlanText → Store → Parts → List ℕ → OutcomeText → Type 0
GivesSet plan jar url line outcome =
    (ends : List End) × (new : List Row)
    × TakesSet plan.form plan.rules jar.suffixes jar.rows url plan.now line ends new
    × Keeps plan (if is_any_refused ends then 1 else 0) new outcome

-- where there was a row to take out, these are left; else the status tells that there was none
abbrev pub RemovesWhere : Bool → PlanText → List Row → OutcomeText → Type 0
RemovesWhere true plan rest outcome = Keeps plan 0 rest outcome
RemovesWhere false plan rest outcome = Tells 1 None None outcome

-- so with the row that a domain, a path and a name mean
abbrev pub GivesRemoved : PlanText → Store → Option Row → OutcomeText → Type 0
GivesRemoved plan jar row outcome = RemovesWhere (is_some row) plan (without row jar.rows) outcome

-- each line or row of another text is taken in, or passed over, or told; the status tells that something was refused,
-- and nothing is where nothing may be
abbrev pub GivesImported : PlanText → Store → Form → Bool → List ℕ → OutcomeText → Type 0
GivesImported plan jar form is_strict given outcome =
    (done : ImportText) × (new : List Row) × Imports form plan.form plan.now given jar.rows done new
    × (is_strict ≡ true → done.refused ≡ 0) × Keeps plan (if done.refused == 0 then 0 else 1) new outcome

-- ---- the command that gives rows away

-- the rows that a text of the form holds, or as `cookies.txt` for a reader; the jar stays
abbrev pub GivesExported : PlanText → Store → Form → Option Reader → OutcomeText → Type 0
GivesExported plan jar form None outcome =
    (text : List ℕ) × IsText form (fitting form (live plan.now jar.rows)) text × Tells 0 None (Some text) outcome
GivesExported plan jar form (Some reader) outcome =
    Tells 0 None (Some (text_for reader (map line_of_row (held (live plan.now jar.rows))))) outcome
