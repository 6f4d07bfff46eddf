-- What the words of a call make of a client (own: docs/DEFINITIONS.md).
use Rattle.std.specs.Prelude.{ℕ, ℤ, pos, ◌≡◌, ◌≢◌, ◌⊎◌, List, [], Option, Some, None, false, true}
use Rattle.std.specs.Str.{IsUtf8}
use Rattle.publicsuffix.specs.Rules.{Rule}
use Rattle.saved_text.specs.RonLayout.{ron_layout}
use Rattle.saved_text.specs.RonReading.{ShowsOnly}
use Rattle.store_parts.specs.declared.error.Error.{Error}
use Rattle.store_parts.specs.declared.error.Error.TheVariants.{Io, OutOfMemory}
use Rattle.cookie_store.specs.Given.{ArePicked}
use Rattle.cookie_store.specs.Placing.{saved}
use Rattle.cookie_store.specs.Rows.{Row, Store}
use Rattle.cookie_store.specs.SavedTexts.{Loads, Saves, IsAnyBeforeYears}
use Rattle.cookie_client.specs.Keeping.{Keeps}
use Rattle.cookie_client.specs.KeptKeys.{KeepsKeys}
use Rattle.cookie_client.specs.HostPrefix.{IsHeldRightly}
use Rattle.cookie_client.specs.Loading.{IsNoSavedText}
use Rattle.user_agent.specs.declared.rules.Rules.{Rules}
use Rattle.fonnalich_c.specs.Exporting.{Exports}
use Rattle.fonnalich_c.specs.Faults.{IsTold}
use Rattle.fonnalich_c.specs.Given.{IsListOf, IsNoListOf, IsNoMoment, nanos_of}
use Rattle.fonnalich_c.specs.Importing.{Imports}
use Rattle.fonnalich_c.specs.Listing.{IsCount, IsListing, IsNoListing}
use Rattle.fonnalich_c.specs.Rules.{IsFlags, IsNoFlags}
use Rattle.fonnalich_c.specs.Shard.{IsShardAtIn, IsShardIn, HasNoShardAtIn, HasNoShardIn}
use Rattle.fonnalich_c.specs.Started.{Request, Receives, RefusesLines, Heads, IsHeaderFault}
use Rattle.fonnalich_c.specs.Suffix.{IsSuffixBy, HasNoSuffixBy}
use Rattle.fonnalich_c.specs.declared.refusal.Refusal.{Refusal}
use Rattle.fonnalich_c.specs.declared.refusal.Refusal.TheVariants as refusal
use Rattle.fonnalich_c.specs.declared.started.Start.{Start}
use Rattle.fonnalich_c.specs.declared.word.ByList.{ByList}
use Rattle.fonnalich_c.specs.declared.word.ByList.TheVariants as by
use Rattle.fonnalich_c.specs.declared.word.Task.{Task}
use Rattle.fonnalich_c.specs.declared.word.Task.TheVariants as task
use Rattle.fonnalich_c.specs.declared.word.Word.{Word}
use Rattle.fonnalich_c.specs.declared.word.Word.TheVariants as word

-- what a call is given: a second since 1970 or the flags of rules; a URL, a saved text or a host; the URL of the page
-- that starts a request; and lines or a suffix list
pub record Given : Type 0 where
  pub number : ℤ
  pub subject : List ℕ
  pub page : List ℕ
  pub text : List ℕ

-- ---- the tasks of a client

-- a request that is started so
abbrev pub request_of : Start → Given → Request
request_of start given = record { second = given.number; url = given.subject; start = start; page = given.page }

-- the answer is its saved text
abbrev pub IsSavedText : ℤ → List Row → List ℕ → Type 0
IsSavedText second rows answer = IsUtf8 answer × Saves ron_layout (saved (nanos_of second) rows) answer

-- the answer is the saved text of all its rows
abbrev pub IsWholeText : List Row → List ℕ → Type 0
IsWholeText rows answer = IsUtf8 answer × Saves ron_layout rows answer

-- it keeps what a saved text keeps
abbrev pub Restarts : ℤ → Store → Store → Type 0
Restarts second old new = (new.suffixes ≡ old.suffixes)
    × Keeps old.rows (nanos_of second) (nanos_of second) new.rows × KeepsKeys old.rows (nanos_of second) new.rows

-- why rows have no saved text
abbrev pub IsSavingFault : ℤ → List Row → Refusal → Type 0
IsSavingFault second rows refused =
    ((refused ≡ refusal.Moment) × IsNoMoment second)
    ⊎ ((refused ≡ refusal.Year) × IsAnyBeforeYears (saved (nanos_of second) rows))

-- all rows of a saved text stand in the place of its own, but for those that aren't held rightly
abbrev pub Reloads : List ℕ → Store → Store → Type 0
Reloads subject old new = (new.suffixes ≡ old.suffixes)
    × ((loaded : Store) × Loads ShowsOnly true (pos 0) subject loaded
    × ArePicked IsHeldRightly loaded.rows new.rows)

-- why it doesn't; a failed read has no cause that is known
abbrev pub IsNoReload : List ℕ → Refusal → Type 0
IsNoReload subject refused =
    (refused ≡ refusal.Read) ⊎ (refused ≡ refusal.Memory) ⊎ ((refused ≡ refusal.Saved) × IsNoSavedText subject)

-- why there is none of all rows
abbrev pub IsNoWholeText : List Row → Refusal → Type 0
IsNoWholeText rows refused = (refused ≡ refusal.Memory) ⊎ ((refused ≡ refusal.Year) × IsAnyBeforeYears rows)

abbrev pub Does : Task → Given → Rules → Store → List ℕ → Store → Type 0
Does (task.Receive start) given rules old answer new =
    Receives rules (request_of start given) given.text old answer new
Does (task.Header start) given rules old answer new = (new ≡ old) × Heads rules (request_of start given) old answer
Does task.Save given rules old answer new = (new ≡ old) × IsSavedText given.number old.rows answer
Does task.Restart given rules old answer new = (answer ≡ []) × Restarts given.number old new
Does task.SaveAll given rules old answer new = (new ≡ old) × IsWholeText old.rows answer
Does task.Reload given rules old answer new = (answer ≡ []) × Reloads given.subject old new
Does task.Count given rules old answer new = (new ≡ old) × IsCount given.number old.rows answer
Does task.List given rules old answer new = (new ≡ old) × IsListing given.number old.rows answer
Does task.Clear given rules old answer new = (answer ≡ []) × (new ≡ record old { rows = [] })
Does task.Import given rules old answer new = Imports (nanos_of given.number) given.text old answer new
Does (task.Export reader sessions) given rules old answer new =
    (new ≡ old) × Exports reader sessions (nanos_of given.number) old.rows answer

abbrev pub Refuses : Task → Given → Rules → Store → Refusal → Store → Type 0
Refuses (task.Receive start) given rules old refused new =
    RefusesLines rules (request_of start given) given.text old refused new
Refuses (task.Header start) given rules old refused new =
    (new ≡ old) × IsTold (IsHeaderFault rules (request_of start given) old) refused
Refuses task.Save given rules old refused new = (new ≡ old) × IsTold (IsSavingFault given.number old.rows) refused
Refuses task.Restart given rules old refused new = (new ≡ old) × IsTold (IsSavingFault given.number old.rows) refused
Refuses task.SaveAll given rules old refused new = (new ≡ old) × IsNoWholeText old.rows refused
Refuses task.Reload given rules old refused new = (new ≡ old) × IsNoReload given.subject refused
Refuses task.Count given rules old refused new = (new ≡ old) × IsNoListing given.number refused
Refuses task.List given rules old refused new = (new ≡ old) × IsNoListing given.number refused
Refuses task.Clear given rules old refused new = ⊥
Refuses task.Import given rules old refused new = (new ≡ old) × IsNoListing given.number refused
Refuses (task.Export reader sessions) given rules old refused new = (new ≡ old) × IsNoListing given.number refused

-- ---- a client's beginning

-- without a row, with the suffix list of the text
abbrev pub Begins : List ℕ → Store → Type 0
Begins text new = (new.rows ≡ []) × IsListOf text new.suffixes

-- with the list, and the rows of a saved text that aren't expired at the second, but for those that aren't held rightly
abbrev pub IsLoadedBy : ℤ → List ℕ → List Rule → Store → Type 0
IsLoadedBy second subject list new = (new.suffixes ≡ list)
    × ((loaded : Store) × Loads ShowsOnly false (nanos_of second) subject loaded
    × ArePicked IsHeldRightly loaded.rows new.rows)

-- what is wrong with a second and a saved text
abbrev pub IsLoadFault : ℤ → List ℕ → Refusal → Type 0
IsLoadFault second subject refused =
    ((refused ≡ refusal.Moment) × IsNoMoment second) ⊎ ((refused ≡ refusal.Saved) × IsNoSavedText subject)

-- a failed read has no cause that is known, and comes behind the second's fault
unfoldable pub IsNoLoadBy : ℤ → List ℕ → Refusal → Type 0
IsNoLoadBy second subject refused = IsTold (IsLoadFault second subject) refused
    ⊎ ((refused ≡ refusal.Read) × (¬ IsNoMoment second))

-- the same with the list of a text, whose fault is told before these
abbrev pub IsLoaded : ℤ → List ℕ → List ℕ → Store → Type 0
IsLoaded second subject text new = (list : List Rule) × IsListOf text list × IsLoadedBy second subject list new

abbrev pub IsNoLoad : ℤ → List ℕ → List ℕ → Refusal → Type 0
IsNoLoad second subject text refused = IsNoListOf text refused
    ⊎ (((list : List Rule) × IsListOf text list) × IsNoLoadBy second subject refused)

-- what a refusal to load is told as: a failed read, want of memory, and every other cause
abbrev pub IsLoadToldAs : Error → Refusal → Type 0
IsLoadToldAs cause refused = ((cause ≡ Io) × (refused ≡ refusal.Read))
    ⊎ ((cause ≡ OutOfMemory) × (refused ≡ refusal.Memory))
    ⊎ ((cause ≢ Io) × (cause ≢ OutOfMemory) × (refused ≡ refusal.Saved))

-- ---- a list that is kept

-- what is asked of it makes of the client, where there is one, and the answer
abbrev pub MakesBy : ByList → ℤ → List ℕ → List Rule → Option Store → List ℕ → Option Store → Type 0
MakesBy by.Begin second subject list old answer new =
    (answer ≡ []) × (new ≡ Some (record { rows = []; suffixes = list }))
MakesBy by.Load second subject list old answer new =
    (answer ≡ []) × ((client : Store) × (new ≡ Some client) × IsLoadedBy second subject list client)
MakesBy by.Suffix second subject list old answer new = (new ≡ old) × IsSuffixBy list subject answer
MakesBy by.Shard second subject list old answer new = (new ≡ old) × IsShardIn list subject answer
MakesBy by.ShardOfUrl second subject list old answer new = (new ≡ old) × IsShardAtIn list subject answer

-- why it has no answer
abbrev pub FailsBy : ByList → ℤ → List ℕ → List Rule → Refusal → Type 0
FailsBy by.Begin second subject list refused = refused ≡ refusal.Memory
FailsBy by.Load second subject list refused = IsNoLoadBy second subject refused
FailsBy by.Suffix second subject list refused = (refused ≡ refusal.Memory) ⊎ HasNoSuffixBy list subject refused
FailsBy by.Shard second subject list refused = (refused ≡ refusal.Memory) ⊎ HasNoShardIn subject refused
FailsBy by.ShardOfUrl second subject list refused = HasNoShardAtIn subject refused

-- ---- all words

-- what a word makes of what a handle has beside its answer: its list, its rules and its client, where they are there
pub record State : Type 0 where
  pub list : Option (List Rule)
  pub rules : Rules
  pub client : Option Store

abbrev pub MakesOf : ByList → ℤ → List ℕ → Option (List Rule) → Option Store → List ℕ → Option Store → Type 0
MakesOf by second subject None old answer new = ⊥
MakesOf by second subject (Some list) old answer new = MakesBy by second subject list old answer new

abbrev pub DoesOf : Task → Given → Rules → Option Store → List ℕ → Option Store → Type 0
DoesOf task given rules None answer new = ⊥
DoesOf task given rules (Some old) answer new =
    (client : Store) × (new ≡ Some client) × Does task given rules old answer client

abbrev pub Makes : Option Word → Given → State → List ℕ → State → Type 0
Makes None given old answer new = ⊥
Makes (Some word.List) given old answer new = (answer ≡ []) × (new.list ≡ old.list) × (new.rules ≡ old.rules)
    × ((client : Store) × (new.client ≡ Some client) × Begins given.text client)
Makes (Some word.Load) given old answer new = (answer ≡ []) × (new.list ≡ old.list) × (new.rules ≡ old.rules)
    × ((client : Store) × (new.client ≡ Some client) × IsLoaded given.number given.subject given.text client)
Makes (Some word.Rules) given old answer new =
    (answer ≡ []) × (new.list ≡ old.list) × IsFlags given.number new.rules × (new.client ≡ old.client)
Makes (Some (word.Ask task)) given old answer new = (new.list ≡ old.list) × (new.rules ≡ old.rules)
    × DoesOf task given old.rules old.client answer new.client
Makes (Some word.Keep) given old answer new = (answer ≡ []) × (new.rules ≡ old.rules) × (new.client ≡ old.client)
    × ((list : List Rule) × (new.list ≡ Some list) × IsListOf given.text list)
Makes (Some (word.By by)) given old answer new = (new.list ≡ old.list) × (new.rules ≡ old.rules)
    × MakesOf by given.number given.subject old.list old.client answer new.client

abbrev pub FailsOf : ByList → ℤ → List ℕ → Option (List Rule) → Refusal → Type 0
FailsOf by second subject None refused = refused ≡ refusal.NoList
FailsOf by second subject (Some list) refused = FailsBy by second subject list refused

abbrev pub RefusesOf : Task → Given → Rules → Option Store → Refusal → Option Store → Type 0
RefusesOf task given rules None refused new = (new ≡ None) × (refused ≡ refusal.NoClient)
RefusesOf task given rules (Some old) refused new =
    (client : Store) × (new ≡ Some client) × Refuses task given rules old refused client

-- why it has no answer, and what the client is then: the list and the rules stay
abbrev pub Fails : Option Word → Given → State → Refusal → Option Store → Type 0
Fails None given old refused new = (new ≡ old.client) × (refused ≡ refusal.Word)
Fails (Some word.List) given old refused new = (new ≡ old.client) × IsNoListOf given.text refused
Fails (Some word.Load) given old refused new =
    (new ≡ old.client) × IsNoLoad given.number given.subject given.text refused
Fails (Some word.Rules) given old refused new =
    (new ≡ old.client) × (refused ≡ refusal.Rules) × IsNoFlags given.number
Fails (Some (word.Ask task)) given old refused new = RefusesOf task given old.rules old.client refused new
Fails (Some word.Keep) given old refused new = (new ≡ old.client) × IsNoListOf given.text refused
Fails (Some (word.By by)) given old refused new =
    (new ≡ old.client) × FailsOf by given.number given.subject old.list refused
