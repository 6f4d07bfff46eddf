-- A step of a client and the sites as a plain value, and what is read in it (own: docs/DEFINITIONS.md). Moments are
-- nanoseconds since 1970; whatever the nonces and the order of a session's lines.
use Rattle.std.specs.Prelude.{ℕ, ℤ, List, [], ◌∷◌, ◌++◌, Bool, Option, Some, ◌≡◌, ◌⊎◌}
use Rattle.jiff.specs.Types.{DateTime}
use Rattle.jiff.specs.Words.{civil_nanos}
use Rattle.cookie.specs.ByName.{Lists}
use Rattle.cookie.specs.Jar.{Jar, delta, under_names}
use Rattle.cookie_text.specs.Record.{Seen}
use Rattle.publicsuffix.specs.Rules.{Rule}
use Rattle.url.specs.Parts.{Parts}
use Rattle.cookie_store.specs.Rows.{Row}
use Rattle.cookie_client.specs.Accept.{Takes}
use Rattle.cookie_client.specs.Header.{IsHeader}
use Rattle.cookie_client.specs.Jar.{Keyed, IsOpenedBy, ReadsIn, Sets, TakesOut, IsRemovalRefusal, lines_of}
use Rattle.cookie_client.specs.Keeping.{Keeps}
use Rattle.cookie_client.specs.PlainSets.{any_nonce}
use Rattle.cookie_client.specs.Ways.{Refuses}
use Rattle.cookie_client.specs.declared.command.Command.{Command}
use Rattle.cookie_client.specs.declared.command.Command.TheVariants.{Set, Remove, Get}
use Rattle.cookie_client.specs.declared.command.Reading.{Reading}
use Rattle.cookie_client.specs.declared.command.Reading.TheVariants.{Value, Refused, Header}
use Rattle.cookie_client.specs.declared.outcome.SessionError.{SessionError}
use Rattle.cookie_client.specs.declared.outcome.SessionError.TheVariants.{EmptyName}
use Rattle.cookie_client.specs.declared.way.Way.{Way}

-- whether and when the answer of an exchange comes
pub data Arrival : Type 0 where
  Arrives : (at : ℤ) → Arrival
  Never : Arrival

-- an exchange by a session; an answer of any lines; a look at a header; a restart of the client
pub data Act : Type 0 where
  Visits : (url : Parts) (at : ℤ) (commands : List Command) (arrival : Arrival) → Act
  Answers : (url : Parts) (lines : List (List ℕ)) (at : ℤ) → Act
  Asks : (url : Parts) (at : ℤ) → Act
  Restarts : (at : ℤ) → Act

-- ---- the commands of a session

-- what a command of a request reads, and the session that it leaves
abbrev pub SetTells : Keyed → Way → Seen → List Reading → Keyed → Type 0
SetTells old way s told new =
    ((told ≡ []) × Sets any_nonce old way s new)
    ⊎ ((error : SessionError) × (told ≡ Refused error ∷ []) × Refuses way s.cookie error × (new ≡ old))

abbrev pub RemoveTells : Keyed → ℤ → Way → List ℕ → List Reading → Keyed → Type 0
RemoveTells old at way name told new =
    (now : DateTime) × (civil_nanos now ≡ at) × (((told ≡ []) × TakesOut old way name now new)
    ⊎ ((error : SessionError) × (told ≡ Refused error ∷ []) × IsRemovalRefusal name now (Some error) × (new ≡ old)))

abbrev pub GetTells : Keyed → Way → List ℕ → List Reading → Type 0
GetTells session way [] told = told ≡ Refused EmptyName ∷ []
GetTells session way (b ∷ bs) told =
    (value : Option (List ℕ)) × (told ≡ Value way (b ∷ bs) value ∷ []) × ReadsIn session way (b ∷ bs) value

-- in a session that was opened at the moment
abbrev pub CommandTells : Keyed → ℤ → Command → List Reading → Keyed → Type 0
CommandTells old at (Set way cookie) told new = SetTells old way cookie told new
CommandTells old at (Remove way name) told new = RemoveTells old at way name told new
CommandTells old at (Get way name) told new = GetTells old way name told × (new ≡ old)

-- the commands, one after another
abbrev pub Tells : Keyed → ℤ → List Command → List Reading → Keyed → Type 0
Tells old at [] told new = (told ≡ []) × (new ≡ old)
Tells old at (c ∷ cs) told new =
    (first : List Reading) × (later : List Reading) × (mid : Keyed) × CommandTells old at c first mid
    × Tells mid at cs later new × (told ≡ first ++ later)

-- a session that opens on this header by a reading reads so by the commands, and is this one then
abbrev pub Serves : Bool → List ℕ → List ℕ → ℤ → List Command → List Reading → Keyed → Type 0
Serves shown key header at commands told new =
    (opened : Keyed) × IsOpenedBy shown key header opened × Tells opened at commands told new

-- ---- a step

-- the answer with the lines of a delta comes at its moment, or doesn't
abbrev pub Delivers : List Rule → List Row → Parts → Jar → Arrival → List Row → Type 0
Delivers list rows url jar (Arrives at) new =
    (cookies : List Seen) × Lists (under_names cookies) (delta jar) × Takes list rows url at (lines_of cookies) new
Delivers list rows url jar Never new = new ≡ rows

-- from these rows the step reads this and leaves those rows; a restart saves and loads them at its moment
abbrev pub OneStep : Bool → List Rule → List ℕ → List Row → Act → List Reading → List Row → Type 0
OneStep shown list key rows (Visits url at commands arrival) told new =
    (header : List ℕ) × IsHeader rows url at header
    × ((session : Keyed) × Serves shown key header at commands told session
    × Delivers list rows url session.jar arrival new)
OneStep shown list key rows (Answers url lines at) told new = (told ≡ []) × Takes list rows url at lines new
OneStep shown list key rows (Asks url at) told new =
    ((header : List ℕ) × IsHeader rows url at header × (told ≡ Header header ∷ [])) × (new ≡ rows)
OneStep shown list key rows (Restarts at) told new = (told ≡ []) × Keeps rows at at new
