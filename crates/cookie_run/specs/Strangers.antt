-- What a host is sent is the same without the answers of hosts that it isn't related to (own: docs/DEFINITIONS.md).
use Rattle.std.specs.Prelude.{◌≡◌, ◌++◌, ◌+◌, ⊤, ℕ, ℤ, Bool, false, List, [], ◌∷◌, length, Some, None, IsSomeAnd}
use Rattle.std.specs.List.{AllByRecursion}
use Rattle.cookie_store.specs.Given.{ArePicked}
use Rattle.cookie_store.specs.Rows.{Row}
use Rattle.publicsuffix.specs.Rules.{Rule}
use Rattle.store_parts.specs.Schemes.{host_of}
use Rattle.url.specs.Parts.{Parts}
use Rattle.cookie_client.specs.Steps.{Act, Visits, Answers, Asks, Restarts}
use Rattle.cookie_client.specs.Header.{IsHeader}
use Rattle.cookie_run.specs.Headline.{AreRelated, Each}
use Rattle.cookie_run.specs.Play.{Plays, IsRunOf, IsRunUntilOf}
use Rattle.cookie_run.specs.Readings.{all_told}
use Rattle.cookie_run.specs.declared.step.FaultKind.{FaultKind}
use Rattle.cookie_client.specs.declared.command.Reading.{Reading}
use Rattle.cookie_client.specs.declared.command.Reading.TheVariants.{Value, Refused, Header}

-- ---- the acts that concern a host

-- the URL has a host, and the two are related
abbrev pub IsRelatedAt : List Rule → List ℕ → Parts → Type 0
IsRelatedAt list host url = IsSomeAnd (host_of url) (AreRelated list host)

-- an exchange with a related host and an answer of one concern the host; looks at headers and restarts concern every
-- host
abbrev pub Concerns : List Rule → List ℕ → Act → Type 0
Concerns list host (Visits url at commands arrival) = IsRelatedAt list host url
Concerns list host (Answers url lines at) = IsRelatedAt list host url
Concerns list host (Asks url at) = ⊤
Concerns list host (Restarts at) = ⊤

-- the second are those of the acts that concern the host, in their order
abbrev pub IsOnly : List Rule → List ℕ → List Act → List Act → Type 0
IsOnly list host acts few = ArePicked (Concerns list host) acts few

-- the act is no exchange with a related host
abbrev pub IsNoExchange : List Rule → List ℕ → Act → Type 0
IsNoExchange list host (Visits url at commands arrival) = ¬ (IsRelatedAt list host url)
IsNoExchange list host (Answers url lines at) = ⊤
IsNoExchange list host (Asks url at) = ⊤
IsNoExchange list host (Restarts at) = ⊤

-- ---- the headers of a play

-- the header of a request after those of the acts alone that concern the host, in a run of them
pub record HeaderAlone (list : List Rule) (key host : List ℕ) (before : List Act) (url : Parts) (at : ℤ) : Type 0 where
  pub few : List Act
  pub only : IsOnly list host before few
  pub told : List (List Reading)
  pub rows : List Row
  pub ran : Plays false list key [] few told rows
  pub header : List ℕ
  pub is_header : IsHeader rows url at header

-- The header of a request after these acts: empty where its URL has no host; else, where none of them is an exchange
-- with a related host, byte for byte each header after those alone that concern that host; that there is none is
-- refuted.
pub record IsUntouched (list : List Rule) (key : List ℕ) (before : List Act) (url : Parts) (at : ℤ) (header : List ℕ)
    : Type 0 where
  pub hostless : host_of url ≡ None → header ≡ []
  pub same :
      (host : List ℕ) → host_of url ≡ Some host → Each (IsNoExchange list host) before
      → (other : HeaderAlone list key host before url at) → header ≡ other.header
  pub there :
      (host : List ℕ) → host_of url ≡ Some host → Each (IsNoExchange list host) before
      → ¬ (¬ (HeaderAlone list key host before url at))

-- the reading is no header
abbrev pub IsNoHeader : Reading → Type 0
IsNoHeader (Value way name value) = ⊤
IsNoHeader (Refused error) = ⊤
IsNoHeader (Header header) = ⊥

-- a look at a header reads one that is so, other acts read none
abbrev pub ReadsUntouched : List Rule → List ℕ → List Act → Act → List Reading → Type 0
ReadsUntouched list key before (Visits url at commands arrival) told = AllByRecursion IsNoHeader told
ReadsUntouched list key before (Answers url lines at) told = told ≡ []
ReadsUntouched list key before (Asks url at) told =
    (header : List ℕ) × (told ≡ Header header ∷ []) × IsUntouched list key before url at header
ReadsUntouched list key before (Restarts at) told = told ≡ []

-- so does each of the acts, each with its own readings, after these and those in front of it
abbrev pub EachReadsUntouched : List Rule → List ℕ → List Act → List Act → List (List Reading) → Type 0
EachReadsUntouched list key before [] told = told ≡ []
EachReadsUntouched list key before (act ∷ acts) [] = ⊥
EachReadsUntouched list key before (act ∷ acts) (told ∷ later) =
    ReadsUntouched list key before act told × EachReadsUntouched list key (before ++ act ∷ []) acts later

-- STRANGERS DON'T SHOW: each header that a play reads is the one after those acts alone that concern its host.
pub record StrangersDontShow (list : List Rule) (key : List ℕ) (acts : List Act)
    (readings : List Reading) : Type 0 where
  pub told : List (List Reading)
  pub read : readings ≡ all_told told
  pub headers : EachReadsUntouched list key [] acts told

-- The same of a play that stopped in a step, counted from 1: in that step it read no header.
pub record StrangersDontShowUntil (list : List Rule) (key : List ℕ) (acts : List Act) (step : ℕ)
    (readings : List Reading) : Type 0 where
  pub before : List Act
  pub act : Act
  pub after : List Act
  pub cut : acts ≡ before ++ act ∷ after
  pub at_step : step ≡ length before + 1
  pub told : List (List Reading)
  pub front : List Reading
  pub read : readings ≡ all_told told ++ front
  pub headers : EachReadsUntouched list key [] before told
  pub headless : AllByRecursion IsNoHeader front

-- ---- the law

-- so it is in every play, whatever the bytes, the URLs and the moments, by either reading
abbrev pub EachPlayIsUntouched : Type 0
EachPlayIsUntouched =
    (shown : Bool) (list : List Rule) (key : List ℕ) (acts : List Act) (readings : List Reading)
    → IsRunOf shown list key acts readings → StrangersDontShow list key acts readings

-- and in every play that stops, as far as it came
abbrev pub EachStoppedPlayIsUntouched : Type 0
EachStoppedPlayIsUntouched =
    (shown : Bool) (list : List Rule) (key : List ℕ) (acts : List Act) (step : ℕ) (kind : FaultKind)
    (readings : List Reading) → IsRunUntilOf shown list key acts step kind readings
    → StrangersDontShowUntil list key acts step readings
