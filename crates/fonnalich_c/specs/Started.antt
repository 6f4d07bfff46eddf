-- A request and what starts it: the lines of its answer, and its header (own: docs/DEFINITIONS.md). What becomes of
-- lines and what a header holds is said by `user_agent`.
use Rattle.std.specs.Prelude.{ℕ, ℤ, ◌≡◌, ◌⊎◌, ◌==◌, if◌then◌else◌, Bool, false, true, List, map, Option, Some, None}
use Rattle.std.specs.Prelude.{IsSomeAnd, option_map}
use Rattle.url.specs.Parts.{Parts}
use Rattle.cookie_store.specs.Rows.{Store}
use Rattle.user_agent.specs.CrossAnswers.{ReceivesFor, IsStoppedFor}
use Rattle.user_agent.specs.CrossSite.{IsHeaderFor}
use Rattle.user_agent.specs.declared.cross_answer.OutcomeFor.{OutcomeFor}
use Rattle.user_agent.specs.declared.rules.Rules.{Rules}
use Rattle.user_agent.specs.declared.sites.Initiator.{Initiator}
use Rattle.fonnalich_c.specs.Control.{has_control}
use Rattle.fonnalich_c.specs.Faults.{IsTold}
use Rattle.fonnalich_c.specs.Given.{IsUrl, IsNoUrl, IsNoMoment, nanos_of, lines_of}
use Rattle.fonnalich_c.specs.Rules.{outcome_for_number}
use Rattle.fonnalich_c.specs.declared.refusal.Refusal.{Refusal}
use Rattle.fonnalich_c.specs.declared.refusal.Refusal.TheVariants as refusal
use Rattle.fonnalich_c.specs.declared.started.Start.{Start}
use Rattle.fonnalich_c.specs.declared.started.Start.TheVariants as start

-- what the numbers say of what starts a request
abbrev pub start_of : ℕ → Option Start
start_of number =
    if number == 0 then Some start.User
    else if number == 1 then Some start.Page
    else if number == 2 then Some start.Navigation
    else None

-- a request: a second since 1970, its URL, what starts it, and the URL of the page that does
pub record Request : Type 0 where
  pub second : ℤ
  pub url : List ℕ
  pub start : Start
  pub page : List ℕ

-- the URL of the text is that of the page, where one starts the request
abbrev pub IsPageOf : Start → List ℕ → Option Parts → Type 0
IsPageOf start.User text page = page ≡ None
IsPageOf start.Page text page = IsSomeAnd page (IsUrl text)
IsPageOf start.Navigation text page = IsSomeAnd page (IsUrl text)

abbrev pub IsNoPageOf : Start → List ℕ → Type 0
IsNoPageOf start.User text = ⊥
IsNoPageOf start.Page text = IsNoUrl text
IsNoPageOf start.Navigation text = IsNoUrl text

abbrev pub navigates : Start → Bool
navigates start.User = false
navigates start.Page = false
navigates start.Navigation = true

-- it is told to be started so: a navigation of the top level is one by a safe method
abbrev pub IsStarted : Request → Initiator → Type 0
IsStarted request initiator =
    IsPageOf request.start request.page (option_map (λ page. page.now) initiator.page)
    × (initiator.is_navigation ≡ navigates request.start) × (initiator.is_safe ≡ navigates request.start)

-- what is wrong with its second, its URL and that of the page
abbrev pub IsRequestFault : Request → Refusal → Type 0
IsRequestFault request refused = ((refused ≡ refusal.Moment) × IsNoMoment request.second)
    ⊎ ((refused ≡ refusal.Url) × (IsNoUrl request.url ⊎ IsNoPageOf request.start request.page))

-- ---- the lines of its answer

-- the lines of the text come to the client, and the answer has the number of what became of each
abbrev pub Receives : Rules → Request → List ℕ → Store → List ℕ → Store → Type 0
Receives rules request text old answer new = (new.suffixes ≡ old.suffixes)
    × ((url : Parts) × (initiator : Initiator) × (outcomes : List OutcomeFor) × IsUrl request.url url
    × IsStarted request initiator
    × ReceivesFor rules old.suffixes old.rows url initiator (nanos_of request.second) (lines_of text) outcomes new.rows
    × (answer ≡ map outcome_for_number outcomes))

-- memory was refused at a line
abbrev pub StopsAtLine : Rules → Request → List ℕ → Store → ℕ → Store → Type 0
StopsAtLine rules request text old line new = (new.suffixes ≡ old.suffixes)
    × ((url : Parts) × (initiator : Initiator) × IsUrl request.url url × IsStarted request initiator
    × IsStoppedFor rules old.suffixes old.rows url initiator (nanos_of request.second) (lines_of text) line new.rows)

-- why the client doesn't take the lines, or not all
abbrev pub RefusesLines : Rules → Request → List ℕ → Store → Refusal → Store → Type 0
RefusesLines rules request text old refused new =
    ((new ≡ old) × IsTold (IsRequestFault request) refused)
    ⊎ ((line : ℕ) × (refused ≡ refusal.Stopped line) × StopsAtLine rules request text old line new)

-- ---- its header

-- this is the header, and whether it has a control character
abbrev pub HeadsSo : Bool → Rules → Request → Store → List ℕ → Type 0
HeadsSo is_broken rules request store header = (has_control header ≡ is_broken)
    × ((url : Parts) × (initiator : Initiator) × IsUrl request.url url × IsStarted request initiator
    × IsHeaderFor rules store.suffixes store.rows url initiator (nanos_of request.second) header)

-- the answer is the header, and has none
unfoldable pub Heads : Rules → Request → Store → List ℕ → Type 0
Heads rules request store answer = HeadsSo false rules request store answer

-- what is wrong with the request, or that its header has one
unfoldable pub IsHeaderFault : Rules → Request → Store → Refusal → Type 0
IsHeaderFault rules request store refused = ((refused ≡ refusal.Moment) × IsNoMoment request.second)
    ⊎ ((refused ≡ refusal.Url) × (IsNoUrl request.url ⊎ IsNoPageOf request.start request.page))
    ⊎ ((refused ≡ refusal.Line) × ((header : List ℕ) × HeadsSo true rules request store header))
