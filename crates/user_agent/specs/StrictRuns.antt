-- What a session reads under a name that its site sets Strict each time (own: docs/DEFINITIONS.md).
use Rattle.std.specs.Prelude.{◌≡◌, ◌⊎◌, ◌≤ℤ◌, ⊤, ℕ, ℤ, pos, Bool, List, [], ◌∷◌, false, Ok, Some}
use Rattle.std.specs.List.{AllByRecursion}
use Rattle.std.specs.Str.{IsUtf8}
use Rattle.percent_encoding.specs.Percent.{percent_decode}
use Rattle.publicsuffix.specs.Rules.{Rule}
use Rattle.url.specs.Parts.{Parts}
use Rattle.cookie.specs.Jar.{Jar, delta}
use Rattle.cookie_text.specs.Reading.{ReadsPlain}
use Rattle.cookie_text.specs.Record.{Record, Seen}
use Rattle.cookie_text.specs.declared.draft.SameSite.TheVariants.{Strict}
use Rattle.store_parts.specs.Expiry.{death, is_dead}
use Rattle.cookie_store.specs.Rows.{Row}
use Rattle.cookie_client.specs.Hosts.{secure_host}
use Rattle.cookie_client.specs.Jar.{ClosesWith, IsOpenedBy, Keyed, ReadsIn}
use Rattle.cookie_client.specs.Keeping.{Keeps}
use Rattle.cookie_client.specs.Ways.{stored_name}
use Rattle.cookie_client.specs.declared.way.Way.TheVariants.{Host}
use Rattle.user_agent.specs.Agent.{IsHandedOn}
use Rattle.user_agent.specs.CrossAnswers.{ReceivesFor}
use Rattle.user_agent.specs.CrossSite.{IsHeaderFor}
use Rattle.user_agent.specs.Refusals.{CameByHttps}
use Rattle.user_agent.specs.SecureRuns.{Answer}
use Rattle.user_agent.specs.SessionLines.{IsWithin}
use Rattle.user_agent.specs.Sites.{IsCrossSite}
use Rattle.user_agent.specs.declared.cross_answer.OutcomeFor.{OutcomeFor}
use Rattle.user_agent.specs.declared.rules.Rules.{Rules}
use Rattle.user_agent.specs.declared.sites.Initiator.{Initiator}

-- ---- what comes to a user agent

-- an answer to a request that is started so; or the rows are saved at a moment, and loaded again at another
pub data StartedStep : Type 0 where
  Comes : (answer : Answer) (initiator : Initiator) → StartedStep
  Reloads : (saving loading : ℤ) → StartedStep

-- the rows after a step
abbrev pub TakesStarted : Rules → List Rule → List Row → StartedStep → List Row → Type 0
TakesStarted rules list rows (Comes answer initiator) new =
    (outcomes : List OutcomeFor)
    × ReceivesFor rules list rows answer.url initiator answer.at answer.lines outcomes new
TakesStarted rules list rows (Reloads saving loading) new = Keeps rows saving loading new

-- the rows after the steps, one after another
abbrev pub TakesAllStarted : Rules → List Rule → List Row → List StartedStep → List Row → Type 0
TakesAllStarted rules list rows [] new = new ≡ rows
TakesAllStarted rules list rows (step ∷ steps) new =
    (mid : List Row) × TakesStarted rules list rows step mid × TakesAllStarted rules list mid steps new

-- ---- the premise

-- As the client gets the line, it reads as a Strict cookie, if as one of this decoded name that isn't dead as it comes;
-- a removal is dead.
abbrev pub SetsStrictly : Rules → ℤ → List ℕ → List ℕ → Type 0
SetsStrictly rules now name line =
    (handed : List ℕ) (seen : Seen) → IsHandedOn rules now line handed → IsUtf8 handed → ReadsPlain handed (Ok seen)
    → percent_decode seen.cookie.name ≡ name → is_dead now (death seen.cookie now) ≡ false
    → seen.cookie.same_site ≡ Some Strict

-- So does each line of the host's answers at https. Of other answers nothing is asked, of its own at another scheme
-- neither: they may be anyone's.
abbrev pub IsSetStrictly : Rules → List ℕ → List ℕ → StartedStep → Type 0
IsSetStrictly rules host name (Comes answer initiator) =
    secure_host answer.url ≡ Some host → AllByRecursion (SetsStrictly rules answer.at name) answer.lines
IsSetStrictly rules host name (Reloads saving loading) = ⊤

-- ---- the law

-- Whatever comes to a user agent that began without a row, whatever starts its requests: where a session on the header
-- of a request to the host at https, by either reading of it, reads a value by the way `Host` under a name that the
-- host sets Strict each time, no page of another site started the request.
abbrev pub StrictNamesAreReadAtHome : Type 0
StrictNamesAreReadAtHome =
    (rules : Rules) (list : List Rule) (steps : List StartedStep) (rows : List Row)
    → TakesAllStarted rules list [] steps rows → (host name : List ℕ)
    → AllByRecursion (IsSetStrictly rules host (stored_name Host name)) steps
    → (to : Parts) (initiator : Initiator) (now : ℤ) (header : List ℕ) → secure_host to ≡ Some host
    → IsHeaderFor rules list rows to initiator now header
    → (shown : Bool) (key : List ℕ) (session : Keyed) → IsOpenedBy shown key header session
    → (value : List ℕ) → ReadsIn session Host name (Some value) → ¬ (IsCrossSite list to initiator)

-- ---- sessions keep the premise

-- a cookie as a session closes with it is Strict; or it has the length 0, as a removal has, and comes in 1970 or later
abbrev pub IsStrictOrRemoves : ℤ → Record → Type 0
IsStrictOrRemoves now cookie =
    (cookie.same_site ≡ Some Strict) ⊎ ((cookie.max_age ≡ Some (pos 0)) × (pos 0 ≤ℤ now))

-- So the lines that a session closes with set strictly from an https URL, where the cookie of the name in its delta, if
-- there is one, is so and within the bounds of the rules. Of its other cookies nothing is asked: whatever the rules
-- change, each keeps its name.
abbrev pub SessionsSetStrictly : Type 0
SessionsSetStrictly =
    (rules : Rules) (url : Parts) (now : ℤ) (jar : Jar) (lines : List (List ℕ)) (name : List ℕ) → ClosesWith jar lines
    → CameByHttps url
    → ((stored : List ℕ) (s : Seen) → delta jar stored ≡ Some s → s.cookie.name ≡ name
    → IsWithin rules now s.cookie × IsStrictOrRemoves now s.cookie)
    → AllByRecursion (SetsStrictly rules now name) lines
