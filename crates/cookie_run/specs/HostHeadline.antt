-- By `__Host-` a site reads what its own delivered commands leave, whatever other hosts answer, those of a shared
-- parent domain too, and whatever is answered in its own name at another scheme than https (own: docs/DEFINITIONS.md).
-- It is `Headline` for the stored names that begin with `__Host-`, as each name of the way `Host` does, without the
-- premise that other hosts are apart. What commands read, and what they and a restart leave, `Site` says. `play`
-- promises it of its own readings, by its clauses `hosts` and `hosts_until`.
use Rattle.std.specs.Prelude.{◌≡◌, ◌≢◌, ◌+◌, ⊤, ℕ, ℤ, List, [], ◌∷◌, ◌++◌, length, All, Some}
use Rattle.idna.specs.Labels.{labels_of}
use Rattle.cookie.specs.Prefix.{host_text}
use Rattle.store_parts.specs.DomainText.{idna_form}
use Rattle.cookie_client.specs.Steps.{Act, Visits, Answers, Asks, Restarts, Arrival}
use Rattle.cookie_run.specs.Acts.{moments_of}
use Rattle.cookie_run.specs.Headline.{Each}
use Rattle.cookie_client.specs.Hosts.{secure_host}
use Rattle.cookie_run.specs.Moments.{last_of, the_beginning}
use Rattle.cookie_run.specs.Readings.{IsAnswer, AnswersEach, all_told}
use Rattle.cookie_run.specs.Site.{Site, View, nothing, live_view, SetOn, RemoveOn, GetOn, after_arrival, restarted}
use Rattle.cookie_client.specs.Ways.{stored_name}
use Rattle.cookie_run.specs.Stops.{StopsFrom}
use Rattle.cookie_client.specs.declared.command.Command.{Command}
use Rattle.cookie_client.specs.declared.command.Command.TheVariants.{Set, Remove, Get}
use Rattle.cookie_run.specs.declared.step.FaultKind.{FaultKind}
use Rattle.cookie_client.specs.declared.command.Reading.{Reading}
use Rattle.cookie_client.specs.declared.way.Way.{Way}

-- ---- the premises

-- What comes of the host's answers at https is of sessions. Of other answers nothing is asked, of its own at another
-- scheme neither: they may be anyone's.
abbrev pub SecureAnswersBySessions : List ℕ → Act → Type 0
SecureAnswersBySessions host (Visits url at commands arrival) = ⊤
SecureAnswersBySessions host (Answers url lines at) = secure_host url ≢ Some host
SecureAnswersBySessions host (Asks url at) = ⊤
SecureAnswersBySessions host (Restarts at) = ⊤

-- the host is a site of this play by its `__Host-` cookies: its own IDNA form, with no empty label, answering at https
-- by sessions alone
pub record IsHostSite (host : List ℕ) (acts : List Act) : Type 0 where
  pub own_form : idna_form host ≡ Some host
  pub no_empty_label : All (λ label. label ≢ []) (labels_of host)
  pub sessions : Each (SecureAnswersBySessions host) acts

-- ---- the site through a play

-- the stored name begins with `__Host-`
abbrev pub HasHostPrefix : List ℕ → Type 0
HasHostPrefix name = (rest : List ℕ) × (name ≡ host_text ++ rest)

-- A get of a name that is stored so, as each of the way `Host` is, reads what the view has; of another get it is told
-- only that it has its answer.
abbrev pub GetByHost : View → Way → List ℕ → List Reading → Type 0
GetByHost view way name told =
    (HasHostPrefix (stored_name way name) → GetOn view way name told)
    × ((answer : Reading) × (told ≡ answer ∷ []) × IsAnswer way name answer)

abbrev pub CommandByHost : View → Command → List Reading → List Command → View → Type 0
CommandByHost view (Set way cookie) told noted new = SetOn view (Set way cookie) way cookie.cookie told noted new
CommandByHost view (Remove way name) told noted new = RemoveOn view (Remove way name) way name told noted new
CommandByHost view (Get way name) told noted new = GetByHost view way name told × (noted ≡ []) × (new ≡ view)

-- the commands, one after another
abbrev pub CommandsByHost : View → List Command → List Reading → List Command → View → Type 0
CommandsByHost view [] told noted new = (told ≡ []) × (noted ≡ []) × (new ≡ view)
CommandsByHost view (c ∷ cs) told noted new =
    (first : List Reading) × (later : List Reading) × (noted_first : List Command) × (noted_later : List Command)
    × (mid : View) × CommandByHost view c first noted_first mid × CommandsByHost mid cs later noted_later new
    × (told ≡ first ++ later) × (noted ≡ noted_first ++ noted_later)

-- an exchange that is opened at the moment
abbrev pub ExchangeByHost : Site → ℤ → List Command → Arrival → List Reading → Site → Type 0
ExchangeByHost site now commands arrival told new =
    (noted : List Command) × (after : View) × CommandsByHost (live_view site now) commands told noted after
    × (new ≡ after_arrival arrival site noted)

-- an exchange of the host at https reads what its commands read on its site; a restart leaves of that site what has a
-- death that is to come; other acts leave it as it is
abbrev pub ReadsByHost : List ℕ → Site → Act → List Reading → Site → Type 0
ReadsByHost host site (Visits url at commands arrival) told new =
    (secure_host url ≡ Some host → ExchangeByHost site at commands arrival told new)
    × (secure_host url ≢ Some host → new ≡ site)
ReadsByHost host site (Answers url lines at) told new = new ≡ site
ReadsByHost host site (Asks url at) told new = new ≡ site
ReadsByHost host site (Restarts at) told new = new ≡ restarted site at

-- so does each of the acts, each with its own readings
abbrev pub EachReadsByHost : List ℕ → Site → List Act → List (List Reading) → Site → Type 0
EachReadsByHost host site [] told end = end ≡ site
EachReadsByHost host site (act ∷ acts) [] end = ⊥
EachReadsByHost host site (act ∷ acts) (told ∷ later) end =
    (mid : Site) × ReadsByHost host site act told mid × EachReadsByHost host mid acts later end

-- what is read on a site at the moment by all of the commands, and by the first of them
abbrev pub AllByHost : Site → ℤ → List Command → List Reading → Type 0
AllByHost site now commands told =
    (noted : List Command) × (after : View) × CommandsByHost (live_view site now) commands told noted after

abbrev pub FrontByHost : Site → ℤ → List Command → List Reading → Type 0
FrontByHost site now commands told =
    (front : List Command) × (rest : List Command) × (commands ≡ front ++ rest) × AllByHost site now front told

-- an exchange of the host at https that the play stopped in read that, as far as it came
abbrev pub StopsByHost : List ℕ → Site → FaultKind → ℤ → Act → List Reading → List Reading → Type 0
StopsByHost host site kind last (Visits url at commands arrival) old readings =
    secure_host url ≡ Some host → StopsFrom kind last (Visits url at commands arrival) old
    (FrontByHost site at commands) (AllByHost site at commands) readings
StopsByHost host site kind last (Answers url lines at) old readings = ⊤
StopsByHost host site kind last (Asks url at) old readings = ⊤
StopsByHost host site kind last (Restarts at) old readings = ⊤

-- ---- the headline

-- THE HEADLINE BY `__Host-`: for every host that is its own IDNA form without an empty label and that answers at https
-- by sessions alone, each of its exchanges at https reads under the names that are stored with `__Host-` in front what
-- its own delivered commands before it leave, after a restart only what had a death, and what its own commands so far
-- set and removed.
pub record HostsReadTheirOwn (acts : List Act) (readings : List Reading) : Type 0 where
  pub told : List (List Reading)
  pub read : readings ≡ all_told told
  pub own : AnswersEach acts told
  pub sites : (host : List ℕ) → IsHostSite host acts → (end : Site) × EachReadsByHost host nothing acts told end

-- a site as it came to an act, and what the play that stopped there read
abbrev pub ReadsUntilByHost : List ℕ → List Act → List (List Reading) → Act → FaultKind → ℤ → List Reading → Type 0
ReadsUntilByHost host before told act kind last readings =
    (site : Site) × EachReadsByHost host nothing before told site
    × StopsByHost host site kind last act (all_told told) readings

-- The same as far as a play came that stopped in a step, counted from 1.
pub record HostsReadTheirOwnUntil (acts : List Act) (step : ℕ) (kind : FaultKind) (readings : List Reading)
    : Type 0 where
  pub before : List Act
  pub act : Act
  pub after : List Act
  pub cut : acts ≡ before ++ act ∷ after
  pub at_step : step ≡ length before + 1
  pub told : List (List Reading)
  pub front : List Reading
  pub read : readings ≡ all_told told ++ front
  pub own : AnswersEach before told
  pub sites : (host : List ℕ) → IsHostSite host before
      → ReadsUntilByHost host before told act kind (last_of the_beginning (moments_of before)) readings
