-- At each request a site reads what its own delivered commands leave (own: docs/DEFINITIONS.md). Nothing here knows a
-- row, a header, a line of a session or a saved text, nor how a value is signed or sealed. What commands read and what
-- they and a restart leave, `Site` says; `play` promises the headline of its own readings, by its clauses `sites` and
-- `sites_until`.
use Rattle.std.specs.Prelude.{ℕ, ℤ, ◌+◌, List, [], ◌∷◌, ◌++◌, length, All, Some, ◌≡◌, ◌≢◌, ◌⊎◌, ⊤}
use Rattle.idna.specs.Labels.{labels_of}
use Rattle.publicsuffix.specs.Prevailing.{Listed}
use Rattle.publicsuffix.specs.Rules.{Rule}
use Rattle.store_parts.specs.DomainText.{idna_form}
use Rattle.url.specs.Parts.{Parts}
use Rattle.store_parts.specs.Schemes.{host_of}
use Rattle.cookie_client.specs.Hosts.{IsInReach, secure_host}
use Rattle.cookie_run.specs.Moments.{last_of, the_beginning}
use Rattle.cookie_run.specs.Readings.{all_told, AnswersEach}
use Rattle.cookie_run.specs.declared.step.FaultKind.{FaultKind}
use Rattle.cookie_client.specs.declared.command.Reading.{Reading}
use Rattle.cookie_client.specs.Steps.{Act, Visits, Answers, Asks, Restarts, Arrives, Never}
use Rattle.cookie_run.specs.Acts.{moments_of}
use Rattle.cookie_client.specs.declared.command.Command.{Command}
use Rattle.cookie_run.specs.Site.{Site, View, nothing, live_view, CommandsOn, ExchangeOn, restarted}
use Rattle.cookie_run.specs.Stops.{StopsFrom}

-- ---- the premises

-- what comes of the host's answers is of sessions at https URLs, and of nothing else
abbrev pub AnswersBySessions : List ℕ → Act → Type 0
AnswersBySessions host (Visits url at commands (Arrives later)) =
    host_of url ≡ Some host → secure_host url ≡ Some host
AnswersBySessions host (Visits url at commands Never) = ⊤
AnswersBySessions host (Answers url lines at) = host_of url ≢ Some host
AnswersBySessions host (Asks url at) = ⊤
AnswersBySessions host (Restarts at) = ⊤

-- a text in the reach of both is a public suffix of the list: neither can set a cookie for the other
abbrev pub AreApart : List Rule → List ℕ → List ℕ → Type 0
AreApart list host other =
    (text : List ℕ) → text ≢ [] → IsInReach host text → IsInReach other text → Listed list text

-- two hosts are related: they are equal, or another text than a public suffix is in the reach of both
abbrev pub AreRelated : List Rule → List ℕ → List ℕ → Type 0
AreRelated list host other =
    (host ≡ other)
    ⊎ ((text : List ℕ) × (text ≢ []) × IsInReach host text × IsInReach other text × (¬ (Listed list text)))

-- the URL is of the host, or its host is apart from it
abbrev pub IsApartFrom : List Rule → List ℕ → Parts → Type 0
IsApartFrom list host url = (other : List ℕ) → host_of url ≡ Some other → host ≢ other → AreApart list host other

-- another host whose answer comes is apart from it
abbrev pub AnswersApart : List Rule → List ℕ → Act → Type 0
AnswersApart list host (Visits url at commands (Arrives later)) = IsApartFrom list host url
AnswersApart list host (Visits url at commands Never) = ⊤
AnswersApart list host (Answers url lines at) = IsApartFrom list host url
AnswersApart list host (Asks url at) = ⊤
AnswersApart list host (Restarts at) = ⊤

abbrev pub Each : (Act → Type 0) → List Act → Type 0
Each Is [] = ⊤
Each Is (act ∷ acts) = Is act × Each Is acts

-- the host is a site of this play: its own IDNA form, with no empty label, answering by sessions alone, and apart from
-- the other hosts that answer
pub record IsSite (list : List Rule) (host : List ℕ) (acts : List Act) : Type 0 where
  pub own_form : idna_form host ≡ Some host
  pub no_empty_label : All (λ label. label ≢ []) (labels_of host)
  pub sessions : Each (AnswersBySessions host) acts
  pub apart : Each (AnswersApart list host) acts

-- ---- the site through a play

-- an exchange of the host at https reads what its commands read on its site; a restart leaves of that site what has a
-- death that is to come; other acts leave it as it is
abbrev pub ReadsOn : List ℕ → Site → Act → List Reading → Site → Type 0
ReadsOn host site (Visits url at commands arrival) told new =
    (secure_host url ≡ Some host → ExchangeOn site at commands arrival told new)
    × (secure_host url ≢ Some host → new ≡ site)
ReadsOn host site (Answers url lines at) told new = new ≡ site
ReadsOn host site (Asks url at) told new = new ≡ site
ReadsOn host site (Restarts at) told new = new ≡ restarted site at

-- so does each of the acts, each with its own readings
abbrev pub EachReadsOn : List ℕ → Site → List Act → List (List Reading) → Site → Type 0
EachReadsOn host site [] told end = end ≡ site
EachReadsOn host site (act ∷ acts) [] end = ⊥
EachReadsOn host site (act ∷ acts) (told ∷ later) end =
    (mid : Site) × ReadsOn host site act told mid × EachReadsOn host mid acts later end

-- what is read on a site at the moment by all of the commands, and by the first of them
abbrev pub AllOn : Site → ℤ → List Command → List Reading → Type 0
AllOn site now commands told =
    (noted : List Command) × (after : View) × CommandsOn (live_view site now) commands told noted after

abbrev pub FrontOn : Site → ℤ → List Command → List Reading → Type 0
FrontOn site now commands told =
    (front : List Command) × (rest : List Command) × (commands ≡ front ++ rest) × AllOn site now front told

-- an exchange of the host at https that the play stopped in read that, as far as it came
abbrev pub StopsOn : List ℕ → Site → FaultKind → ℤ → Act → List Reading → List Reading → Type 0
StopsOn host site kind last (Visits url at commands arrival) old readings =
    secure_host url ≡ Some host → StopsFrom kind last (Visits url at commands arrival) old (FrontOn site at commands)
    (AllOn site at commands) readings
StopsOn host site kind last (Answers url lines at) old readings = ⊤
StopsOn host site kind last (Asks url at) old readings = ⊤
StopsOn host site kind last (Restarts at) old readings = ⊤

-- ---- the headline

-- THE HEADLINE: for every host that is its own IDNA form without an empty label, that answers by sessions alone, and
-- that is apart from the other hosts that answer, each of its exchanges at https reads, in the way it was set, what its
-- own delivered commands before it leave, after a restart only what had a death, and what its own commands so far set
-- and removed.
pub record SitesReadTheirOwn (list : List Rule) (acts : List Act) (readings : List Reading) : Type 0 where
  pub told : List (List Reading)
  pub read : readings ≡ all_told told
  pub own : AnswersEach acts told
  pub sites : (host : List ℕ) → IsSite list host acts → (end : Site) × EachReadsOn host nothing acts told end

-- a site as it came to an act, and what the play that stopped there read
abbrev pub ReadsUntil : List ℕ → List Act → List (List Reading) → Act → FaultKind → ℤ → List Reading → Type 0
ReadsUntil host before told act kind last readings =
    (site : Site) × EachReadsOn host nothing before told site × StopsOn host site kind last act (all_told told) readings

-- The same as far as a play came that stopped in a step, counted from 1.
pub record SitesReadTheirOwnUntil (list : List Rule) (acts : List Act) (step : ℕ) (kind : FaultKind)
    (readings : List Reading) : Type 0 where
  pub before : List Act
  pub act : Act
  pub after : List Act
  pub cut : acts ≡ before ++ act ∷ after
  pub at_step : step ≡ length before + 1
  pub told : List (List Reading)
  pub front : List Reading
  pub read : readings ≡ all_told told ++ front
  pub own : AnswersEach before told
  pub sites : (host : List ℕ) → IsSite list host before
      → ReadsUntil host before told act kind (last_of the_beginning (moments_of before)) readings
