-- What holds of every play on the rows of a client, by either reading of the headers on which its sessions open.
use Rattle.std.specs.Prelude.{◌≤ℤ◌, ℕ, ℤ, List, [], Bool}
use Rattle.publicsuffix.specs.Rules.{Rule}
use Rattle.cookie_store.specs.Rows.{Row}
use Rattle.cookie_run.specs.Moments.{AllFollow, last_of, the_beginning}
use Rattle.cookie_run.specs.declared.step.FaultKind.{FaultKind}
use Rattle.cookie_client.specs.declared.command.Reading.{Reading}
use Rattle.cookie_client.specs.Steps.{Act}
use Rattle.cookie_run.specs.Acts.{moments_of}
use Rattle.cookie_run.specs.Headline.{IsSite, EachReadsOn, SitesReadTheirOwn, SitesReadTheirOwnUntil}
use Rattle.cookie_run.specs.HostHeadline.{HostsReadTheirOwn, HostsReadTheirOwnUntil}
use Rattle.cookie_run.specs.HostLines.{SettersReadTheirOwn, SettersReadTheirOwnUntil}
use Rattle.cookie_run.specs.Play.{Plays, IsRunOf, IsRunUntilOf}
use Rattle.cookie_run.specs.Brought.{BringsSite}
use Rattle.cookie_run.specs.Site.{Site, nothing, live_view}

-- what a play whose moments are in order reads, its sites read of their own
abbrev pub EachPlayIsRead : List ℕ → Type 0
EachPlayIsRead key =
    (shown : Bool) (list : List Rule) (acts : List Act) (readings : List Reading)
    → AllFollow the_beginning (moments_of acts) → IsRunOf shown list key acts readings
    → SitesReadTheirOwn list acts readings

-- so does a play that stops, as far as it came
abbrev pub EachStoppedPlayIsRead : List ℕ → Type 0
EachStoppedPlayIsRead key =
    (shown : Bool) (list : List Rule) (acts : List Act) (step : ℕ) (kind : FaultKind) (readings : List Reading)
    → IsRunUntilOf shown list key acts step kind readings → SitesReadTheirOwnUntil list acts step kind readings

-- and by `__Host-` each host reads its own, whatever the others answer
abbrev pub EachPlayIsReadByHost : List ℕ → Type 0
EachPlayIsReadByHost key =
    (shown : Bool) (list : List Rule) (acts : List Act) (readings : List Reading)
    → AllFollow the_beginning (moments_of acts) → IsRunOf shown list key acts readings
    → HostsReadTheirOwn acts readings

abbrev pub EachStoppedPlayIsReadByHost : List ℕ → Type 0
EachStoppedPlayIsReadByHost key =
    (shown : Bool) (list : List Rule) (acts : List Act) (step : ℕ) (kind : FaultKind) (readings : List Reading)
    → IsRunUntilOf shown list key acts step kind readings → HostsReadTheirOwnUntil acts step kind readings

-- so does each host that sets its `__Host-` cookies alone by sessions
abbrev pub EachPlayIsReadBySetters : List ℕ → Type 0
EachPlayIsReadBySetters key =
    (shown : Bool) (list : List Rule) (acts : List Act) (readings : List Reading)
    → AllFollow the_beginning (moments_of acts) → IsRunOf shown list key acts readings
    → SettersReadTheirOwn acts readings

abbrev pub EachStoppedPlayIsReadBySetters : List ℕ → Type 0
EachStoppedPlayIsReadBySetters key =
    (shown : Bool) (list : List Rule) (acts : List Act) (step : ℕ) (kind : FaultKind) (readings : List Reading)
    → IsRunUntilOf shown list key acts step kind readings → SettersReadTheirOwnUntil acts step kind readings

-- and what a play that ended left, its sites' requests are brought
abbrev pub RowsAreTheSites : List ℕ → Type 0
RowsAreTheSites key =
    (shown : Bool) (list : List Rule) (acts : List Act) (told : List (List Reading)) (rows : List Row)
    → AllFollow the_beginning (moments_of acts) → Plays shown list key [] acts told rows
    → (host : List ℕ) → IsSite list host acts → (end : Site) × EachReadsOn host nothing acts told end
    × ((now : ℤ) → last_of the_beginning (moments_of acts) ≤ℤ now → BringsSite key host rows now (live_view end now))
