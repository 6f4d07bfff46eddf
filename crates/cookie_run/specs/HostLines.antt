-- The headline by `__Host-` for a site that sets other cookies without sessions too, as where other software of it
-- answers (own: docs/DEFINITIONS.md).
use Rattle.std.specs.Prelude.{◌≡◌, ◌≢◌, ◌+◌, ⊤, ℕ, List, [], ◌∷◌, ◌++◌, length, All, Some, Ok}
use Rattle.std.specs.List.{AllByRecursion}
use Rattle.std.specs.Str.{IsUtf8}
use Rattle.idna.specs.Labels.{labels_of}
use Rattle.percent_encoding.specs.Percent.{percent_decode}
use Rattle.cookie_text.specs.Reading.{ReadsPlain}
use Rattle.cookie_text.specs.Record.{Seen}
use Rattle.store_parts.specs.DomainText.{idna_form}
use Rattle.cookie_client.specs.Steps.{Act, Visits, Answers, Asks, Restarts}
use Rattle.cookie_run.specs.Acts.{moments_of}
use Rattle.cookie_run.specs.Headline.{Each}
use Rattle.cookie_run.specs.HostHeadline.{HasHostPrefix, EachReadsByHost, ReadsUntilByHost}
use Rattle.cookie_client.specs.Hosts.{secure_host}
use Rattle.cookie_run.specs.Moments.{last_of, the_beginning}
use Rattle.cookie_run.specs.Readings.{AnswersEach, all_told}
use Rattle.cookie_run.specs.Site.{Site, nothing}
use Rattle.cookie_run.specs.declared.step.FaultKind.{FaultKind}
use Rattle.cookie_client.specs.declared.command.Reading.{Reading}

-- the line reads as a cookie whose name, percent-decoded, begins with `__Host-`
abbrev pub NamesHost : List ℕ → Type 0
NamesHost line =
    IsUtf8 line × ((seen : Seen) × ReadsPlain line (Ok seen) × HasHostPrefix (percent_decode seen.cookie.name))

-- What comes of the host's answers at https under such a name is of sessions. Of other lines nothing is asked.
abbrev pub SetsHostBySessions : List ℕ → Act → Type 0
SetsHostBySessions host (Visits url at commands arrival) = ⊤
SetsHostBySessions host (Answers url lines at) =
    secure_host url ≡ Some host → AllByRecursion (λ line. ¬ (NamesHost line)) lines
SetsHostBySessions host (Asks url at) = ⊤
SetsHostBySessions host (Restarts at) = ⊤

-- the host is its own IDNA form, with no empty label, and sets its `__Host-` cookies at https by sessions alone
pub record IsHostSetter (host : List ℕ) (acts : List Act) : Type 0 where
  pub own_form : idna_form host ≡ Some host
  pub no_empty_label : All (λ label. label ≢ []) (labels_of host)
  pub sessions : Each (SetsHostBySessions host) acts

-- Each such host reads by `__Host-` what its own delivered commands leave, as `HostsReadTheirOwn` says it.
pub record SettersReadTheirOwn (acts : List Act) (readings : List Reading) : Type 0 where
  pub told : List (List Reading)
  pub read : readings ≡ all_told told
  pub own : AnswersEach acts told
  pub sites : (host : List ℕ) → IsHostSetter host acts → (end : Site) × EachReadsByHost host nothing acts told end

-- The same as far as a play came that stopped in a step, counted from 1.
pub record SettersReadTheirOwnUntil (acts : List Act) (step : ℕ) (kind : FaultKind) (readings : List Reading)
    : Type 0 where
  pub before : List Act
  pub act : Act
  pub after : List Act
  pub cut : acts ≡ before ++ act ∷ after
  pub at_step : step ≡ length before + 1
  pub told : List (List Reading)
  pub front : List Reading
  pub read : readings ≡ all_told told ++ front
  pub own : AnswersEach before told
  pub sites : (host : List ℕ) → IsHostSetter host before
      → ReadsUntilByHost host before told act kind (last_of the_beginning (moments_of before)) readings
