-- The headline by `__Host-`: where the names count that begin so.
use Rattle.std.proofs.Common.{Bool, ◌≡◌, ◌⊎◌, ℕ, ℤ, true, false, List, [], ◌∷◌, ◌++◌, take, drop, sym, ap, ◌∙◌, inl}
use Rattle.std.proofs.Common.{inr}
use Rattle.std.proofs.Common.{Some, ⊎_elim}
use Rattle.std.specs.List.{AllByRecursion}
use Rattle.std.proofs.lemmas.Bool.{cases_Bool}
use Rattle.url.specs.Parts.{Parts}
use Rattle.std.proofs.lemmas.List.{take-append-drop}
use Rattle.percent_encoding.specs.Percent.{percent_decode}
use Rattle.publicsuffix.specs.Rules.{Rule}
use Rattle.cookie.specs.Prefix.{host_text}
use Rattle.cookie_store.specs.Rows.{Row}
use Rattle.cookie_client.specs.Steps.{Act, Visits, Answers, Asks, Restarts, Arrives, Never}
use Rattle.cookie_run.specs.Acts.{moments_of}
use Rattle.cookie_run.specs.Headline.{Each}
use Rattle.cookie_run.specs.HostHeadline.{IsHostSite, SecureAnswersBySessions, HasHostPrefix, GetByHost}
use Rattle.cookie_run.specs.HostHeadline.{EachReadsByHost, HostsReadTheirOwn, HostsReadTheirOwnUntil}
use Rattle.cookie_run.specs.HostLines.{NamesHost, SetsHostBySessions, IsHostSetter, SettersReadTheirOwn}
use Rattle.cookie_run.specs.HostLines.{SettersReadTheirOwnUntil}
use Rattle.cookie_client.specs.Hosts.{secure_host}
use Rattle.cookie_client.specs.HostPrefix.{BeginsHost}
use Rattle.cookie_run.specs.Laws.{EachPlayIsReadByHost, EachStoppedPlayIsReadByHost}
use Rattle.cookie_run.specs.Laws.{EachPlayIsReadBySetters, EachStoppedPlayIsReadBySetters}
use Rattle.cookie_run.specs.Moments.{IsMoment, AllFollow, last_of, the_beginning}
use Rattle.cookie_run.specs.Play.{Plays}
use Rattle.cookie_run.specs.Readings.{all_told}
use Rattle.cookie_run.specs.Site.{Site, nothing}
use Rattle.cookie_client.specs.Ways.{stored_name}
use Rattle.cookie_run.specs.declared.step.FaultKind.{FaultKind}
use Rattle.cookie_client.specs.declared.command.Reading.{Reading}
use Rattle.cookie_run.proofs.Commands.{Told, EndsLate}
use Rattle.cookie_run.proofs.Exchange.{Laws, SiteAgrees}
use Rattle.cookie_run.proofs.FromLines.{line_pairs, plays_from}
use Rattle.cookie_run.proofs.Lines.{ReadsUncounted, AreAway}
use Rattle.cookie_client.proofs.SessionTexts.{is_text, host_is, other_host}
use Rattle.cookie_run.proofs.Sites.{AnswersAway, each_leads, begins, reads_back, act_stops, front_inside, plays_answer}
use Rattle.cookie_client.proofs.Texts.{same_text}
use Rattle.cookie_client.proofs.HostRows.{begins_host}

front_is : (name : List ℕ) → begins_host name ≡ true → HasHostPrefix name
front_is name e = (
  drop 7 name,
  sym (take-append-drop 7 name) ∙ ap (λ front. front ++ drop 7 name)
      (same_text (take 7 name) host_text e),
)

begun : (name : List ℕ) → begins_host (percent_decode name) ≡ true → BeginsHost name
begun name e = front_is (percent_decode name) e

begin : (name : List ℕ) → HasHostPrefix name → begins_host name ≡ true
begin name h = ap begins_host h.1

told_by : Told begins_host GetByHost
told_by seen way name told h = ((λ begins. h.0 (begin (stored_name way name) begins)), h.1)

-- ---- every host is away from what isn't its own at https

lacked : (line : List ℕ) → ¬ (NamesHost line) → ReadsUncounted begins_host line
lacked line free utf8 s reads =
    ⊎_elim
    (λ (e : begins_host (percent_decode s.cookie.name) ≡ true). absurd (free (utf8, (s, reads, front_is _ e))))
    (λ (e : begins_host (percent_decode s.cookie.name) ≡ false). e)
    (cases_Bool (begins_host (percent_decode s.cookie.name)))

all_lacked : (lines : List (List ℕ)) → AllByRecursion (λ line. ¬ (NamesHost line)) lines
    → AllByRecursion (ReadsUncounted begins_host) lines
all_lacked [] free = tt
all_lacked (line ∷ lines) free = (lacked line free.0, all_lacked lines free.1)

lines_away : (list : List Rule) (host : List ℕ) (url : Parts) (lines : List (List ℕ))
    → (is_text host (secure_host url) ≡ true) ⊎ (is_text host (secure_host url) ≡ false)
    → (secure_host url ≡ Some host → AllByRecursion (λ line. ¬ (NamesHost line)) lines)
    → AreAway begins_host list host url lines
lines_away list host url lines (inl e) free = inr (all_lacked lines (free (host_is host (secure_host url) e)))
lines_away list host url lines (inr e) free = inl (inr (other_host host (secure_host url) e, begun))

all_away : (list : List Rule) (host : List ℕ) (acts : List Act) → Each (SetsHostBySessions host) acts
    → Each (AnswersAway begins_host list host) acts
all_away list host [] s = tt
all_away list host (Visits url at commands (Arrives later) ∷ acts) s =
    ((λ other. inr (other, begun)), all_away list host acts s.1)
all_away list host (Visits url at commands Never ∷ acts) s = (tt, all_away list host acts s.1)
all_away list host (Answers url lines at ∷ acts) s =
    (lines_away list host url lines (cases_Bool (is_text host (secure_host url))) s.0, all_away list host acts s.1)
all_away list host (Asks url at ∷ acts) s = (tt, all_away list host acts s.1)
all_away list host (Restarts at ∷ acts) s = (tt, all_away list host acts s.1)

-- ---- THE HEADLINE BY `__Host-`, first for a host that sets its `__Host-` cookies alone by sessions

pub host_leads : (b : Bool) (key : List ℕ) (laws : Laws key) (late : (n : ℤ) → IsMoment n → EndsLate n)
    (list : List Rule)
    (host : List ℕ) (acts : List Act) (told : List (List Reading)) (rows : List Row) → IsHostSetter host acts
    → AllFollow the_beginning (moments_of acts) → Plays b list key [] acts told rows
    → (end : Site) × EachReadsByHost host nothing acts told end
    × SiteAgrees begins_host key host rows (last_of the_beginning (moments_of acts)) end
host_leads b key laws late list host acts told rows site follows plays =
    each_leads b begins_host GetByHost told_by key laws late list host acts nothing the_beginning [] told rows
    (reads_back host site.own_form site.no_empty_label) (all_away list host acts site.sessions) follows tt
    (begins begins_host key host) plays

pub setters_read : (key : List ℕ) (laws : Laws key) (late : (n : ℤ) → IsMoment n → EndsLate n)
    → EachPlayIsReadBySetters key
setters_read key laws late b list acts readings follows run = record {
  told = run.told;
  read = run.read;
  own = plays_answer b late list key the_beginning [] run.rows acts run.told follows run.ran;
  sites = λ host site.
      let led = host_leads b key laws late list host acts run.told run.rows site follows run.ran in
      (led.0, led.1);
}

pub setters_read_until : (key : List ℕ) (laws : Laws key) (late : (n : ℤ) → IsMoment n → EndsLate n)
    → EachStoppedPlayIsReadBySetters key
setters_read_until key laws late b list acts step kind readings run =
    let front = front_inside b key run.rows (all_told run.told) readings kind _ run.act run.stops in
    let lines = plays_from b laws.given laws.again list key the_beginning
    [] run.rows run.before run.told run.in_order tt
    run.ran in
    record {
      before = run.before;
      act = run.act;
      after = run.after;
      cut = run.cut;
      at_step = run.at_step;
      told = run.told;
      front = front.0;
      read = front.1;
      own = plays_answer b late list key the_beginning [] run.rows run.before run.told run.in_order run.ran;
      sites = λ host site.
          let led = host_leads b key laws late list host run.before run.told run.rows site run.in_order run.ran in (
            led.0,
            led.1,
            act_stops b begins_host GetByHost told_by key laws late host run.act led.0 run.rows kind _
                (all_told run.told)
                readings (reads_back host site.own_form site.no_empty_label) (line_pairs run.rows lines) led.2
                run.stops,
          );
    }

-- ---- and so for one that answers at https by sessions alone

sets_by_sessions : (host : List ℕ) (acts : List Act) → Each (SecureAnswersBySessions host) acts
    → Each (SetsHostBySessions host) acts
sets_by_sessions host [] s = tt
sets_by_sessions host (Visits url at commands arrival ∷ acts) s = (tt, sets_by_sessions host acts s.1)
sets_by_sessions host (Answers url lines at ∷ acts) s =
    ((λ here. absurd (s.0 here)), sets_by_sessions host acts s.1)
sets_by_sessions host (Asks url at ∷ acts) s = (tt, sets_by_sessions host acts s.1)
sets_by_sessions host (Restarts at ∷ acts) s = (tt, sets_by_sessions host acts s.1)

pub setter : (host : List ℕ) (acts : List Act) → IsHostSite host acts → IsHostSetter host acts
setter host acts site = record {
  own_form = site.own_form;
  no_empty_label = site.no_empty_label;
  sessions = sets_by_sessions host acts site.sessions;
}

as_sites : (acts : List Act) (readings : List Reading) → SettersReadTheirOwn acts readings
    → HostsReadTheirOwn acts readings
as_sites acts readings h = record {
  told = h.told;
  read = h.read;
  own = h.own;
  sites = λ host site. h.sites host (setter host acts site);
}

as_sites_until : (acts : List Act) (step : ℕ) (kind : FaultKind) (readings : List Reading)
    → SettersReadTheirOwnUntil acts step kind readings → HostsReadTheirOwnUntil acts step kind readings
as_sites_until acts step kind readings h = record {
  before = h.before;
  act = h.act;
  after = h.after;
  cut = h.cut;
  at_step = h.at_step;
  told = h.told;
  front = h.front;
  read = h.read;
  own = h.own;
  sites = λ host site. h.sites host (setter host h.before site);
}

pub hosts_read : (key : List ℕ) → EachPlayIsReadBySetters key → EachPlayIsReadByHost key
hosts_read key setters b list acts readings follows run =
    as_sites acts readings (setters b list acts readings follows run)

pub hosts_read_until : (key : List ℕ) → EachStoppedPlayIsReadBySetters key → EachStoppedPlayIsReadByHost key
hosts_read_until key setters b list acts step kind readings run =
    as_sites_until acts step kind readings (setters b list acts step kind readings run)
