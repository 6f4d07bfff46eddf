-- The headline on a ring, over the definitions: by the headline of plain acts that leave what those on the ring leave.
use Rattle.std.proofs.Common.{Bool, ◌≡◌, ◌∙◌, ℕ, ℤ, ◌≤ℤ◌, List, [], ◌∷◌, ◌++◌, length, Some, refl, ap, sym, subst}
use Rattle.std.proofs.Common.{arith}
use Rattle.std.proofs.Common.{⊎_elim, true, false, Option}
use Rattle.std.proofs.lemmas.Bool.{cases_Bool}
use Rattle.std.specs.Prelude.{⊤}
use Rattle.std.specs.List.{AllByRecursion}
use Rattle.jiff.proofs.SpanFacts.{signed_arith}
use Rattle.jiff.specs.Types.{DateTime}
use Rattle.jiff.specs.Words.{civil_nanos}
use Rattle.url.specs.Parts.{Parts}
use Rattle.cookie.specs.KeyRing.{Ring, rotated}
use Rattle.publicsuffix.specs.Rules.{Rule}
use Rattle.cookie_store.specs.Rows.{Row}
use Rattle.cookie_client.specs.Steps as acts
use Rattle.cookie_client.specs.Steps.{Act, Arrival, Arrives, Never, Serves}
use Rattle.cookie_run.specs.Acts.{arrival_moments, moments_of}
use Rattle.cookie_run.specs.Headline.{AnswersApart, AnswersBySessions, Each, IsSite}
use Rattle.cookie_run.specs.HostHeadline.{GetByHost, HasHostPrefix}
use Rattle.cookie_run.specs.HostLines.{IsHostSetter, SetsHostBySessions}
use Rattle.cookie_client.specs.Hosts.{secure_host}
use Rattle.cookie_run.specs.Moments.{AllFollow, IsMoment, the_beginning}
use Rattle.cookie_run.specs.Play.{Plays}
use Rattle.cookie_run.specs.RingHeadline.{AreFit, EachRingPlayIsRead, EachRingPlayIsReadByHost, EachRingReadsOn}
use Rattle.cookie_run.specs.RingHeadline.{EachRingPlayIsReadBySetters}
use Rattle.cookie_run.specs.RingHeadline.{HasText, every_name, without_commands}
use Rattle.cookie_run.specs.Readings.{IsAnswer}
use Rattle.cookie_run.specs.RingPlay as ring
use Rattle.cookie_run.specs.RingPlay.{RingAct, RingCommand, RingPlays, RingReading, RingTells, ring_moments_of}
use Rattle.cookie_client.specs.RingSession.{IsOpenedOnBy, Ringed, keyed}
use Rattle.cookie_run.specs.RingSite.{Change, RingExchangeOn, RingSite, no_entry, ring_after_arrival, ring_restarted}
use Rattle.cookie_run.specs.Site.{GetOn, IsReadAt, Site, after_arrival, nothing, restarted}
use Rattle.cookie_client.specs.Ways.{Plain}
use Rattle.cookie_client.specs.declared.command.Command.{Command}
use Rattle.cookie_client.specs.declared.command.Reading.{Reading}
use Rattle.cookie_client.specs.declared.command.Reading.TheVariants.{Header, Refused, Value}
use Rattle.cookie_client.specs.declared.way.Way.TheVariants as ways
use Rattle.cookie_run.proofs.Commands.{EndsLate, Gets}
use Rattle.cookie_run.proofs.Exchange.{ExchangeIn, Laws}
use Rattle.cookie_run.proofs.HostSites.{host_leads, setter}
use Rattle.cookie_run.proofs.RingAlike.{AlikeSites, LeaveAlike, TellsPlain, alike_restarted, alike_views}
use Rattle.cookie_run.proofs.RingMirrors.{AllDo, RingLaws, all_mirror}
use Rattle.cookie_run.proofs.RingPlainLemmas.{rekey, rekeyed_all, rekeyed_opening}
use Rattle.cookie_run.proofs.RingTexts.{opened_named}
use Rattle.cookie_client.proofs.SessionTexts.{other_host, is_text, host_is}
use Rattle.cookie_run.proofs.Sites.{EachReadsIn, site_leads}

-- ---- the moments

-- each exchange opens late enough for its removals
abbrev pub OpenLate : List RingAct → Type 0
OpenLate [] = ⊤
OpenLate (ring.Visits url at commands arrival ∷ later) = EndsLate (civil_nanos at) × OpenLate later
OpenLate (ring.Answers url lines at ∷ later) = OpenLate later
OpenLate (ring.Asks url at ∷ later) = OpenLate later
OpenLate (ring.Restarts at ∷ later) = OpenLate later
OpenLate (ring.Rotates key at keep ∷ later) = OpenLate later

past_arrival : (arrival : Arrival) (last : ℤ) (ms : List ℤ) → AllFollow last (arrival_moments arrival ++ ms)
    → (next : ℤ) × AllFollow next ms
past_arrival (Arrives at) last ms f = (at, f.1)
past_arrival Never last ms f = (last, f)

open_late : ((n : ℤ) → IsMoment n → EndsLate n) → (steps : List RingAct) (last : ℤ)
    → AllFollow last (ring_moments_of steps) → OpenLate steps
open_late late [] last f = tt
open_late late (ring.Visits url at commands arrival ∷ later) last f =
    let rest = past_arrival arrival (civil_nanos at) (ring_moments_of later) f.1 in
    (late (civil_nanos at) f.0.is_moment, open_late late later rest.0 rest.1)
open_late late (ring.Answers url lines at ∷ later) last f = open_late late later at f.1
open_late late (ring.Asks url at ∷ later) last f = open_late late later at f.1
open_late late (ring.Restarts at ∷ later) last f = open_late late later at f.1
open_late late (ring.Rotates key at keep ∷ later) last f = open_late late later (civil_nanos at) f.1

-- what follows a moment follows an earlier one
follow_earlier : (a b : ℤ) (ms : List ℤ) → a ≤ℤ b → AllFollow b ms → AllFollow a ms
follow_earlier a b [] le f = tt
follow_earlier a b (m ∷ ms) le f =
    let after = f.0.in_order in
    (record { is_moment = f.0.is_moment; in_order = omega (arith, signed_arith, le, after) }, f.1)

-- moments that go on so behind any moment
abbrev Follow : List ℤ → List ℤ → Type 0
Follow ms ns = (last : ℤ) → AllFollow last ms → AllFollow last ns

follow_arrival : (arrival : Arrival) (ms ns : List ℤ) → Follow ms ns
    → Follow (arrival_moments arrival ++ ms) (arrival_moments arrival ++ ns)
follow_arrival (Arrives at) ms ns go last f = (f.0, go at f.1)
follow_arrival Never ms ns go last f = go last f

-- ---- the premises

sessions_same : (host : List ℕ) (url : Parts) (at : ℤ) (cs ds : List Command) (arrival : Arrival)
    → AnswersBySessions host (acts.Visits url at cs arrival) → AnswersBySessions host (acts.Visits url at ds arrival)
sessions_same host url at cs ds (Arrives later) h = h
sessions_same host url at cs ds Never h = tt

apart_same : (list : List Rule) (host : List ℕ) (url : Parts) (at : ℤ) (cs ds : List Command) (arrival : Arrival)
    → AnswersApart list host (acts.Visits url at cs arrival) → AnswersApart list host (acts.Visits url at ds arrival)
apart_same list host url at cs ds (Arrives later) h = h
apart_same list host url at cs ds Never h = tt

-- where each act of a play on a ring is so, each of the plain acts is
abbrev KeepsPremises : List Rule → List Act → List Act → Type 0
KeepsPremises list bare plain = (host : List ℕ)
    → (Each (AnswersBySessions host) bare → Each (AnswersBySessions host) plain)
    × ((Each (AnswersApart list host) bare → Each (AnswersApart list host) plain)
    × (Each (SetsHostBySessions host) bare → Each (SetsHostBySessions host) plain))

-- ---- one exchange

left_alike : (arrival : Arrival) (held : Site) (ringed : RingSite) (noted : List Command) (changes : List Change)
    → AlikeSites held ringed → LeaveAlike noted changes
    → AlikeSites (after_arrival arrival held noted) (ring_after_arrival arrival ringed changes)
left_alike (Arrives at) held ringed noted changes a leaves = leaves at held ringed a
left_alike Never held ringed noted changes a leaves = a

exchange_alike : (Counts : List ℕ → Type 0) (Read : Gets) (r : Ring) (now : DateTime) (commands : List RingCommand)
    (told : List RingReading) (cs : List Command) (read : List Reading) (arrival : Arrival) (held new : Site)
    (ringed : RingSite) → AllDo Counts Read r now commands told cs read → AlikeSites held ringed
    → ExchangeIn Read held (civil_nanos now) cs arrival read new
    → (after : RingSite) × RingExchangeOn Counts r ringed now commands arrival told after × AlikeSites new after
exchange_alike Counts Read r now commands told cs read arrival held new ringed doing a h =
    let views = alike_views held ringed (civil_nanos now) a in
    let d = doing _ _ h.0 h.1 views h.2 in
    let after : RingSite = ring_after_arrival arrival ringed d.0 in (
      after,
      (d.0, d.1, d.2, refl),
      subst (λ (s : Site). AlikeSites s after) (sym h.3) (left_alike arrival held ringed h.0 d.0 a d.3),
    )

-- ---- all acts

-- what a site reads on the ring, where the plain acts read this of an alike one
abbrev ReadAlike : (List ℕ → Type 0) → Gets → Ring → List RingAct → List (List RingReading) → List Act
    → List (List Reading) → Type 0
ReadAlike Counts Read r steps told plain read = (host : List ℕ) (held end : Site) (ringed : RingSite)
    → AlikeSites held ringed → EachReadsIn Read host held plain read end
    → (ringed_end : RingSite) × EachRingReadsOn Counts host r ringed steps told ringed_end × AlikeSites end ringed_end

pub record MirrorActs (b : Bool) (Counts : List ℕ → Type 0) (Read : Gets) (key : List ℕ) (list : List Rule) (r : Ring)
    (rows : List Row) (steps : List RingAct) (told : List (List RingReading)) (new : List Row) : Type 0 where
  pub plain : List Act
  pub read : List (List Reading)
  pub plays : Plays b list key rows plain read new
  pub follow : Follow (ring_moments_of steps) (moments_of plain)
  pub premises : KeepsPremises list (without_commands steps) plain
  pub alike : ReadAlike Counts Read r steps told plain read

-- an act that is the same without a ring, and what comes behind
same_act : (Counts : List ℕ → Type 0) (Read : Gets) (host : List ℕ) (r : Ring) (steps : List RingAct)
    (told : List (List RingReading)) (plain : List Act) (read : List (List Reading)) (held mid end : Site)
    (ringed : RingSite) → mid ≡ held → AlikeSites held ringed → ReadAlike Counts Read r steps told plain read
    → EachReadsIn Read host mid plain read end
    → (ringed_end : RingSite) × EachRingReadsOn Counts host r ringed steps told ringed_end × AlikeSites end ringed_end
same_act Counts Read host r steps told plain read held mid end ringed is a later reads =
    later host held end ringed a (subst (λ (s : Site). EachReadsIn Read host s plain read end) is reads)

-- an exchange, and what comes behind
visit_alike : (Counts : List ℕ → Type 0) (Read : Gets) (host : List ℕ) (r : Ring) (url : Parts) (at : DateTime)
    (commands : List RingCommand) (arrival : Arrival) (t : List RingReading) (cs : List Command) (p : List Reading)
    (steps : List RingAct) (told : List (List RingReading)) (plain : List Act) (read : List (List Reading))
    (held end : Site) (ringed : RingSite) → AlikeSites held ringed
    → EachReadsIn Read host held (acts.Visits url (civil_nanos at) cs arrival ∷ plain) (p ∷ read) end
    → AllDo Counts Read r at commands t cs p → ReadAlike Counts Read r steps told plain read
    → (ringed_end : RingSite)
    × EachRingReadsOn Counts host r ringed (ring.Visits url at commands arrival ∷ steps) (t ∷ told) ringed_end
    × AlikeSites end ringed_end
visit_alike Counts Read host r url at commands arrival t cs p steps told plain read held end ringed a reads doing
    later =
    ⊎_elim
    (λ (e : is_text host (secure_host url) ≡ true).
    let here : secure_host url ≡ Some host = host_is host (secure_host url) e in
    let x = exchange_alike Counts Read r at commands t cs p arrival held reads.0 ringed doing a (reads.1.0 here) in
    let on = later host reads.0 end x.0 x.2 reads.2 in
    (on.0, (x.0, ((λ h. x.1), (λ h. absurd (h here))), on.1), on.2))
    (λ (e : is_text host (secure_host url) ≡ false).
    let away = other_host host (secure_host url) e in
    let on = same_act Counts Read host r steps told plain read held reads.0 end ringed (reads.1.1 away) a later
    reads.2 in
    (on.0, (ringed, ((λ h. absurd (away h)), (λ h. refl)), on.1), on.2))
    (cases_Bool (is_text host (secure_host url)))

module _ (Counts : List ℕ → Type 0) (Read : Gets) (tell : TellsPlain Counts Read) (laws : RingLaws) (key : List ℕ)
    (list : List Rule) where
  serves : {b : Bool} (header : List ℕ) (r : Ring) (at : DateTime) (commands : List RingCommand)
      (told : List RingReading)
      (opened session : Ringed) → AllByRecursion HasText commands → EndsLate (civil_nanos at)
      → length r.current ≡ 64 → IsOpenedOnBy b r at header opened → RingTells opened commands told session
      → (cs : List Command) × (read : List Reading)
      × Serves b key header (civil_nanos at) cs read (rekey key (keyed session))
      × AllDo Counts Read r at commands told cs read
  serves header r at commands told opened session text late long is tells =
      let m = all_mirror Counts Read tell laws opened session commands told text
      (subst (λ (d : DateTime). EndsLate (civil_nanos d)) (sym is.moment_is) late)
      (ap (λ (q : Ring). length q.current) is.ring_is ∙ long)
      (opened_named r.current header (keyed opened) is.opened) tells in
      let same = subst (λ (d : DateTime). Rattle.cookie_client.specs.Steps.Tells (keyed opened) (civil_nanos d) m.plain
      m.read (keyed session)) is.moment_is m.tells in
      let doing = subst (λ (q : Ring). AllDo Counts Read q at commands told m.plain m.read) is.ring_is
      (subst (λ (d : DateTime). AllDo Counts Read opened.ring d commands told m.plain m.read) is.moment_is m.does) in (
        m.plain,
        m.read,
        (
          rekey key (keyed opened),
          rekeyed_opening key r.current header (keyed opened) is.opened,
          rekeyed_all key (keyed opened) (keyed session) (civil_nanos at) m.plain m.read m.are_plain same,
        ),
        doing,
      )

  pub acts_mirror : (b : Bool) (r : Ring) (rows : List Row) (steps : List RingAct) (told : List (List RingReading))
      (left : Ring)
      (new : List Row) → length r.current ≡ 64 → AreFit steps → OpenLate steps
      → RingPlays b list r rows steps told left new
      → MirrorActs b Counts Read key list r rows steps told new
  acts_mirror b r rows [] [] left new long fit late h = record {
    plain = [];
    read = [];
    plays = h.1;
    follow = λ last f. f;
    premises = λ host. ((λ e. e), ((λ e. e), (λ e. e)));
    alike = λ host held end ringed a reads.
        (ringed, refl, subst (λ (s : Site). AlikeSites s ringed) (sym reads) a);
  }
  acts_mirror b r rows [] (t ∷ ts) left new long fit late h = absurd h
  acts_mirror b r rows (a ∷ rest) [] left new long fit late h = absurd h
  acts_mirror b r rows (ring.Visits url at cs arrival ∷ rest) (t ∷ ts) left new long fit late h =
      let step = h.2 in
      let s = serves step.0 r at cs t step.2.0 step.2.2.0 fit.0 late.0 long step.2.1 step.2.2.1 in
      let later = acts_mirror b r h.1 rest ts left new long fit.1 late.1
      (subst (λ (q : Ring). RingPlays b list q h.1 rest ts left new) step.3 h.3) in
      record {
        plain = acts.Visits url (civil_nanos at) s.0 arrival ∷ later.plain;
        read = s.1 ∷ later.read;
        plays = (h.1, (step.0, step.1, (rekey key (keyed step.2.2.0), s.2, step.2.2.2)), later.plays);
        follow = λ last f. (
          f.0,
          follow_arrival arrival (ring_moments_of rest) (moments_of later.plain) later.follow
              (civil_nanos at) f.1,
        );
        premises = λ host. (
          (λ e. (sessions_same host url (civil_nanos at) [] s.0 arrival e.0, (later.premises host).0 e.1)),
          (
            (λ e. (apart_same list host url (civil_nanos at) [] s.0 arrival e.0, (later.premises host).1.0 e.1)),
            (λ e. (tt, (later.premises host).1.1 e.1)),
          ),
        );
        alike = λ host held end ringed a reads.
            visit_alike Counts Read host r url at cs arrival t s.0 s.1 rest ts later.plain later.read held end ringed
            a reads s.3
            later.alike;
      }
  acts_mirror b r rows (ring.Answers url lines at ∷ rest) (t ∷ ts) left new long fit late h =
      let later = acts_mirror b r h.1 rest ts left new long fit late
      (subst (λ (q : Ring). RingPlays b list q h.1 rest ts left new) h.2.2 h.3) in
      record {
        plain = acts.Answers url lines at ∷ later.plain;
        read = [] ∷ later.read;
        plays = (h.1, (refl, h.2.1), later.plays);
        follow = λ last f. (f.0, later.follow at f.1);
        premises = λ host. (
          (λ e. (e.0, (later.premises host).0 e.1)),
          ((λ e. (e.0, (later.premises host).1.0 e.1)), (λ e. (e.0, (later.premises host).1.1 e.1))),
        );
        alike = λ host held end ringed a reads.
            let on = same_act Counts Read host r rest ts later.plain later.read held reads.0 end ringed reads.1 a
            later.alike
            reads.2 in
            (on.0, (ringed, refl, on.1), on.2);
      }
  acts_mirror b r rows (ring.Asks url at ∷ rest) (t ∷ ts) left new long fit late h =
      let later = acts_mirror b r h.1 rest ts left new long fit late
      (subst (λ (q : Ring). RingPlays b list q h.1 rest ts left new) h.2.2 h.3) in
      record {
        plain = acts.Asks url at ∷ later.plain;
        read = (Header h.2.0.0 ∷ []) ∷ later.read;
        plays = (h.1, ((h.2.0.0, h.2.0.1, refl), h.2.1), later.plays);
        follow = λ last f. (f.0, later.follow at f.1);
        premises = λ host. (
          (λ e. (e.0, (later.premises host).0 e.1)),
          ((λ e. (e.0, (later.premises host).1.0 e.1)), (λ e. (e.0, (later.premises host).1.1 e.1))),
        );
        alike = λ host held end ringed a reads.
            let on = same_act Counts Read host r rest ts later.plain later.read held reads.0 end ringed reads.1 a
            later.alike
            reads.2 in
            (on.0, (ringed, refl, on.1), on.2);
      }
  acts_mirror b r rows (ring.Restarts at ∷ rest) (t ∷ ts) left new long fit late h =
      let later = acts_mirror b r h.1 rest ts left new long fit late
      (subst (λ (q : Ring). RingPlays b list q h.1 rest ts left new) h.2.2 h.3) in
      record {
        plain = acts.Restarts at ∷ later.plain;
        read = [] ∷ later.read;
        plays = (h.1, (refl, h.2.1), later.plays);
        follow = λ last f. (f.0, later.follow at f.1);
        premises = λ host. (
          (λ e. (e.0, (later.premises host).0 e.1)),
          ((λ e. (e.0, (later.premises host).1.0 e.1)), (λ e. (e.0, (later.premises host).1.1 e.1))),
        );
        alike = λ host held end ringed a reads.
            let on = same_act Counts Read host r rest ts later.plain later.read (restarted held at) reads.0 end
            (ring_restarted ringed at) reads.1 (alike_restarted held ringed at a) later.alike reads.2 in
            (on.0, (ring_restarted ringed at, refl, on.1), on.2);
      }
  acts_mirror b r rows (ring.Rotates k at keep ∷ rest) (t ∷ ts) left new long fit late h =
      let next : Ring = rotated k at keep r in
      let turned = subst (λ (q : Ring). RingPlays b list q h.1 rest ts left new) h.2.2 h.3 in
      let later = acts_mirror b next h.1 rest ts left new fit.0 fit.1 late turned in
      record {
        plain = later.plain;
        read = later.read;
        plays = subst (λ (q : List Row). Plays b list key q later.plain later.read new) h.2.1 later.plays;
        follow = λ last f. follow_earlier last (civil_nanos at) (moments_of later.plain) f.0.in_order
            (later.follow (civil_nanos at) f.1);
        premises = later.premises;
        alike = λ host held end ringed a reads.
            let on = later.alike host held end ringed a reads in
            (on.0, (ringed, refl, on.1), on.2);
      }

-- ---- THE HEADLINES ON A RING

plain_on : TellsPlain every_name GetOn
plain_on view [] told some h = absurd (some refl)
plain_on view (b ∷ bs) told some h = (h.0, h.1, (λ counted. h.2))

abbrev pub EachKey : Type 0
EachKey = (key : List ℕ) → length key ≡ 64 → Laws key

pub ring_sites_read : RingLaws → EachKey → ((n : ℤ) → IsMoment n → EndsLate n) → EachRingPlayIsRead
ring_sites_read laws each late b list r steps told left rows play host site =
    let m = acts_mirror every_name GetOn plain_on laws r.current list b r [] steps told left rows play.is_key play.fit
    (open_late late steps the_beginning play.in_order) play.plays in
    let premises = m.premises host in
    let plain : IsSite list host m.plain =
    record {
      own_form = site.own_form;
      no_empty_label = site.no_empty_label;
      sessions = premises.0 site.sessions;
      apart = premises.1.0 site.apart;
    } in
    let led = site_leads b r.current (each r.current play.is_key) late list host m.plain m.read rows plain
    (m.follow the_beginning play.in_order) m.plays in
    let on = m.alike host nothing led.0 no_entry (λ name. tt) led.1 in
    (on.0, on.1)

plain_by : TellsPlain HasHostPrefix GetByHost
plain_by view [] told some h = absurd (some refl)
plain_by view (b ∷ bs) told some h = answered h.1.0 h.1.1 h.1.2 h.0
  where
    answered : (answer : Reading) → told ≡ answer ∷ [] → IsAnswer ways.Plain (b ∷ bs) answer
        → (HasHostPrefix (b ∷ bs) → GetOn view ways.Plain (b ∷ bs) told)
        → (value : Option (List ℕ)) × (told ≡ Value ways.Plain (b ∷ bs) value ∷ [])
        × (HasHostPrefix (b ∷ bs) → IsReadAt Plain (view (b ∷ bs)) value)
    answered (Value way name value) is for on = (
      value,
      is ∙ (λ i. Value (for.0 i) (for.1 i) value ∷ []),
      (λ counted.
          let g = on counted in
          let same : g.0 ≡ value = told_value name value g.0 (sym is ∙ g.1) in
          subst (λ (v : Option (List ℕ)). IsReadAt Plain (view (b ∷ bs)) v) same g.2),
    )
      where
        told_value : (name : List ℕ) (v w : Option (List ℕ))
            → Value way name v ∷ [] ≡ Value ways.Plain (b ∷ bs) w ∷ [] → w ≡ v
        told_value name v w e = cc e
    answered (Refused error) is for on = let no : ⊥ = cc (for.0) in absurd no
    answered (Header header) is for on = absurd for

pub ring_setters_read : RingLaws → EachKey → ((n : ℤ) → IsMoment n → EndsLate n) → EachRingPlayIsReadBySetters
ring_setters_read laws each late b list r steps told left rows play host site =
    let m = acts_mirror HasHostPrefix GetByHost plain_by laws r.current list b r [] steps told left rows play.is_key
    play.fit (open_late late steps the_beginning play.in_order) play.plays in
    let premises = m.premises host in
    let plain : IsHostSetter host m.plain =
    record {
      own_form = site.own_form;
      no_empty_label = site.no_empty_label;
      sessions = premises.1.1 site.sessions;
    } in
    let led = host_leads b r.current (each r.current play.is_key) late list host m.plain m.read rows plain
    (m.follow the_beginning play.in_order) m.plays in
    let on = m.alike host nothing led.0 no_entry (λ name. tt) led.1 in
    (on.0, on.1)

pub ring_hosts_read : EachRingPlayIsReadBySetters → EachRingPlayIsReadByHost
ring_hosts_read setters b list r steps told left rows play host site =
    setters b list r steps told left rows play host (setter host (without_commands steps) site)
