-- The headline, over the definitions.
use Rattle.std.proofs.Common.{Bool, ◌≡◌, ◌≢◌, ℕ, ℤ, ◌≤ℤ◌, pos, true, false, cond, All, List, [], ◌∷◌, ◌++◌, sym}
use Rattle.std.proofs.Common.{refl, ap}
use Rattle.std.proofs.Common.{◌∙◌, subst, ⊎_elim, inl, inr, Some, None, arith, append-nil}
use Rattle.std.specs.Prelude.{option_map, ◌==◌, ◌⊎◌, ⊤}
use Rattle.std.proofs.lemmas.Bool.{cases_Bool, cond-false}
use Rattle.jiff.proofs.SpanFacts.{signed_arith}
use Rattle.idna.specs.Labels.{labels_of, is_full_stop}
use Rattle.std.proofs.lemmas.List.Elements.{All-head}
use Rattle.std.proofs.lemmas.List.Splits.{slice_split-cons_yes}
use Rattle.url.specs.Parts.{Parts}
use Rattle.publicsuffix.specs.Rules.{Rule}
use Rattle.store_parts.specs.DomainText.{idna_form, suffix_or_empty}
use Rattle.cookie.specs.Jar.{Jar}
use Rattle.cookie_client.specs.Steps.{Arrival, Arrives, Never, GetTells, Act, Visits, Answers, Asks, Restarts, Delivers}
use Rattle.cookie_client.specs.Steps.{OneStep, RemoveTells, Tells}
use Rattle.cookie_client.specs.Hosts.{secure_host}
use Rattle.cookie_client.specs.Jar.{Keyed, lines_of}
use Rattle.cookie_run.specs.Moments.{IsMoment, AllFollow, last_of, the_beginning}
use Rattle.cookie_run.specs.Readings.{IsAnswer, all_told}
use Rattle.cookie_run.specs.declared.step.FaultKind.{FaultKind}
use Rattle.cookie_client.specs.declared.command.Reading.TheVariants.{Value, Refused}
use Rattle.cookie_client.specs.declared.outcome.SessionError.{SessionError}
use Rattle.cookie_client.specs.declared.outcome.SessionError.TheVariants.{EmptyName, Year}
use Rattle.cookie_client.specs.declared.way.Way.{Way}
use Rattle.cookie_text.specs.Record.{bare, unsliced, without_dot}
use Rattle.cookie_client.specs.declared.command.Reading.{Reading}
use Rattle.cookie_client.proofs.SessionTexts.{is_text, host_is, other_host}
use Rattle.cookie_client.proofs.Texts.{some_is_not_none}
use Rattle.cookie_client.specs.Header.{IsHeader}
use Rattle.cookie_run.specs.Readings.{IsRemovalAnswer, AnswersTo, AnswersAct, AnswersEach}
use Rattle.cookie_run.specs.Stops.{StopsFrom, StopsInside, GoesOnBy}
use Rattle.cookie_run.specs.Laws.{EachPlayIsRead, EachStoppedPlayIsRead}
use Rattle.cookie_store.specs.Rows.{Row}
use Rattle.cookie_run.specs.Acts.{moments_in, moments_of, opening_of, arrival_in}
use Rattle.cookie_client.specs.declared.command.Command.{Command}
use Rattle.cookie_client.specs.declared.command.Command.TheVariants.{Set, Remove, Get}
use Rattle.cookie_run.specs.Site.{Site, View, GetOn, nothing, live_view, restarted}
use Rattle.cookie_run.specs.Headline.{AnswersBySessions, AnswersApart, Each, IsSite, EachReadsOn}
use Rattle.cookie_client.specs.Keeping.{HaveReadPairs}
use Rattle.cookie_run.specs.Play.{Plays, ServesAll, ServesFront, ReadsAll, ReadsFront}
use Rattle.cookie_run.proofs.Kepts.{Kept}
use Rattle.cookie_run.proofs.ActMoments.{end_moment, ends_at, front_follows, ends_last, last_append}
use Rattle.cookie_client.proofs.CountedRows.{Counts}
use Rattle.cookie_run.proofs.OwnRows.{Agrees}
use Rattle.cookie_run.proofs.Lines.{IsTime, IsAway, AreAway, other_lines}
use Rattle.cookie_run.proofs.Commands.{Gets, Told, CommandsIn, EndsLate}
use Rattle.cookie_run.proofs.Exchange.{Laws, SiteAgrees, agrees_later, IsReadBack, IsArrival, ExchangeIn, exchanged}
use Rattle.cookie_run.proofs.Exchange.{walked}
use Rattle.cookie_run.proofs.FromLines.{AreFromLines, line_pairs, step_from, plays_from}
use Rattle.cookie_run.proofs.Restarting.{restarts}

-- ---- a host that is its own form and has no empty label

dotted : (b : ℕ) (bs : List ℕ) → (b == 46) ≡ true → All (λ label. label ≢ []) (labels_of (b ∷ bs)) → ⊥
dotted b bs e labels = All-head (λ label. label ≢ []) [] (labels_of bs)
    (subst (All (λ label. label ≢ [])) (slice_split-cons_yes is_full_stop b bs e) labels) refl

pub reads_back : (host : List ℕ) → idna_form host ≡ Some host → All (λ label. label ≢ []) (labels_of host)
    → IsReadBack host
reads_back [] own labels = absurd (All-head (λ label. label ≢ []) [] [] labels refl)
reads_back (b ∷ bs) own labels =
    ⊎_elim
    (λ (e : (b == 46) ≡ true). absurd (dotted b bs e labels))
    (λ (e : (b == 46) ≡ false). ap (option_map (λ form. suffix_or_empty (without_dot form))) own
    ∙ ap (λ x. Some (suffix_or_empty x)) (cond-false _ _ _ e))
    (cases_Bool (b == 46))

-- ---- the moments

time_of : (n : ℤ) → IsMoment n → IsTime n
time_of n m = record {
  whole = (pos m.second, omega (arith, signed_arith, m.whole));
  after = omega
      (arith, signed_arith, m.whole);
}

arrives : (now : ℤ) (arrival : Arrival) → AllFollow now (Rattle.cookie_run.specs.Acts.arrival_moments arrival)
    → IsArrival now arrival
arrives now (Arrives at) f = (time_of at f.0.is_moment, f.0.in_order)
arrives now Never f = tt

late_arrival : (now : ℤ) (arrival : Arrival) → AllFollow now (Rattle.cookie_run.specs.Acts.arrival_moments arrival)
    → now ≤ℤ end_moment now arrival
late_arrival now (Arrives at) f = f.0.in_order
late_arrival now Never f = omega (arith, signed_arith)

-- ---- what comes from elsewhere

-- the host is away from the URL of an answer that comes, but for its sessions at https
abbrev pub AnswersAway : Counts → List Rule → List ℕ → Act → Type 0
AnswersAway counts list host (Visits url at commands (Arrives later)) =
    secure_host url ≢ Some host → IsAway counts list host url
AnswersAway counts list host (Visits url at commands Never) = ⊤
AnswersAway counts list host (Answers url lines at) = AreAway counts list host url lines
AnswersAway counts list host (Asks url at) = ⊤
AnswersAway counts list host (Restarts at) = ⊤

delivered_other : (counts : Counts) (list : List Rule) (host : List ℕ) (rows : List Row) (url : Parts) (now : ℤ)
    (cs : List Command)
    (jar : Jar) (arrival : Arrival) (new : List Row) (ks : List Kept) → secure_host url ≢ Some host
    → AnswersAway counts list host (Visits url now cs arrival)
    → Agrees counts host rows ks → Delivers list rows url jar arrival new → Agrees counts host new ks
delivered_other counts list host rows url now cs jar Never new ks other away a d =
    subst (λ rs. Agrees counts host rs ks) (sym d) a
delivered_other counts list host rows url now cs jar (Arrives at) new ks other away a d = other_lines counts list
    host url at (lines_of d.0) rows ks d.2.0 new (inl (away other)) a d.2.1

with_rows : (counts : Counts) (key host : List ℕ) (rows new : List Row) (now : ℤ) (site : Site)
    (a : SiteAgrees counts key host rows now site)
    → Agrees counts host new a.cookies → SiteAgrees counts key host new now site
with_rows counts key host rows new now site a agrees = record { cookies = a.cookies; agrees = agrees; each = a.each }

-- ---- one act

-- what an act reads on a site, and the site that it leaves
abbrev pub ReadsIn : Gets → List ℕ → Site → Act → List Reading → Site → Type 0
ReadsIn Read host site (Visits url at commands arrival) told new =
    (secure_host url ≡ Some host → ExchangeIn Read site at commands arrival told new)
    × (secure_host url ≢ Some host → new ≡ site)
ReadsIn Read host site (Answers url lines at) told new = new ≡ site
ReadsIn Read host site (Asks url at) told new = new ≡ site
ReadsIn Read host site (Restarts at) told new = new ≡ restarted site at

abbrev pub Leads : Counts → Gets → List ℕ → List ℕ → Site → Act → List Reading → List Row → Type 0
Leads counts Read key host site act told new = (after : Site) × ReadsIn Read host site act told after
    × SiteAgrees counts key host new (ends_at act) after

act_leads : (b : Bool) (counts : Counts) (Read : Gets) → Told counts Read → (key : List ℕ) (laws : Laws key)
    (late : (n : ℤ) → IsMoment n → EndsLate n) (list : List Rule) (host : List ℕ) (act : Act) (site : Site) (last : ℤ)
    (rows new : List Row) (told : List Reading) → IsReadBack host
    → AnswersAway counts list host act → AllFollow last (moments_in act) → HaveReadPairs rows
    → SiteAgrees counts key host rows last site → OneStep b list key rows act told new
    → Leads counts Read key host site act told new
act_leads b counts Read tell key laws late list host (Visits url at commands arrival) site last rows new told reads
    away follows pairs a p =
    let now = agrees_later counts key host rows last at site follows.0.in_order a in
    ⊎_elim
    (λ (e : is_text host (secure_host url) ≡ true).
    let here = host_is host (secure_host url) e in
    let x = exchanged counts Read tell key laws list host rows new url at site commands arrival told p.0 p.2.0 here
    reads
    (late at follows.0.is_moment) (arrives at arrival follows.1) now pairs p.1 p.2.1 p.2.2 in
    (x.0, ((λ h. x.1), (λ other. absurd (other here))), x.2))
    (λ (e : is_text host (secure_host url) ≡ false).
    let other = other_host host (secure_host url) e in (
      site,
      ((λ here. absurd (other here)), (λ h. refl)),
      agrees_later counts key host new at (end_moment at arrival) site (late_arrival at arrival follows.1)
          (with_rows counts key host rows new at site now
          (delivered_other counts list host rows url at commands p.2.0.jar
          arrival new now.cookies other away now.agrees p.2.2)),
    ))
    (cases_Bool (is_text host (secure_host url)))
act_leads b counts Read tell key laws late list host (Answers url lines at) site last rows new told reads away
    follows pairs a p =
    let now = agrees_later counts key host rows last at site follows.0.in_order a in (
      site,
      refl,
      with_rows counts key host rows new at site now (other_lines counts list host url at lines rows now.cookies p.1.0
          new away now.agrees p.1.1),
    )
act_leads b counts Read tell key laws late list host (Asks url at) site last rows new told reads away follows pairs
    a p = (
      site,
      refl,
      subst (λ rs. SiteAgrees counts key host rs at site) (sym p.1) (agrees_later counts key host rows last at site
          follows.0.in_order a),
    )
act_leads b counts Read tell key laws late list host (Restarts at) site last rows new told reads away follows pairs
    a p = (
      restarted site at,
      refl,
      restarts counts laws.again key host at rows new site pairs
          (agrees_later counts key host rows last at site follows.0.in_order a) p.1,
    )

-- ---- all acts

-- so does each of the acts, each with its own readings
abbrev pub EachReadsIn : Gets → List ℕ → Site → List Act → List (List Reading) → Site → Type 0
EachReadsIn Read host site [] told end = end ≡ site
EachReadsIn Read host site (act ∷ acts) [] end = ⊥
EachReadsIn Read host site (act ∷ acts) (told ∷ later) end =
    (mid : Site) × ReadsIn Read host site act told mid × EachReadsIn Read host mid acts later end

pub each_leads : (b : Bool) (counts : Counts) (Read : Gets) → Told counts Read → (key : List ℕ) (laws : Laws key)
    (late : (n : ℤ) → IsMoment n → EndsLate n) (list : List Rule) (host : List ℕ) (acts : List Act) (site : Site)
    (last : ℤ) (rows : List Row) (told : List (List Reading)) (new : List Row) → IsReadBack host
    → Each (AnswersAway counts list host) acts
    → AllFollow last (moments_of acts) → AreFromLines rows → SiteAgrees counts key host rows last site
    → Plays b list key rows acts told new
    → (end : Site) × EachReadsIn Read host site acts told end
    × SiteAgrees counts key host new (last_of last (moments_of acts)) end
each_leads b counts Read tell key laws late list host [] site last rows [] new reads away follows lines a p =
    (site, refl, subst (λ rs. SiteAgrees counts key host rs last site) (sym p) a)
each_leads b counts Read tell key laws late list host [] site last rows (told ∷ later) new reads away follows lines
    a p = absurd p
each_leads b counts Read tell key laws late list host (act ∷ acts) site last rows [] new reads away follows lines a
    p = absurd p
each_leads b counts Read tell key laws late list host (act ∷ acts) site last rows (told ∷ later) new reads away
    follows lines a p =
    let moments = front_follows last act (moments_of acts) follows in
    let first = act_leads b counts Read tell key laws late list host act site last rows p.0 told reads away.0
    moments.0 (line_pairs rows lines) a p.1 in
    let rest = each_leads b counts Read tell key laws late list host acts first.0 (ends_at act) p.0 later new reads
    away.1 moments.1
    (step_from b laws.given laws.again list key last rows p.0 act told moments.0 lines p.1) first.2 p.2 in (
      rest.0,
      (first.0, first.1, rest.1),
      subst (λ m. SiteAgrees counts key host new m rest.0) (ap (λ m. last_of m (moments_of acts)) (ends_last last act)
          ∙ sym (last_append last (moments_in act) (moments_of acts))) rest.2,
    )

pub begins : (counts : Counts) (key host : List ℕ) → SiteAgrees counts key host [] the_beginning nothing
begins counts key host = record {
  cookies = [];
  agrees = record { good = tt; own = tt; apart = tt; others = tt };
  each = λ q c. tt;
}

-- ---- which readings are of which act

removal_answer : (old new : Keyed) (at : ℤ) (way : Way) (name : List ℕ) (told : List Reading) → EndsLate at
    → RemoveTells old at way name told new → IsRemovalAnswer name told
removal_answer old new at way [] told late (moment, now, inl t) = absurd
    (some_is_not_none EmptyName (sym t.1.accepted.2))
removal_answer old new at way [] told late (moment, now, inr t) = t.1 ∙ ap (λ e. Refused e ∷ []) (some_error t.2.2)
  where
    some_error : {x y : SessionError} → Some x ≡ Some y → x ≡ y
    some_error e = cc
removal_answer old new at way (b ∷ bs) told late (moment, now, inl t) = t.0
removal_answer old new at way (b ∷ bs) told late (moment, now, inr t) =
    absurd (some_is_not_none t.0 (t.2.2 ∙ ap (λ x. cond x (Some Year) None) (late moment (unsliced (bare (b ∷ bs) []))
    t.2.0 now t.2.1)))

got : (session : Keyed) (way : Way) (n : List ℕ) (told : List Reading) → GetTells session way n told
    → (answer : Reading) × (told ≡ answer ∷ []) × IsAnswer way n answer
got session way [] told t = (Refused EmptyName, t, (refl, refl))
got session way (b ∷ bs) told t = (Value way (b ∷ bs) t.0, t.1, (refl, refl))

answers_to : (old new : Keyed) (at : ℤ) (cs : List Command) (told : List Reading) → EndsLate at
    → Tells old at cs told new → AnswersTo cs told
answers_to old new at [] told late t = t.0
answers_to old new at (Set way cookie ∷ cs) told late t =
    elim (t.3) [
      | inl set ↦ (t.0, t.1, t.5, inl (set.0, set.1.accepted), answers_to t.2 new at cs t.1 late t.4)
      | inr refused ↦ (t.0, t.1, t.5, inr (refused.0, refused.1, refused.2), answers_to t.2 new at cs t.1 late t.4)
    ]
answers_to old new at (Remove way name ∷ cs) told late t = (
  t.0,
  t.1,
  t.5,
  removal_answer old t.2 at way name t.0 late
      t.3,
  answers_to t.2 new at cs t.1 late t.4,
)
answers_to old new at (Get way name ∷ cs) told late t =
    let g = got old way name t.0 t.3.0 in
    (g.0, t.1, t.5 ∙ ap (λ x. x ++ t.1) g.1, g.2, answers_to t.2 new at cs t.1 late t.4)

one_answers : (b : Bool) (list : List Rule) (key : List ℕ) (rows new : List Row) (act : Act) (told : List Reading)
    → EndsLate (opening_of act) → OneStep b list key rows act told new → AnswersAct act told
one_answers b list key rows new (Visits url at commands arrival) told late s = answers_to s.2.1.0 s.2.0 at commands told
    late s.2.1.2
one_answers b list key rows new (Answers url lines at) told late s = s.0
one_answers b list key rows new (Asks url at) told late s = (s.0.0, s.0.2)
one_answers b list key rows new (Restarts at) told late s = s.0

opens_late : (late : (n : ℤ) → IsMoment n → EndsLate n) (last : ℤ) (act : Act) → AllFollow last (moments_in act)
    → EndsLate (opening_of act)
opens_late late last act f = late (opening_of act) f.0.is_moment

pub plays_answer : (b : Bool) (late : (n : ℤ) → IsMoment n → EndsLate n) (list : List Rule) (key : List ℕ) (last : ℤ)
    (rows new : List Row) (acts : List Act) (told : List (List Reading)) → AllFollow last (moments_of acts)
    → Plays b list key rows acts told new → AnswersEach acts told
plays_answer b late list key last rows new [] [] f p = tt
plays_answer b late list key last rows new [] (t ∷ ts) f p = absurd p
plays_answer b late list key last rows new (a ∷ acts) [] f p = absurd p
plays_answer b late list key last rows new (a ∷ acts) (t ∷ ts) f p =
    let moments = front_follows last a (moments_of acts) f in (
      one_answers b list key rows p.0 a t (opens_late late last a moments.0) p.1,
      plays_answer b late list key (ends_at a)
          p.0 new acts ts moments.1 p.2,
    )

-- ---- an act that the play stopped in

-- what is read on a site at the moment by all of the commands, and by the first of them
abbrev pub AllIn : Gets → Site → ℤ → List Command → List Reading → Type 0
AllIn Read site now commands told =
    (noted : List Command) × (after : View) × CommandsIn Read (live_view site now) commands told noted after

abbrev pub FrontIn : Gets → Site → ℤ → List Command → List Reading → Type 0
FrontIn Read site now commands told =
    (front : List Command) × (rest : List Command) × (commands ≡ front ++ rest) × AllIn Read site now front told

-- an exchange of the host at https that the play stopped in read that, as far as it came
abbrev pub StopsIn : Gets → List ℕ → Site → FaultKind → ℤ → Act → List Reading → List Reading → Type 0
StopsIn Read host site kind last (Visits url at commands arrival) old readings =
    secure_host url ≡ Some host → StopsFrom kind last (Visits url at commands arrival) old
    (FrontIn Read site at commands)
    (AllIn Read site at commands) readings
StopsIn Read host site kind last (Answers url lines at) old readings = ⊤
StopsIn Read host site kind last (Asks url at) old readings = ⊤
StopsIn Read host site kind last (Restarts at) old readings = ⊤

all_on : {b : Bool} (counts : Counts) (Read : Gets) → Told counts Read → (key : List ℕ) (laws : Laws key)
    (host : List ℕ)
    (rows : List Row) (url : Parts) (now : ℤ) (site : Site) (cs : List Command) (told : List Reading) (header : List ℕ)
    → secure_host url ≡ Some host → IsReadBack host → EndsLate now → HaveReadPairs rows
    → SiteAgrees counts key host rows now site → IsHeader rows url now header → ServesAll b key header now cs told
    → AllIn Read site now cs told
all_on counts Read tell key laws host rows url now site cs told header secure reads late pairs a is serves =
    let w = walked counts Read tell key laws host rows url now now site cs told serves.0 header a secure reads
    (same now)
    late pairs is serves.1 in
    (w.0, w.1, w.2)
  where
    same : (n : ℤ) → n ≤ℤ n
    same n = omega (arith, signed_arith)

front_on : {b : Bool} (counts : Counts) (Read : Gets) → Told counts Read → (key : List ℕ) (laws : Laws key)
    (host : List ℕ)
    (rows : List Row) (url : Parts) (now : ℤ) (site : Site) (cs : List Command) (told : List Reading)
    → secure_host url ≡ Some host → IsReadBack host → EndsLate now → HaveReadPairs rows
    → SiteAgrees counts key host rows now site
    → ((told ≡ []) ⊎ ((header : List ℕ) × IsHeader rows url now header × ServesFront b key header now cs told))
    → FrontIn Read site now cs told
front_on counts Read tell key laws host rows url now site cs told secure reads late pairs a (inl none) =
    ([], cs, refl, ([], live_view site now, (none, refl, refl)))
front_on counts Read tell key laws host rows url now site cs told secure reads late pairs a
    (inr (header, is, inl none)) =
    ([], cs, refl, ([], live_view site now, (none, refl, refl)))
front_on counts Read tell key laws host rows url now site cs told secure reads late pairs a
    (inr (header, is, inr front)) = (
      front.0,
      front.1,
      front.2,
      all_on counts Read tell key laws host rows url now site front.0 told header secure reads late pairs a is front.3,
    )

goes_on : (old readings : List Reading) (P Q : List Reading → Type 0) → ((told : List Reading) → P told → Q told)
    → GoesOnBy old P readings → GoesOnBy old Q readings
goes_on old readings P Q f g = (g.0, f g.0 g.1, g.2)

inside_on : (kind : FaultKind) (last : ℤ) (arrival : Arrival) (old readings : List Reading)
    (F G A B : List Reading → Type 0) → ((told : List Reading) → F told → G told)
    → ((told : List Reading) → A told → B told)
    → StopsInside kind last arrival old F A readings → StopsInside kind last arrival old G B readings
inside_on kind last arrival old readings F G A B f g (inl memory) = inl (memory.0, goes_on old readings F G f memory.1)
inside_on kind last arrival old readings F G A B f g (inr moment) = inr (moment.0, goes_on old readings A B g moment.1)

pub act_stops : (b : Bool) (counts : Counts) (Read : Gets) → Told counts Read → (key : List ℕ) (laws : Laws key)
    (late : (n : ℤ) → IsMoment n → EndsLate n) (host : List ℕ) (act : Act) (site : Site) (rows : List Row)
    (kind : FaultKind) (last : ℤ) (old readings : List Reading) → IsReadBack host → HaveReadPairs rows
    → SiteAgrees counts key host rows last site → StopsFrom kind last act old (ReadsFront b key rows act)
    (ReadsAll b key rows act) readings → StopsIn Read host site kind last act old readings
act_stops b counts Read tell key laws late host (Visits url at commands arrival) site rows kind last old readings reads
    pairs a (inl opening) = λ here. inl opening
act_stops b counts Read tell key laws late host (Visits url at commands arrival) site rows kind last old readings reads
    pairs a (inr past) =
    λ here.
    let now = agrees_later counts key host rows last at site past.0.in_order a in
    inr (
      past.0,
      inside_on kind at arrival old readings _ _ _ _
          (λ told front. front_on counts Read tell key laws host rows url at site commands told here reads
          (late at past.0.is_moment) pairs now front)
          (λ told all. all_on counts Read tell key laws host rows url at site commands told all.0 here reads
          (late at past.0.is_moment) pairs now all.1 all.2) past.1,
    )
act_stops b counts Read tell key laws late host (Answers url lines at) site rows kind last old readings reads pairs a
    s = tt
act_stops b counts Read tell key laws late host (Asks url at) site rows kind last old readings reads pairs a s = tt
act_stops b counts Read tell key laws late host (Restarts at) site rows kind last old readings reads pairs a s = tt

pub front_inside : (b : Bool) (key : List ℕ) (rows : List Row) (old readings : List Reading) (kind : FaultKind)
    (last : ℤ)
    (act : Act)
    → StopsFrom kind last act old (ReadsFront b key rows act) (ReadsAll b key rows act) readings
    → (front : List Reading)
    × (readings ≡ old ++ front)
front_inside b key rows old readings kind last act stops =
    elim stops [
      | inl opening ↦ ([], opening.1 ∙ sym (append-nil old))
      | inr past ↦ elim (past.1) [
        | inl memory ↦ (memory.1.0, memory.1.2)
        | inr delivery ↦ (delivery.1.0, delivery.1.2)
      ]
    ]

-- ---- THE HEADLINE, where all names count

abbrev pub every : Counts
every name = true

pub told_on : Told every GetOn
told_on seen way name told h = h.0 refl

apart_away : (list : List Rule) (host : List ℕ) (acts : List Act) → Each (AnswersBySessions host) acts
    → Each (AnswersApart list host) acts → Each (AnswersAway every list host) acts
apart_away list host [] s h = tt
apart_away list host (Visits url at commands (Arrives later) ∷ acts) s h =
    ((λ other. inl ((λ here. other (s.0 here)), h.0)), apart_away list host acts s.1 h.1)
apart_away list host (Visits url at commands Never ∷ acts) s h = (tt, apart_away list host acts s.1 h.1)
apart_away list host (Answers url lines at ∷ acts) s h = (inl (inl (s.0, h.0)), apart_away list host acts s.1 h.1)
apart_away list host (Asks url at ∷ acts) s h = (tt, apart_away list host acts s.1 h.1)
apart_away list host (Restarts at ∷ acts) s h = (tt, apart_away list host acts s.1 h.1)

pub site_leads : (b : Bool) (key : List ℕ) (laws : Laws key) (late : (n : ℤ) → IsMoment n → EndsLate n)
    (list : List Rule)
    (host : List ℕ) (acts : List Act) (told : List (List Reading)) (rows : List Row) → IsSite list host acts
    → AllFollow the_beginning (moments_of acts) → Plays b list key [] acts told rows
    → (end : Site) × EachReadsOn host nothing acts told end
    × SiteAgrees every key host rows (last_of the_beginning (moments_of acts)) end
site_leads b key laws late list host acts told rows site follows plays =
    each_leads b every GetOn told_on key laws late list host acts nothing the_beginning [] told rows
    (reads_back host site.own_form site.no_empty_label) (apart_away list host acts site.sessions site.apart) follows tt
    (begins every key host) plays

pub sites_read : (key : List ℕ) (laws : Laws key) (late : (n : ℤ) → IsMoment n → EndsLate n) → EachPlayIsRead key
sites_read key laws late b list acts readings follows run = record {
  told = run.told;
  read = run.read;
  own = plays_answer b late list key the_beginning [] run.rows acts run.told follows run.ran;
  sites = λ host site.
      let led = site_leads b key laws late list host acts run.told run.rows site follows run.ran in
      (led.0, led.1);
}

pub sites_read_until : (key : List ℕ) (laws : Laws key) (late : (n : ℤ) → IsMoment n → EndsLate n)
    → EachStoppedPlayIsRead key
sites_read_until key laws late b list acts step kind readings run =
    let front = front_inside b key run.rows (all_told run.told) readings kind _ run.act run.stops in
    let lines = plays_from b laws.given laws.again list key the_beginning
    [] run.rows run.before run.told run.in_order tt
    run.ran in
    record {
      before = run.before;
      act = run.act;
      after = run.after;
      cut = run.cut;
      at_step = run.at_step;
      told = run.told;
      front = front.0;
      read = front.1;
      own = plays_answer b late list key the_beginning [] run.rows run.before run.told run.in_order run.ran;
      sites = λ host site.
          let led = site_leads b key laws late list host run.before run.told run.rows site run.in_order run.ran in (
            led.0,
            led.1,
            act_stops b every GetOn told_on key laws late host run.act led.0 run.rows kind _
                (all_told run.told) readings
                (reads_back host site.own_form site.no_empty_label) (line_pairs run.rows lines) led.2 run.stops,
          );
    }
