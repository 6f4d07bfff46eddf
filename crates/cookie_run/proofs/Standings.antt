-- The run of a script goes on by one line.
use Rattle.std.proofs.Common.{◌≡◌, ◌≢◌, ℕ, ℤ, true, false, List, [], ◌∷◌, ◌++◌, Option, Some, None, Result, Ok}
use Rattle.std.proofs.Common.{◌<◌, arith, inl, inr, length, sym, refl, ap, ◌∙◌, subst, append_assoc, append-nil}
use Rattle.std.specs.Prelude.{is_some, is_none, nat_lt, if◌then◌else◌}
use Rattle.std.proofs.lemmas.Bool.Decides.{nat_tests}
use Rattle.std.specs.List.{AllByRecursion}
use Rattle.std.specs.Str.{bytes_eq}
use Rattle.url.specs.Parts.{Parts}
use Rattle.cookie_text.specs.Record.{Seen}
use Rattle.cookie_client.specs.declared.outcome.SessionError.{SessionError}
use Rattle.cookie_client.specs.declared.outcome.SessionError.TheVariants as refusals
use Rattle.cookie.specs.KeyRing.{Ring, kept, rotated}
use Rattle.cookie_client.specs.Jar.{ClosesWith, TakesOut, IsRemovalRefusal}
use Rattle.cookie_run.specs.RingPlay.{Answers, Asks, RingAct, RingCommand, RingGetTells, GetUntilTells, RingReading}
use Rattle.cookie_run.specs.RingPlay.{Restarts, Rotates, Visits, Set, SetUntil, Remove, Get, GetUntil, all_read}
use Rattle.cookie_run.specs.RingPlay.{Read, ReadUntil, Refused, Header}
use Rattle.cookie_client.specs.RingSession.{IsOpenedOn, KeepsRing, ReadsEnding, RingReadsIn, Ringed, keyed}
use Rattle.cookie_run.specs.RingDrawn.{RingCommandDraws, RingPlaysBy, RingSetDraws, RingStepBy, SetUntilDraws}
use Rattle.cookie_client.specs.declared.ending.EndingWay.{EndingWay}
use Rattle.jiff.specs.Types.{DateTime}
use Rattle.jiff.specs.Words.{civil_nanos}
use Rattle.cookie_client.specs.declared.moment.Moment.{Moment}
use Rattle.cookie_client.specs.Accept.{Takes}
use Rattle.cookie_client.specs.Header.{IsHeader}
use Rattle.cookie_client.specs.Keeping.{Keeps}
use Rattle.cookie_client.specs.Steps.{Arrives, Never}
use Rattle.cookie_run.specs.Drawn.{Draw}
use Rattle.cookie_run.specs.ScriptLine as spec
use Rattle.cookie_run.specs.ScriptText.{Now, Closed, Within, Reached, IsAnswered, obeyed, command_refusal}
use Rattle.cookie_run.specs.ScriptText.{most_earlier, unless_many, unless_refused, readings_text, reading_text}
use Rattle.cookie_run.specs.Standing.{Stands}
use Rattle.cookie_store.specs.Rows.{Row}
use Rattle.publicsuffix.specs.Rules.{Rule}
use Rattle.cookie_client.specs.declared.way.Way.{Way}
use Rattle.cookie_run.specs.declared.script.cause.Cause.{Cause}
use Rattle.cookie_run.specs.declared.script.visit.Visit.{Visit}
use Rattle.cookie_run.proofs.DrawnRuns.{draws_nil}
use Rattle.cookie_run.proofs.RingDrawnRuns.{draw_more, steps_more, told_more}
use Rattle.cookie_run.proofs.ScriptEndings.{ending_refusal}

-- ---- what is printed

readings_append : (xs ys : List RingReading) → readings_text (xs ++ ys) ≡ readings_text xs ++ readings_text ys
readings_append [] ys = refl
readings_append (x ∷ xs) ys = ap (λ t. reading_text x ++ t) (readings_append xs ys)
    ∙ sym (append_assoc (reading_text x) (readings_text xs) (readings_text ys))

pub one_reading : (x : RingReading) → readings_text (x ∷ []) ≡ reading_text x
one_reading x = append-nil (reading_text x)

pub answered_append : (xs ys : List RingReading) → AllByRecursion IsAnswered xs → AllByRecursion IsAnswered ys
    → AllByRecursion IsAnswered (xs ++ ys)
answered_append [] ys h g = g
answered_append (x ∷ xs) ys h g = (h.0, answered_append xs ys h.1 g)

-- more readings behind those so far
prints_more : (before more : List RingReading) (output text : List ℕ) → output ≡ readings_text before
    → text ≡ readings_text more → output ++ text ≡ readings_text (before ++ more)
prints_more before more output text e f = (λ i. e i ++ f i) ∙ sym (readings_append before more)

prints_none : (output text : List ℕ) → text ≡ [] → output ++ text ≡ output
prints_none output text e = ap (λ t. output ++ t) e ∙ append-nil output

-- the readings of a step that ended stand with those of the steps
pub ended : (told : List (List RingReading)) (front : List RingReading)
    → all_read (told ++ front ∷ []) ++ [] ≡ all_read told ++ front
ended told front = append-nil (all_read (told ++ front ∷ [])) ∙ told_more told front

-- ---- names that aren't empty

pub named : (n : List ℕ) → n ≢ [] → bytes_eq n [] ≡ false
named [] h = absurd (h refl)
named (b ∷ bs) h = refl

pub unnamed : (n : List ℕ) → n ≡ [] → bytes_eq n [] ≡ true
unnamed [] e = refl
unnamed (b ∷ bs) e = absurd (not_empty b bs e)
  where
    not_empty : (b : ℕ) (bs : List ℕ) → b ∷ bs ≡ [] → ⊥
    not_empty b bs e = cc

true_false : true ≡ false → ⊥
true_false e = cc

get_accepted : (n : List ℕ) → n ≢ [] → (if bytes_eq n [] then Some refusals.EmptyName else None) ≡ None
get_accepted n h = ap (λ t. if t then Some refusals.EmptyName else None) (named n h)

get_tells : (s : Ringed) (way : Way) (n : List ℕ) (read : Option (List ℕ × ℕ)) → n ≢ [] → RingReadsIn s way n read
    → RingGetTells s way n (Read way n read ∷ [])
get_tells s way [] read h reads = absurd (h refl)
get_tells s way (b ∷ bs) read h reads = (read, refl, reads)

until_get_tells : (s : Ringed) (way : EndingWay) (n : List ℕ) (read : Option (List ℕ × ℕ)) → n ≢ []
    → ReadsEnding s way n read → GetUntilTells s way n (ReadUntil way n read ∷ [])
until_get_tells s way [] read h reads = absurd (h refl)
until_get_tells s way (b ∷ bs) read h reads = (read, refl, reads)

-- ---- the lines

-- where a line leads, and that the run stands there
abbrev pub LeadsOn : List Draw → List Rule → Ring → List Row → Result Reached Cause → Ring → List Row → ℤ
    → Option Visit → List ℕ → Type 0
LeadsOn drawn list first start led ring rows last visit output = (next : Reached) × (led ≡ Ok next)
    × Stands drawn list first start next ring rows last visit output

abbrev pub reached : List RingAct → Ring → ℤ → Now → Reached
reached acts ring last now = record { acts = acts; ring = ring; now = now; last = last }

-- `open`
begin_at : (drawn : List Draw) (list : List Rule) (first : Ring) (start : List Row) (ring : Ring) (rows : List Row)
    (acts : List RingAct) (turned : Ring) (m : ℤ) (now : Now) (last : ℤ) (visit : Option Visit) (output text : List ℕ)
    (url : Parts) (at : Moment) (new_last : ℤ) (header : List ℕ) (session : Ringed)
    → Stands drawn list first start (reached acts turned m now) ring rows last visit output
    → is_some visit ≡ false → IsHeader rows url (civil_nanos at.date) header
    → IsOpenedOn ring at.date header session → text ≡ [] → new_last ≡ civil_nanos at.date
    → LeadsOn (drawn ++ []) list first start (obeyed acts turned m now (spec.Opens url at.date)) ring rows new_last
    (Some (record { url = url; at = at; session = session })) (output ++ text)
begin_at drawn list first start ring rows acts turned m Closed last None output text url at new_last header session s
    none head opened empty moment = (
      reached acts turned (civil_nanos at.date) (Within url at.date []),
      refl,
      record {
        told = s.told;
        front = s.front;
        done = s.done;
        here = s.here;
        draws = draws_nil drawn ∙ s.draws;
        plays = s.plays;
        is_open = (
          refl,
          refl,
          opened.moment_is,
          (header, head, (session, opened, (s.is_open.0, refl, s.is_open.1))),
        );
        answered = s.answered;
        prints = prints_none output text empty ∙ s.prints;
        turned = s.turned;
        moment = moment;
      },
    )
begin_at drawn list first start ring rows acts turned m Closed last (Some v) output text url at new_last header session
    s none head opened empty moment = absurd s.is_open
begin_at drawn list first start ring rows acts turned m (Within u a cs) last None output text url at new_last header
    session s none head opened empty moment = absurd s.is_open
begin_at drawn list first start ring rows acts turned m (Within u a cs) last (Some v) output text url at new_last
    header session s none head opened empty moment = absurd (true_false none)

pub begins : (drawn : List Draw) (list : List Rule) (first : Ring) (start : List Row) (ring : Ring) (rows : List Row)
    (r : Reached) (last : ℤ) (visit : Option Visit) (output text : List ℕ) (url : Parts) (at : Moment) (new_last : ℤ)
    (header : List ℕ) (session : Ringed) → Stands drawn list first start r ring rows last visit output
    → is_some visit ≡ false → IsHeader rows url (civil_nanos at.date) header
    → IsOpenedOn ring at.date header session → text ≡ [] → new_last ≡ civil_nanos at.date
    → LeadsOn (drawn ++ []) list first start (obeyed r.acts r.ring r.last r.now (spec.Opens url at.date)) ring rows
    new_last (Some (record { url = url; at = at; session = session })) (output ++ text)
begins drawn list first start ring rows r last visit output text url at new_last header session s none head opened
    empty moment =
    begin_at drawn list first start ring rows r.acts r.ring r.last r.now last visit output text url at new_last header
    session s none head opened empty moment

-- a command: the session is the one after it, its readings are printed, and its draws are behind the others
command_at : (drawn more : List Draw) (list : List Rule) (first : Ring) (start : List Row) (ring : Ring)
    (rows : List Row) (acts : List RingAct) (turned : Ring) (m : ℤ) (now : Now) (last : ℤ) (v w : Visit)
    (t : List RingReading) (output text : List ℕ) (command : RingCommand)
    → Stands drawn list first start (reached acts turned m now) ring rows last (Some v) output
    → command_refusal command ≡ None → w.url ≡ v.url → w.at ≡ v.at → w.session.moment ≡ v.session.moment
    → (v.session.moment ≡ v.at.date → RingCommandDraws more v.session command t w.session)
    → AllByRecursion IsAnswered t → text ≡ readings_text t
    → LeadsOn (drawn ++ more) list first start (obeyed acts turned m now (spec.Commands command)) ring rows last
    (Some w) (output ++ text)
command_at drawn more list first start ring rows acts turned m Closed last v w t output text command s accepted
    same_url same_at same_moment tells good shown = absurd s.is_open
command_at drawn more list first start ring rows acts turned m (Within url at cs) last v w t output text command s
    accepted same_url same_at same_moment tells good shown =
    let next : Reached = reached acts turned m (Within url at (cs ++ command ∷ [])) in
    let behind = append_assoc (all_read s.told) s.front t in
    let o = s.is_open in (
      next,
      ap (λ o. unless_refused o next) accepted,
      record {
        told = s.told;
        front = s.front ++ t;
        done = s.done;
        here = s.here ++ more;
        draws = ap (λ ds. ds ++ more) s.draws ∙ append_assoc s.done s.here more;
        plays = s.plays;
        is_open = (
          same_url ∙ o.0,
          ap (λ (x : Moment). x.date) same_at ∙ o.1,
          same_moment ∙ o.2,
          (
            o.3.0,
            o.3.1,
            (
              o.3.2.0,
              o.3.2.1,
              draw_more s.here more o.3.2.0 v.session w.session cs command s.front t o.3.2.2 (tells (o.2 ∙ sym o.1)),
            ),
          ),
        );
        answered = subst (AllByRecursion IsAnswered) behind
            (answered_append (all_read s.told ++ s.front) t s.answered good);
        prints = prints_more (all_read s.told ++ s.front) t output text s.prints shown ∙ ap readings_text behind;
        turned = s.turned;
        moment = s.moment;
      },
    )

pub commands : (drawn more : List Draw) (list : List Rule) (first : Ring) (start : List Row) (ring : Ring)
    (rows : List Row) (r : Reached) (last : ℤ) (visit : Option Visit) (v w : Visit) (t : List RingReading)
    (output text : List ℕ) (command : RingCommand) → Stands drawn list first start r ring rows last visit output
    → visit ≡ Some v → command_refusal command ≡ None → w.url ≡ v.url → w.at ≡ v.at
    → w.session.moment ≡ v.session.moment
    → (v.session.moment ≡ v.at.date → RingCommandDraws more v.session command t w.session)
    → AllByRecursion IsAnswered t → text ≡ readings_text t
    → LeadsOn (drawn ++ more) list first start (obeyed r.acts r.ring r.last r.now (spec.Commands command)) ring rows
    last (Some w) (output ++ text)
commands drawn more list first start ring rows r last visit v w t output text command s is accepted same_url same_at
    same_moment tells good shown =
    command_at drawn more list first start ring rows r.acts r.ring r.last r.now last v w t output text command
    (subst (λ o. Stands drawn list first start r ring rows last o output) is s) accepted same_url same_at same_moment
    tells good shown

-- nothing is read of an accepted set
no_reading : (error : SessionError) → [] ≡ Refused error ∷ [] → ⊥
no_reading error e = cc

-- a set that reads nothing is an accepted one
set_accepted : (more : List Draw) (old new : Ringed) (way : Way) (c : Seen) → RingSetDraws more old way c [] new
    → (command_refusal (Set way c) ≡ None) × KeepsRing old new
set_accepted more old new way c (inl h) = (h.1.accepted, h.2)
set_accepted more old new way c (inr h) = absurd (no_reading h.0 h.1)

pub sets : (drawn more : List Draw) (list : List Rule) (first : Ring) (start : List Row) (ring : Ring)
    (rows : List Row) (r : Reached) (last : ℤ) (visit : Option Visit) (v w : Visit) (output text : List ℕ) (way : Way)
    (c : Seen) → Stands drawn list first start r ring rows last visit output
    → visit ≡ Some v → w.url ≡ v.url → w.at ≡ v.at → RingSetDraws more v.session way c [] w.session → text ≡ []
    → LeadsOn (drawn ++ more) list first start (obeyed r.acts r.ring r.last r.now (spec.Commands (Set way c))) ring
    rows last (Some w) (output ++ text)
sets drawn more list first start ring rows r last visit v w output text way c s is same_url same_at set empty =
    let accepted = set_accepted more v.session w.session way c set in
    commands drawn more list first start ring rows r last visit v w [] output text (Set way c) s is accepted.0 same_url
    same_at accepted.1.1 (λ e. set) tt empty

until_accepted : (more : List Draw) (old new : Ringed) (way : EndingWay) (c : Seen) (until : DateTime)
    → SetUntilDraws more old way c until [] new
    → (command_refusal (SetUntil way c until) ≡ None) × KeepsRing old new
until_accepted more old new way c until (inl h) =
    (sym (ending_refusal way c h.1.ending until h.1.ends) ∙ h.1.accepted, h.1.parts)
until_accepted more old new way c until (inr h) = absurd (no_reading h.0 h.1)

pub sets_until : (drawn more : List Draw) (list : List Rule) (first : Ring) (start : List Row) (ring : Ring)
    (rows : List Row) (r : Reached) (last : ℤ) (visit : Option Visit) (v w : Visit) (output text : List ℕ)
    (way : EndingWay) (c : Seen) (until : DateTime) → Stands drawn list first start r ring rows last visit output
    → visit ≡ Some v → w.url ≡ v.url → w.at ≡ v.at → SetUntilDraws more v.session way c until [] w.session → text ≡ []
    → LeadsOn (drawn ++ more) list first start
    (obeyed r.acts r.ring r.last r.now (spec.Commands (SetUntil way c until))) ring rows last (Some w) (output ++ text)
sets_until drawn more list first start ring rows r last visit v w output text way c until s is same_url same_at set
    empty =
    let accepted = until_accepted more v.session w.session way c until set in
    commands drawn more list first start ring rows r last visit v w [] output text (SetUntil way c until) s is
    accepted.0 same_url same_at accepted.1.1 (λ e. set) tt empty

-- an accepted removal isn't of an empty name
removal_named : (way : Way) (name : List ℕ) (now : DateTime) → IsRemovalRefusal name now None
    → command_refusal (Remove way name) ≡ None
removal_named way [] now accepted = absurd (none_some accepted.2)
  where
    none_some : None ≡ Some refusals.EmptyName → ⊥
    none_some e = cc
removal_named way (b ∷ bs) now accepted = refl

pub removes : (drawn : List Draw) (list : List Rule) (first : Ring) (start : List Row) (ring : Ring) (rows : List Row)
    (r : Reached) (last : ℤ) (visit : Option Visit) (v w : Visit) (output text : List ℕ) (way : Way) (name : List ℕ)
    → Stands drawn list first start r ring rows last visit output
    → visit ≡ Some v → w.url ≡ v.url → w.at ≡ v.at → KeepsRing v.session w.session
    → TakesOut (keyed v.session) way name v.at.date (keyed w.session) → text ≡ []
    → LeadsOn (drawn ++ []) list first start (obeyed r.acts r.ring r.last r.now (spec.Commands (Remove way name))) ring
    rows last (Some w) (output ++ text)
removes drawn list first start ring rows r last visit v w output text way name s is same_url same_at keeps takes empty =
    commands drawn [] list first start ring rows r last visit v w [] output text (Remove way name) s is
    (removal_named way name v.at.date takes.accepted) same_url same_at keeps.1 (λ same. (
      inl (
        refl,
        subst (λ (now : DateTime). TakesOut (keyed v.session) way name now (keyed w.session)) (sym same) takes,
        keeps,
      ),
      refl,
    )) tt empty

pub gets : (drawn : List Draw) (list : List Rule) (first : Ring) (start : List Row) (ring : Ring) (rows : List Row)
    (r : Reached) (last : ℤ) (visit : Option Visit) (v : Visit) (output text : List ℕ) (way : Way) (name : List ℕ)
    (read : Option (List ℕ × ℕ)) → Stands drawn list first start r ring rows last visit output → visit ≡ Some v
    → name ≢ [] → RingReadsIn v.session way name read → text ≡ reading_text (Read way name read)
    → LeadsOn (drawn ++ []) list first start (obeyed r.acts r.ring r.last r.now (spec.Commands (Get way name))) ring
    rows last visit (output ++ text)
gets drawn list first start ring rows r last visit v output text way name read s is not_empty reads shown =
    subst (λ o. LeadsOn (drawn ++ []) list first start
    (obeyed r.acts r.ring r.last r.now (spec.Commands (Get way name))) ring rows last o (output ++ text)) (sym is)
    (commands drawn [] list first start ring rows r last visit v v (Read way name read ∷ []) output text (Get way name)
    s is (get_accepted name not_empty) refl refl refl
    (λ e. ((get_tells v.session way name read not_empty reads, refl), refl)) (tt, tt)
    (shown ∙ sym (one_reading (Read way name read))))

pub gets_until : (drawn : List Draw) (list : List Rule) (first : Ring) (start : List Row) (ring : Ring)
    (rows : List Row) (r : Reached) (last : ℤ) (visit : Option Visit) (v : Visit) (output text : List ℕ)
    (way : EndingWay) (name : List ℕ) (read : Option (List ℕ × ℕ))
    → Stands drawn list first start r ring rows last visit output → visit ≡ Some v → name ≢ []
    → ReadsEnding v.session way name read → text ≡ reading_text (ReadUntil way name read)
    → LeadsOn (drawn ++ []) list first start (obeyed r.acts r.ring r.last r.now (spec.Commands (GetUntil way name)))
    ring rows last visit (output ++ text)
gets_until drawn list first start ring rows r last visit v output text way name read s is not_empty reads shown =
    subst (λ o. LeadsOn (drawn ++ []) list first start
    (obeyed r.acts r.ring r.last r.now (spec.Commands (GetUntil way name))) ring rows last o (output ++ text)) (sym is)
    (commands drawn [] list first start ring rows r last visit v v (ReadUntil way name read ∷ []) output text
    (GetUntil way name) s is (get_accepted name not_empty) refl refl refl
    (λ e. ((until_get_tells v.session way name read not_empty reads, refl), refl)) (tt, tt)
    (shown ∙ sym (one_reading (ReadUntil way name read))))

-- a step ends, with these readings, and draws none itself
ends_at : (drawn done here : List Draw) (list : List Rule) (first : Ring) (start : List Row) (ring left : Ring)
    (rows new : List Row) (acts : List RingAct) (turned : Ring) (act : RingAct) (told : List (List RingReading))
    (more : List RingReading) (output : List ℕ) (last at : ℤ)
    → drawn ≡ done ++ here → RingPlaysBy done list first start acts told ring rows
    → RingStepBy here list ring rows act more left new → AllByRecursion IsAnswered (all_read told ++ more)
    → output ≡ readings_text (all_read told ++ more) → turned ≡ left → last ≡ at
    → Stands (drawn ++ []) list first start (reached (acts ++ act ∷ []) turned at Closed) left new last None output
ends_at drawn done here list first start ring left rows new acts turned act told more output last at draws plays step
    answered prints same moment = record {
      told = told ++ more ∷ [];
      front = [];
      done = done ++ here;
      here = [];
      draws = ap (λ ds. ds ++ []) draws;
      plays = steps_more done here list first ring left start rows new acts told act more plays step;
      is_open = (refl, refl);
      answered = subst (AllByRecursion IsAnswered) (sym (ended told more)) answered;
      prints = prints ∙ ap readings_text (sym (ended told more));
      turned = same;
      moment = moment;
    }

-- `deliver` and `lose`
lose_at : (drawn : List Draw) (list : List Rule) (first : Ring) (start : List Row) (ring : Ring) (rows : List Row)
    (acts : List RingAct) (turned : Ring) (m : ℤ) (now : Now) (last : ℤ) (visit : Option Visit) (output text : List ℕ)
    → Stands drawn list first start (reached acts turned m now) ring rows last visit output → is_none visit ≡ false
    → text ≡ []
    → LeadsOn (drawn ++ []) list first start (obeyed acts turned m now spec.Loses) ring rows last None (output ++ text)
lose_at drawn list first start ring rows acts turned m now last None output text s some empty = absurd (true_false some)
lose_at drawn list first start ring rows acts turned m Closed last (Some v) output text s some empty = absurd s.is_open
lose_at drawn list first start ring rows acts turned m (Within url at cs) last (Some v) output text s some empty =
    let o = s.is_open in (
      reached (acts ++ Visits url at cs Never ∷ []) turned m Closed,
      refl,
      ends_at drawn s.done s.here list first start ring ring rows rows acts turned (Visits url at cs Never) s.told
          s.front (output ++ text) last m s.draws s.plays
          (o.3.0, o.3.1, (o.3.2.0, o.3.2.1, (v.session, o.3.2.2, refl)), refl) s.answered
          (prints_none output text empty ∙ s.prints) s.turned s.moment,
    )

pub none_or_some : (visit : Option Visit) → true ≡ is_some visit → is_none visit ≡ false
none_or_some None e = absurd (true_false e)
none_or_some (Some v) e = refl

pub loses : (drawn : List Draw) (list : List Rule) (first : Ring) (start : List Row) (ring : Ring) (rows : List Row)
    (r : Reached) (last : ℤ) (visit : Option Visit) (output text : List ℕ)
    → Stands drawn list first start r ring rows last visit output → true ≡ is_some visit → text ≡ []
    → LeadsOn (drawn ++ []) list first start (obeyed r.acts r.ring r.last r.now spec.Loses) ring rows last None
    (output ++ text)
loses drawn list first start ring rows r last visit output text s some empty =
    lose_at drawn list first start ring rows r.acts r.ring r.last r.now last visit output text s
    (none_or_some visit some) empty

deliver_at : (drawn : List Draw) (list : List Rule) (first : Ring) (start : List Row) (ring : Ring)
    (rows new : List Row) (acts : List RingAct) (turned : Ring) (m : ℤ) (now : Now) (old_last : ℤ) (v : Visit)
    (answer : List (List ℕ)) (output text : List ℕ) (at last : ℤ)
    → Stands drawn list first start (reached acts turned m now) ring rows old_last (Some v) output
    → ClosesWith v.session.jar answer → Takes list rows v.url at answer new → text ≡ [] → last ≡ at
    → LeadsOn (drawn ++ []) list first start (obeyed acts turned m now (spec.Delivers at)) ring new last None
    (output ++ text)
deliver_at drawn list first start ring rows new acts turned m Closed old_last v answer output text at last s closes
    taken empty moment = absurd s.is_open
deliver_at drawn list first start ring rows new acts turned m (Within url a cs) old_last v answer output text at last s
    closes taken empty moment =
    let o = s.is_open in (
      reached (acts ++ Visits url a cs (Arrives at) ∷ []) turned at Closed,
      refl,
      ends_at drawn s.done s.here list first start ring ring rows new acts turned (Visits url a cs (Arrives at)) s.told
          s.front (output ++ text) last at s.draws s.plays (
            o.3.0,
            o.3.1,
            (
              o.3.2.0,
              o.3.2.1,
              (
                v.session,
                o.3.2.2,
                (
                  closes.cookies,
                  closes.lists,
                  subst (λ ls. Takes list rows url at ls new) closes.printed
                      (subst (λ u. Takes list rows u at answer new) o.0 taken),
                ),
              ),
            ),
            refl,
          ) s.answered (prints_none output text empty ∙ s.prints) s.turned moment,
    )

pub delivers : (drawn : List Draw) (list : List Rule) (first : Ring) (start : List Row) (ring : Ring)
    (rows new : List Row) (r : Reached) (old_last : ℤ) (visit : Option Visit) (v : Visit) (answer : List (List ℕ))
    (output text : List ℕ) (at last : ℤ) → Stands drawn list first start r ring rows old_last visit output
    → visit ≡ Some v → ClosesWith v.session.jar answer → Takes list rows v.url at answer new → text ≡ [] → last ≡ at
    → LeadsOn (drawn ++ []) list first start (obeyed r.acts r.ring r.last r.now (spec.Delivers at)) ring new last None
    (output ++ text)
delivers drawn list first start ring rows new r old_last visit v answer output text at last s is closes taken empty
    moment =
    deliver_at drawn list first start ring rows new r.acts r.ring r.last r.now old_last v answer output text at last
    (subst (λ o. Stands drawn list first start r ring rows old_last o output) is s) closes taken empty moment

-- `receive`, `header`, `restart` and `rotate`
alone_at : (drawn : List Draw) (list : List Rule) (first : Ring) (start : List Row) (ring left : Ring)
    (rows new : List Row) (acts : List RingAct) (turned turned_left : Ring) (m : ℤ) (now : Now) (old_last : ℤ)
    (visit : Option Visit) (output text : List ℕ) (line : spec.Line) (act : RingAct) (more : List RingReading)
    (last at : ℤ) → Stands drawn list first start (reached acts turned m now) ring rows old_last visit output
    → is_some visit ≡ false
    → obeyed acts turned m Closed line ≡ Ok (reached (acts ++ act ∷ []) turned_left at Closed)
    → RingStepBy [] list ring rows act more left new → turned_left ≡ left → AllByRecursion IsAnswered more
    → text ≡ readings_text more → last ≡ at
    → LeadsOn (drawn ++ []) list first start (obeyed acts turned m now line) left new last visit (output ++ text)
alone_at drawn list first start ring left rows new acts turned turned_left m Closed old_last None output text line act
    more last at s none led step same good shown moment =
    let alone : all_read s.told ++ s.front ≡ all_read s.told = ap (λ x. all_read s.told ++ x) s.is_open.0
    ∙ append-nil (all_read s.told) in (
      reached (acts ++ act ∷ []) turned_left at Closed,
      led,
      ends_at drawn s.done [] list first start ring left rows new acts turned_left act s.told more (output ++ text) last
          at (s.draws ∙ ap (λ ds. s.done ++ ds) s.is_open.1) s.plays step
          (answered_append (all_read s.told) more (subst (AllByRecursion IsAnswered) alone s.answered) good)
          (prints_more (all_read s.told) more output text (s.prints ∙ ap readings_text alone) shown) same moment,
    )
alone_at drawn list first start ring left rows new acts turned turned_left m Closed old_last (Some v) output text line
    act more last at s none led step same good shown moment = absurd s.is_open
alone_at drawn list first start ring left rows new acts turned turned_left m (Within u a cs) old_last None output text
    line act more last at s none led step same good shown moment = absurd s.is_open
alone_at drawn list first start ring left rows new acts turned turned_left m (Within u a cs) old_last (Some v) output
    text line act more last at s none led step same good shown moment = absurd (true_false none)

pub receives : (drawn : List Draw) (list : List Rule) (first : Ring) (start : List Row) (ring : Ring)
    (rows new : List Row) (r : Reached) (old_last : ℤ) (visit : Option Visit) (output text : List ℕ) (url : Parts)
    (answer : List (List ℕ)) (at last : ℤ) → Stands drawn list first start r ring rows old_last visit output
    → is_some visit ≡ false → Takes list rows url at answer new → text ≡ [] → last ≡ at
    → LeadsOn (drawn ++ []) list first start (obeyed r.acts r.ring r.last r.now (spec.Receives url answer at)) ring new
    last visit (output ++ text)
receives drawn list first start ring rows new r old_last visit output text url answer at last s none taken empty
    moment =
    alone_at drawn list first start ring ring rows new r.acts r.ring r.ring r.last r.now old_last visit output text
    (spec.Receives url answer at) (Answers url answer at) [] last at s none refl ((refl, taken, refl), refl) s.turned
    tt empty moment

pub heads : (drawn : List Draw) (list : List Rule) (first : Ring) (start : List Row) (ring : Ring) (rows : List Row)
    (r : Reached) (old_last : ℤ) (visit : Option Visit) (output text : List ℕ) (url : Parts) (header : List ℕ)
    (at last : ℤ) → Stands drawn list first start r ring rows old_last visit output
    → is_some visit ≡ false → IsHeader rows url at header → text ≡ reading_text (Header header) → last ≡ at
    → LeadsOn (drawn ++ []) list first start (obeyed r.acts r.ring r.last r.now (spec.Heads url at)) ring rows last
    visit (output ++ text)
heads drawn list first start ring rows r old_last visit output text url header at last s none head shown moment =
    alone_at drawn list first start ring ring rows rows r.acts r.ring r.ring r.last r.now old_last visit output text
    (spec.Heads url at) (Asks url at) (Header header ∷ []) last at s none refl
    (((header, head, refl), refl, refl), refl) s.turned (tt, tt) (shown ∙ sym (one_reading (Header header))) moment

pub restarts : (drawn : List Draw) (list : List Rule) (first : Ring) (start : List Row) (ring : Ring)
    (rows new : List Row) (r : Reached) (old_last : ℤ) (visit : Option Visit) (output text : List ℕ) (at last : ℤ)
    → Stands drawn list first start r ring rows old_last visit output
    → is_some visit ≡ false → Keeps rows at at new → text ≡ [] → last ≡ at
    → LeadsOn (drawn ++ []) list first start (obeyed r.acts r.ring r.last r.now (spec.Restarts at)) ring new last visit
    (output ++ text)
restarts drawn list first start ring rows new r old_last visit output text at last s none kept empty moment =
    alone_at drawn list first start ring ring rows new r.acts r.ring r.ring r.last r.now old_last visit output text
    (spec.Restarts at) (Restarts at) [] last at s none refl ((refl, kept, refl), refl) s.turned tt empty moment

-- what decides whether over 16 earlier keys would be left
few : (n : ℕ) → ¬ (16 < n) → nat_lt most_earlier n ≡ false
few n h = grind (arith, nat_tests)

pub rotates : (drawn : List Draw) (list : List Rule) (first : Ring) (start : List Row) (ring left : Ring)
    (rows : List Row) (r : Reached) (old_last : ℤ) (visit : Option Visit) (output text key : List ℕ) (at : DateTime)
    (keep_until : Option DateTime) (last : ℤ) → Stands drawn list first start r ring rows old_last visit output
    → is_some visit ≡ false → ¬ (16 < length (kept at keep_until ring)) → left ≡ rotated key at keep_until ring
    → text ≡ [] → last ≡ civil_nanos at
    → LeadsOn (drawn ++ []) list first start (obeyed r.acts r.ring r.last r.now (spec.Rotates key at keep_until)) left
    rows last visit (output ++ text)
rotates drawn list first start ring left rows r old_last visit output text key at keep_until last s none room turned
    empty moment =
    let new : Ring = rotated key at keep_until r.ring in
    let next : Reached = reached (r.acts ++ Rotates key at keep_until ∷ []) new (civil_nanos at) Closed in
    alone_at drawn list first start ring left rows rows r.acts r.ring new r.last r.now old_last visit output text
    (spec.Rotates key at keep_until) (Rotates key at keep_until) [] last (civil_nanos at) s none
    (ap (λ t. unless_many t next) (few (length (kept at keep_until r.ring))
    (subst (λ (k : Ring). ¬ (16 < length (kept at keep_until k))) (sym s.turned) room)))
    ((refl, refl, turned), refl)
    (ap (λ (k : Ring). rotated key at keep_until k) s.turned ∙ sym turned) tt empty moment
