-- The run of a whole text.
use Rattle.std.proofs.Common.{◌≡◌, ◌⊎◌, ℕ, ℤ, ◌+◌, ◌<◌, List, [], ◌∷◌, ◌++◌, length, Option, None, Result, Ok, Err, inl}
use Rattle.std.proofs.Common.{inr, sym, refl, ap, ◌∙◌, subst, append_assoc, append-nil, length-append, arith}
use Rattle.std.specs.Prelude.{IfOk, OnOk, IfSome, Some, IsErrAnd, ⊤}
use Rattle.std.specs.Str.Lines.{lines}
use Rattle.std.specs.Io.KnownBytes.{Appends}
use Rattle.std.proofs.KnownBytes.{Appends-trans, Appends-nil}
use Rattle.cookie.specs.KeyRing.{Ring}
use Rattle.cookie_client.specs.Steps.{Arrives, Never}
use Rattle.cookie_run.specs.RingPlay.{RingAct, RingReading, Visits, Answers, Asks, Restarts, Rotates}
use Rattle.cookie_run.specs.Drawn.{Draw, Fills}
use Rattle.cookie_run.specs.ScriptDrawn.{EndsBy, LineFails, FaultDraws, NextFails, HalfStepBy, IsScriptBy, PrintsBy}
use Rattle.cookie_run.specs.ScriptDrawn.{PrintsUntilBy}
use Rattle.cookie_run.specs.ScriptText.{Reached, begun, LeadsTo, after_line, ScriptText, EndsForMemory, HasFault}
use Rattle.cookie_run.specs.ScriptText.{PrintsUntil, fault_text, Prints, IsDoneUpTo, LeavesRows, LeavesFront, HalfStep}
use Rattle.cookie_run.specs.ScriptText.{all_acts}
use Rattle.cookie_run.specs.Standing.{Stands}
use Rattle.cookie_store.specs.Rows.{Row}
use Rattle.publicsuffix.specs.Rules.{Rule}
use Rattle.cookie_run.specs.declared.script.cause.Cause.{Cause}
use Rattle.cookie_run.specs.declared.script.cause.Cause.TheVariants.{Memory}
use Rattle.cookie_run.specs.declared.script.ended.Ended.{Ended}
use Rattle.cookie_run.specs.declared.script.ended.Ended.TheVariants.{Whole, Faulty}
use Rattle.cookie_run.specs.declared.script.ended.RunError.{RunError}
use Rattle.cookie_run.proofs.ScriptLines.{lines_some}
use Rattle.cookie_run.specs.declared.script.visit.Visit.{Visit}
use Rattle.cookie_run.proofs.DrawnRuns.{draws_nil}
use Rattle.cookie_run.proofs.RingDrawnRuns.{commands_any, plays_any}
use Rattle.cookie_run.proofs.Halting.{prints_all}
use Rattle.cookie_run.proofs.Runs.{on_ok}

-- ---- whatever the nonces

prints_any : (ds : List Draw) (list : List Rule) (origin : Ring) (start : List Row) (r : Reached) (output : List ℕ)
    (new : List Row) → PrintsBy ds list origin start r output new → Prints list origin start r output new
prints_any ds list origin start r output new p =
    (p.0, plays_any ds list origin start (all_acts r) p.0 r.ring new p.1, p.2, p.3)

half_any : (ds : List Draw) (list : List Rule) (ring : Ring) (rows : List Row) (act : RingAct)
    (told : List RingReading) (new : List Row) → HalfStepBy ds list ring rows act told new
    → HalfStep list ring rows act told new
half_any ds list ring rows (Visits url at cs (Arrives moment)) told new h = (
  h.0,
  h.1,
  (h.2.0, h.2.1, (h.2.2.0, commands_any ds h.2.0 cs told h.2.2.0 h.2.2.1, h.2.2.2)),
)
half_any ds list ring rows (Visits url at cs Never) told new h = absurd h
half_any ds list ring rows (Answers url answer at) told new h = (h.0, h.1)
half_any ds list ring rows (Asks url at) told new h = absurd h
half_any ds list ring rows (Restarts at) told new h = absurd h
half_any ds list ring rows (Rotates key at keep_until) told new h = absurd h

until_any : (ds : List Draw) (list : List Rule) (origin : Ring) (start : List Row) (r : Reached)
    (led : Result Reached Cause) (output : List ℕ) (new : List Row)
    → PrintsUntilBy ds list origin start r led output new → PrintsUntil list origin start r led output new
until_any ds list origin start r led output new (inl p) = inl (prints_any ds list origin start r output new p)
until_any ds list origin start r led output new (inr (next, act, is, more, h)) = inr (
  next,
  act,
  is,
  more,
  (
    h.0,
    h.1,
    h.2,
    plays_any h.3 list origin start r.acts h.0 r.ring h.1 h.6,
    half_any h.4 list r.ring h.1 act h.2 new h.7,
    h.8,
    h.9,
  ),
)

fault_any : {G : Type 0} (May : G → List ℕ → G → Type 0) (Error : Type 0) (old new : G) (ds : List Draw) (r : Reached)
    (led : Result Reached Cause) (cause : Cause) → Fills May Error old ds new → FaultDraws ds r led cause
    → HasFault Error r led cause
fault_any May Error old new ds r led cause fills (inl own) = inl own.0
fault_any May Error old new ds r led cause fills (inr failed) =
    inr (failed.0, (subst (λ xs. Fills May Error old xs new) failed.1 fills).0, failed.2)

-- a line isn't done
abbrev pub LineFailsAny : Type 0 → List Rule → Ring → List Row → Reached → Result Reached Cause → Cause → List ℕ
    → List Row → Type 0
LineFailsAny Error list origin start r led cause output new =
    (HasFault Error r led cause × Prints list origin start r output new)
    ⊎ ((cause ≡ Memory) × PrintsUntil list origin start r led output new)

pub fails_any : {G : Type 0} (May : G → List ℕ → G → Type 0) (Error : Type 0) (from to : G) (ds here : List Draw)
    (list : List Rule) (origin : Ring) (start : List Row) (r : Reached) (led : Result Reached Cause) (cause : Cause)
    (output : List ℕ) (new : List Row) → Fills May Error from here to
    → LineFails ds here list origin start r led cause output new
    → LineFailsAny Error list origin start r led cause output new
fails_any May Error from to ds here list origin start r led cause output new fills (inl fault) = inl
    (fault_any May Error from to here r led cause fills fault.0, prints_any ds list origin start r output new fault.1)
fails_any May Error from to ds here list origin start r led cause output new fills (inr memory) =
    inr (memory.0, until_any ds list origin start r led output new memory.2)

-- ---- the lines

-- how far the run has come by these draws: the lines done, where they led, and what was printed for them
pub record Come (drawn : List Draw) (list : List Rule) (origin : Ring) (start : List Row) (first : ℤ)
    (text rest : List ℕ) (ring : Ring) (rows : List Row) (last : ℤ) (visit : Option Visit) (done : ℕ) (old new : Option
    (List ℕ))
    : Type 0 where
  pub r : Reached
  pub before : List (List ℕ)
  pub output : List ℕ
  pub leads : LeadsTo (begun origin first) before r
  pub whole : lines text ≡ before ++ lines rest
  pub stands : Stands drawn list origin start r ring rows last visit output
  pub written : Appends old new output
  pub count : done ≡ length before

stands_first : (list : List Rule) (origin : Ring) (start : List Row) (first : ℤ)
    → Stands [] list origin start (begun origin first) origin start first None []
stands_first list origin start first = record {
  told = [];
  front = [];
  done = [];
  here = [];
  draws = refl;
  plays = (refl, refl, refl);
  is_open = (refl, refl);
  answered = tt;
  prints = refl;
  turned = refl;
  moment = refl;
}

pub come_first : (list : List Rule) (origin : Ring) (start : List Row) (first : ℤ) (text : List ℕ) (w : Option (List ℕ))
    → Come [] list origin start first text text origin start first None 0 w w
come_first list origin start first text w = record {
  r = begun origin first;
  before = [];
  output = [];
  leads = refl;
  whole = refl;
  stands = stands_first list origin start first;
  written = Appends-nil w;
  count = refl;
}

leads_more : (start : Reached) (before : List (List ℕ)) (r next : Reached) (line : List ℕ) → LeadsTo start before r
    → after_line r line ≡ Ok next → LeadsTo start (before ++ line ∷ []) next
leads_more start [] r next line h e = (next, subst (λ s. after_line s line ≡ Ok next) h e, refl)
leads_more start (l ∷ before) r next line h e = (h.0, h.1, leads_more h.0 before r next line h.2 e)

pub come_more : (drawn more_drawn : List Draw) (list : List Rule) (origin : Ring) (start : List Row) (first : ℤ)
    (text rest line more : List ℕ) (ring new_ring : Ring) (rows new_rows : List Row) (last new_last : ℤ)
    (visit new_visit : Option Visit)
    (done : ℕ) (old mid new : Option (List ℕ)) (printed : List ℕ)
    → (come : Come drawn list origin start first text rest ring rows last visit done old mid)
    → lines rest ≡ line ∷ lines more
    → ((next : Reached) × (after_line come.r line ≡ Ok next) × Stands (drawn ++ more_drawn) list origin start next
    new_ring new_rows
    new_last new_visit (come.output ++ printed)) → Appends mid new printed
    → Come (drawn ++ more_drawn) list origin start first text more new_ring new_rows new_last new_visit (done + 1) old
    new
come_more drawn more_drawn list origin start first text rest line more ring new_ring rows new_rows last new_last visit
    new_visit done
    old mid new printed come cut goes written = record {
      r = goes.0;
      before = come.before ++ line ∷ [];
      output = come.output ++ printed;
      leads = leads_more (begun origin first) come.before come.r goes.0 line come.leads goes.1;
      whole = come.whole ∙ (ap (λ ls. come.before ++ ls) cut ∙ sym (append_assoc come.before (line ∷ []) (lines more)));
      stands = goes.2;
      written = Appends-trans old mid new come.output printed come.written written;
      count = ap (λ n. n + 1) come.count ∙ sym (length-append come.before (line ∷ []));
    }

-- what the text prints, and how it ends
abbrev pub Ends : Type 0 → List Rule → Ring → List Row → ℤ → List ℕ → Option (List ℕ) → Option (List ℕ) → List Row
    → ℤ → Ended → Type 0
Ends Error list origin start first text old new rows last ended = (output : List ℕ) × Appends old new output
    × (ScriptText Error list origin start first text output rows last ended
    ⊎ EndsForMemory list origin start first text output rows last ended)

pub come_whole : (drawn : List Draw) (Error : Type 0) (list : List Rule) (origin : Ring) (start : List Row) (first : ℤ)
    (text rest : List ℕ) (ring : Ring) (rows : List Row) (last : ℤ) (visit : Option Visit) (done : ℕ) (old new : Option
    (List ℕ))
    → Come drawn list origin start first text rest ring rows last visit done old new → rest ≡ []
    → Ends Error list origin start first text old new rows last Whole
come_whole drawn Error list origin start first text rest ring rows last visit done old new come e =
    let all : lines text ≡ come.before = come.whole ∙ (ap (λ x. come.before ++ lines x) e ∙ append-nil come.before) in (
      come.output,
      come.written,
      inl (record {
        r = come.r;
        leads = subst (λ ls. LeadsTo (begun origin first) ls come.r) (sym all) come.leads;
        prints = prints_any drawn list origin start come.r come.output rows
            (prints_all drawn list origin start ring rows come.r last visit come.output come.stands);
        moment = come.stands.moment;
      }),
    )

no_length : (line : List ℕ) → 0 < length line → line ≡ [] → ⊥
no_length line some empty = let none = ap length empty in omega arith

pub come_fault : (drawn : List Draw) (Error : Type 0) (list : List Rule) (origin : Ring) (start : List Row) (first : ℤ)
    (text rest line more : List ℕ) (ring : Ring) (rows new_rows : List Row) (last new_last : ℤ) (visit : Option Visit)
    (done : ℕ)
    (old mid new : Option (List ℕ)) (cause : Cause)
    → (come : Come drawn list origin start first text rest ring rows last visit done old mid)
    → lines rest ≡ line ∷ lines more
    → LineFailsAny Error list origin start come.r (after_line come.r line) cause come.output new_rows → 0 < length line
    → new_last ≡ last → Appends mid new (fault_text (done + 1) cause)
    → Ends Error list origin start first text old new new_rows new_last (Faulty (done + 1))
come_fault drawn Error list origin start first text rest line more ring rows new_rows last new_last visit done old mid
    new cause
    come cut (inl fault) some kept written = (
      come.output ++ fault_text (done + 1) cause,
      Appends-trans old mid new come.output _ come.written written,
      inl (record {
        r = come.r;
        before = come.before;
        line = line;
        cause = cause;
        readings = come.output;
        place = record {
          after = lines more;
          whole = come.whole ∙ ap (λ ls. come.before ++ ls) cut;
          number = ap (λ n. n + 1) come.count;
        };
        leads = come.leads;
        fault = fault.0;
        prints = fault.1;
        text = refl;
        moment = kept ∙ come.stands.moment;
      }),
    )
come_fault drawn Error list origin start first text rest line more ring rows new_rows last new_last visit done old mid
    new cause
    come cut (inr half) some kept written = (
      come.output ++ fault_text (done + 1) cause,
      Appends-trans old mid new come.output _ come.written written,
      inr (record {
        r = come.r;
        before = come.before;
        line = line;
        readings = come.output;
        place = record {
          after = lines more;
          whole = come.whole ∙ ap (λ ls. come.before ++ ls) cut;
          number = ap (λ n. n + 1) come.count;
        };
        asks = λ empty. absurd (no_length line some empty);
        leads = come.leads;
        prints = half.1;
        text = ap (λ x. come.output ++ fault_text (done + 1) x) half.0;
        moment = kept ∙ come.stands.moment;
      }),
    )

-- ---- where memory is refused while the text is read

pub memory_first : (Error : Type 0) (list : List Rule) (origin : Ring) (start : List Row) (first : ℤ) (text : List ℕ)
    (old new : Option (List ℕ)) → 0 < length text → Appends old new (fault_text 1 Memory)
    → Ends Error list origin start first text old new start first (Faulty 1)
memory_first Error list origin start first text old new some written =
    let l = lines_some text some in (
      fault_text 1 Memory,
      written,
      inr (record {
        r = begun origin first;
        before = [];
        line = l.0;
        readings = [];
        place = record { after = l.1; whole = l.2; number = refl };
        asks = λ empty. refl;
        leads = refl;
        prints = inl ([], (refl, refl), tt, refl);
        text = refl;
        moment = refl;
      }),
    )

pub known_text : {A E : Type 0} (r : Result A E) (left : Option (List ℕ)) (P : List ℕ → A → Type 0) (items : List ℕ)
    → IfSome left (λ input. items ≡ input) → IfOk r (λ a. P items a) → IfOk r (λ a. IfSome left (λ input. P input a))
known_text (Ok a) None P items e h = tt
known_text (Ok a) (Some input) P items e h = subst (λ i. P i a) e h
known_text (Err x) left P items e h = tt

pub for_all : {A E : Type 0} (r : Result A E) (left : Option (List ℕ)) (P : List ℕ → A → Type 0) (Q : List ℕ → Type 0)
    (R : Type 0) (a : A) → IfSome left Q → OnOk r R → IfOk r (λ x. x ≡ a) → ((input : List ℕ) → Q input → R → P input a)
    → IfOk r (λ x. IfSome left (λ input. P input x))
for_all (Ok x) None P Q R a q h is f = tt
for_all (Ok x) (Some input) P Q R a q h is f = subst (λ y. P input y) (sym is) (f input q h)
for_all (Err e) left P Q R a q h is f = tt

pub for_one : {A E : Type 0} (r : Result A E) (P : A → Type 0) (R : Type 0) (a : A) → OnOk r R → IfOk r (λ x. x ≡ a)
    → (R → P a) → IfOk r P
for_one (Ok x) P R a h is f = subst P (sym is) (f h)
for_one (Err e) P R a h is f = tt

-- ---- what is left, however the run ends

rows_left : (list : List Rule) (origin : Ring) (start : List Row) (r : Reached) (after : List (List ℕ))
    (output : List ℕ)
    (new : List Row) → Prints list origin start r output new → LeavesRows list origin start r after new
rows_left list origin start r [] output new p = (output, p)
rows_left list origin start r (line ∷ later) output new p = (output, inl p)

pub leaves_now : (drawn : List Draw) (list : List Rule) (origin : Ring) (start : List Row) (first : ℤ) (text : List ℕ)
    (r : Reached) (before after : List (List ℕ)) (ring : Ring) (rows : List Row) (last : ℤ) (visit : Option Visit)
    (output : List ℕ)
    (result : Result Ended RunError) → LeadsTo (begun origin first) before r → lines text ≡ before ++ after
    → Stands drawn list origin start r ring rows last visit output → IsDoneUpTo result before after
    → LeavesFront list origin start first text rows last result
leaves_now drawn list origin start first text r before after ring rows last visit output result leads cut stands up_to =
    record {
      r = r;
      before = before;
      after = after;
      cut = cut;
      leads = leads;
      leaves = rows_left list origin start r after output rows
          (prints_any drawn list origin start r output rows
          (prints_all drawn list origin start ring rows r last visit output stands));
      moment = stands.moment;
      done_up_to = up_to;
    }

pub up_to_fault : (result : Result Ended RunError) (n : ℕ) (before after : List (List ℕ))
    → IfOk result (λ ended. ended ≡ Faulty n) → n ≡ length before + 1 → IsDoneUpTo result before after
up_to_fault (Ok ended) n before after is e = subst (λ x. let r : Result Ended RunError = Ok x in
    IsDoneUpTo r before after) (sym is) e
up_to_fault (Err error) n before after is e = tt

pub up_to_any : (result : Result Ended RunError) (Q : RunError → Type 0) (before after : List (List ℕ))
    → IsErrAnd result Q → IsDoneUpTo result before after
up_to_any (Ok ended) Q before after is = absurd is
up_to_any (Err error) Q before after is = tt

-- the line was done, and what it printed wasn't written
pub leaves_more : (drawn more_drawn : List Draw) (list : List Rule) (origin : Ring) (start : List Row) (first : ℤ)
    (text rest line more : List ℕ) (ring new_ring : Ring) (rows new_rows : List Row) (last new_last : ℤ)
    (visit new_visit : Option Visit)
    (done : ℕ) (old mid : Option (List ℕ)) (printed : List ℕ) (result : Result Ended RunError)
    (Q : RunError → Type 0) → IsErrAnd result Q
    → (come : Come drawn list origin start first text rest ring rows last visit done old mid)
    → lines rest ≡ line ∷ lines more
    → ((next : Reached) × (after_line come.r line ≡ Ok next) × Stands (drawn ++ more_drawn) list origin start next
    new_ring new_rows
    new_last new_visit (come.output ++ printed)) → LeavesFront list origin start first text new_rows new_last result
leaves_more drawn more_drawn list origin start first text rest line more ring new_ring rows new_rows last new_last visit
    new_visit done
    old mid printed result Q failed come cut goes = leaves_now (drawn ++ more_drawn) list origin start first text goes.0
    (come.before ++ line ∷ []) (lines more) new_ring new_rows new_last new_visit (come.output ++ printed) result
    (leads_more (begun origin first) come.before come.r goes.0 line come.leads goes.1)
    (come.whole ∙ (ap (λ ls. come.before ++ ls) cut ∙ sym (append_assoc come.before (line ∷ []) (lines more))))
    goes.2 (up_to_any result Q (come.before ++ line ∷ []) (lines more) failed)

-- the line wasn't done
pub leaves_fault : (drawn : List Draw) (Error : Type 0) (list : List Rule) (origin : Ring) (start : List Row)
    (first : ℤ)
    (text rest line more : List ℕ) (ring : Ring) (rows new_rows : List Row) (last new_last : ℤ) (visit : Option Visit)
    (done : ℕ)
    (old mid : Option (List ℕ)) (cause : Cause) (result : Result Ended RunError)
    → IfOk result (λ ended. ended ≡ Faulty (done + 1))
    → (come : Come drawn list origin start first text rest ring rows last visit done old mid)
    → lines rest ≡ line ∷ lines more
    → LineFailsAny Error list origin start come.r (after_line come.r line) cause come.output new_rows → new_last ≡ last
    → LeavesFront list origin start first text new_rows new_last result
leaves_fault drawn Error list origin start first text rest line more ring rows new_rows last new_last visit done old mid
    cause
    result is come cut said kept = record {
      r = come.r;
      before = come.before;
      after = line ∷ lines more;
      cut = come.whole ∙ ap (λ ls. come.before ++ ls) cut;
      leads = come.leads;
      leaves = (come.output, until said);
      moment = kept ∙ come.stands.moment;
      done_up_to = up_to_fault result (done + 1) come.before (line ∷ lines more) is (ap (λ n. n + 1) come.count);
    }
  where
    until : LineFailsAny Error list origin start come.r (after_line come.r line) cause come.output new_rows
        → PrintsUntil list origin start come.r (after_line come.r line) come.output new_rows
    until (inl fault) = inl fault.1
    until (inr half) = half.1

-- no line was done
none_done : (list : List Rule) (origin : Ring) (start : List Row) (first : ℤ) (input : List ℕ)
    (result : Result Ended RunError) → ((after : List (List ℕ)) → IsDoneUpTo result [] after)
    → LeavesFront list origin start first input start first result
none_done list origin start first input result up_to = leaves_now [] list origin start first input (begun origin first)
    []
    (lines input) origin start first None [] result refl refl (stands_first list origin start first) (up_to (lines
    input))

pub leaves_first : (list : List Rule) (origin : Ring) (start : List Row) (first : ℤ) (left : Option (List ℕ))
    (result : Result Ended RunError) → ((after : List (List ℕ)) → IsDoneUpTo result [] after)
    → (input : List ℕ) × IfSome left (λ whole. input ≡ whole) × LeavesFront list origin start first input start first
    result
leaves_first list origin start first None result up_to = ([], tt, none_done list origin start first [] result up_to)
leaves_first list origin start first (Some whole) result up_to =
    (whole, refl, none_done list origin start first whole result up_to)

-- ---- by the draws

pub script_whole : (drawn : List Draw) (list : List Rule) (origin : Ring) (start : List Row) (first : ℤ)
    (text rest : List ℕ) (ring : Ring) (rows : List Row) (last : ℤ) (visit : Option Visit) (done : ℕ) (old mid new :
    Option (List ℕ))
    → (come : Come drawn list origin start first text rest ring rows last visit done old mid) → rest ≡ []
    → Appends old new come.output → IsScriptBy drawn list origin start first text old new rows last (Ok Whole)
script_whole drawn list origin start first text rest ring rows last visit done old mid new come e written = record {
  r = come.r;
  before = come.before;
  after = [];
  cut = come.whole ∙ ap (λ x. come.before ++ lines x) e;
  leads = come.leads;
  moment = come.stands.moment;
  done = drawn;
  here = [];
  draws = sym (draws_nil drawn);
  ends = (
    refl,
    refl,
    (come.output, prints_all drawn list origin start ring rows come.r last visit come.output come.stands, written),
  );
}

-- a device failed before a line
pub script_cut : (drawn : List Draw) (list : List Rule) (origin : Ring) (start : List Row) (first : ℤ) (text : List ℕ)
    (r : Reached) (before after : List (List ℕ)) (ring : Ring) (rows : List Row) (last : ℤ) (visit : Option Visit)
    (output : List ℕ)
    (old new : Option (List ℕ)) (result : Result Ended RunError) (Q : RunError → Type 0) → IsErrAnd result Q
    → LeadsTo (begun origin first) before r → lines text ≡ before ++ after
    → Stands drawn list origin start r ring rows last visit output
    → IsScriptBy drawn list origin start first text old new rows last result
script_cut drawn list origin start first text r before after ring rows last visit output old new result Q failed leads
    cut
    stands =
    record {
      r = r;
      before = before;
      after = after;
      cut = cut;
      leads = leads;
      moment = stands.moment;
      done = drawn;
      here = [];
      draws = sym (draws_nil drawn);
      ends = by_error result failed;
    }
  where
    by_error : (result : Result Ended RunError) → IsErrAnd result Q
        → EndsBy drawn [] list origin start r before after old new rows result
    by_error (Ok ended) is = absurd is
    by_error (Err error) is =
        (output, inl (refl, prints_all drawn list origin start ring rows r last visit output stands))

pub script_more : (drawn more_drawn : List Draw) (list : List Rule) (origin : Ring) (start : List Row) (first : ℤ)
    (text rest line more : List ℕ) (ring new_ring : Ring) (rows new_rows : List Row) (last new_last : ℤ)
    (visit new_visit : Option Visit)
    (done : ℕ) (old mid new : Option (List ℕ)) (printed : List ℕ) (result : Result Ended RunError)
    (Q : RunError → Type 0) → IsErrAnd result Q
    → (come : Come drawn list origin start first text rest ring rows last visit done old mid)
    → lines rest ≡ line ∷ lines more
    → ((next : Reached) × (after_line come.r line ≡ Ok next) × Stands (drawn ++ more_drawn) list origin start next
    new_ring new_rows
    new_last new_visit (come.output ++ printed))
    → IsScriptBy (drawn ++ more_drawn) list origin start first text old new new_rows new_last result
script_more drawn more_drawn list origin start first text rest line more ring new_ring rows new_rows last new_last visit
    new_visit done
    old mid new printed result Q failed come cut goes = script_cut (drawn ++ more_drawn) list origin start first text
    goes.0 (come.before ++ line ∷ []) (lines more) new_ring new_rows new_last new_visit (come.output ++ printed) old new
    result
    Q failed (leads_more (begun origin first) come.before come.r goes.0 line come.leads goes.1)
    (come.whole ∙ (ap (λ ls. come.before ++ ls) cut ∙ sym (append_assoc come.before (line ∷ []) (lines more)))) goes.2

-- line n wasn't done
by_fault : (ds here : List Draw) (list : List Rule) (origin : Ring) (start : List Row) (r : Reached)
    (before after : List (List ℕ)) (old new : Option (List ℕ)) (rows : List Row) (n : ℕ) (cause : Cause)
    (output : List ℕ) (result : Result Ended RunError) → n ≡ length before + 1
    → NextFails ds here list origin start r after cause output rows
    → OnOk result (Appends old new (output ++ fault_text n cause)) → IfOk result (λ ended. ended ≡ Faulty n)
    → EndsBy ds here list origin start r before after old new rows result
by_fault ds here list origin start r before after old new rows n cause output (Ok ended) number fails written is =
    subst (λ x. let e : Result Ended RunError = Ok x in EndsBy ds here list origin start r before after old new rows e)
    (sym is) (number, (cause, output, fails, written))
by_fault ds here list origin start r before after old new rows n cause output (Err error) number fails written is =
    (output, inr (cause, fails))

pub script_fault : (drawn here : List Draw) (list : List Rule) (origin : Ring) (start : List Row) (first : ℤ)
    (text rest line more : List ℕ) (ring : Ring) (rows new_rows : List Row) (last new_last : ℤ) (visit : Option Visit)
    (done : ℕ)
    (old mid new : Option (List ℕ)) (cause : Cause) (result : Result Ended RunError)
    → (come : Come drawn list origin start first text rest ring rows last visit done old mid)
    → lines rest ≡ line ∷ lines more
    → LineFails drawn here list origin start come.r (after_line come.r line) cause come.output new_rows
    → new_last ≡ last
    → OnOk result (Appends mid new (fault_text (done + 1) cause)) → IfOk result (λ ended. ended ≡ Faulty (done + 1))
    → IsScriptBy (drawn ++ here) list origin start first text old new new_rows new_last result
script_fault drawn here list origin start first text rest line more ring rows new_rows last new_last visit done old mid
    new
    cause result come cut fails kept written is = record {
      r = come.r;
      before = come.before;
      after = line ∷ lines more;
      cut = come.whole ∙ ap (λ ls. come.before ++ ls) cut;
      leads = come.leads;
      moment = kept ∙ come.stands.moment;
      done = drawn;
      here = here;
      draws = refl;
      ends = by_fault drawn here list origin start come.r come.before (line ∷ lines more) old new new_rows (done + 1)
          cause
          come.output result (ap (λ n. n + 1) come.count) fails
          (on_ok result _ _ (Appends-trans old mid new come.output _ come.written) written) is;
    }

-- nothing was read
pub script_unread : (list : List Rule) (origin : Ring) (start : List Row) (first : ℤ) (left : Option (List ℕ))
    (old new : Option (List ℕ)) (error : RunError)
    → (input : List ℕ) × IfSome left (λ whole. input ≡ whole)
    × IsScriptBy [] list origin start first input old new start first (Err error)
script_unread list origin start first left old new error = known left
  where
    none : (input : List ℕ) → IsScriptBy [] list origin start first input old new start first (Err error)
    none input = script_cut [] list origin start first input (begun origin first) [] (lines input) origin start first
        None [] old new
        (Err error) (λ e. ⊤) tt refl refl (stands_first list origin start first)

    known : (left : Option (List ℕ)) → (input : List ℕ) × IfSome left (λ whole. input ≡ whole)
        × IsScriptBy [] list origin start first input old new start first (Err error)
    known None = ([], tt, none [])
    known (Some whole) = (whole, refl, none whole)

-- memory was refused while the text was read
script_refused : (list : List Rule) (origin : Ring) (start : List Row) (first : ℤ) (input : List ℕ)
    (old new : Option (List ℕ)) (result : Result Ended RunError) → 0 < length input
    → OnOk result (Appends old new (fault_text 1 Memory)) → IfOk result (λ ended. ended ≡ Faulty 1)
    → IsScriptBy [] list origin start first input old new start first result
script_refused list origin start first input old new result some written is =
    let l = lines_some input some in record {
      r = begun origin first;
      before = [];
      after = l.0 ∷ l.1;
      cut = l.2;
      leads = refl;
      moment = refl;
      done = [];
      here = [];
      draws = refl;
      ends = by_fault [] [] list origin start (begun origin first) [] (l.0 ∷ l.1) old new start 1 Memory [] result refl
          (inr (refl, inl refl, inl ([], (refl, refl, refl), tt, refl))) written is;
    }

pub script_memory : (list : List Rule) (origin : Ring) (start : List Row) (first : ℤ) (left : Option (List ℕ))
    (old new : Option (List ℕ)) (result : Result Ended RunError) → IfSome left (λ input. 0 < length input)
    → OnOk result (Appends old new (fault_text 1 Memory)) → IfOk result (λ ended. ended ≡ Faulty 1)
    → (input : List ℕ) × IfSome left (λ whole. input ≡ whole)
    × IsScriptBy [] list origin start first input old new start first result
script_memory list origin start first None old new result some written is =
    (0 ∷ [], tt, script_refused list origin start first (0 ∷ []) old new result (omega arith) written is)
script_memory list origin start first (Some whole) old new result some written is =
    (whole, refl, script_refused list origin start first whole old new result some written is)
