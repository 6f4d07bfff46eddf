-- A play that goes on by one step, stops in it, or comes to its end.
use Rattle.std.proofs.Common.{false, ◌≡◌, ℕ, ℤ, ◌+◌, ◌<◌, ◌≤◌, zero, suc, length, take, drop, get_or, List, [], ◌∷◌}
use Rattle.std.proofs.Common.{inl, inr, ◌++◌, sym, refl, ap, ◌∙◌, subst, arith, append_assoc}
use Rattle.std.proofs.lemmas.List.{take_all}
use Rattle.cookie_run.specs.declared.step.Step.{Step}
use Rattle.cookie_client.specs.declared.command.Reading.{Reading}
use Rattle.cookie_run.specs.declared.step.FaultKind.{FaultKind}
use Rattle.publicsuffix.specs.Rules.{Rule}
use Rattle.cookie_store.specs.Rows.{Row}
use Rattle.cookie_client.specs.Steps.{Act}
use Rattle.cookie_run.specs.Acts.{act_of, acts_of, moments_in, moments_of, opening_of, arrival_in}
use Rattle.cookie_run.specs.Moments.{AllFollow, last_of, the_beginning}
use Rattle.cookie_run.specs.Stops.{StopsFrom}
use Rattle.cookie_run.specs.Play.{Plays, ReadsAll, ReadsFront, IsRun, IsRunUntil}
use Rattle.cookie_run.specs.Readings.{all_told}
use Rattle.cookie_run.specs.Drawn.{Draw, Fills, DrawsSo, StepBy, PlaysBy, IsRunBy, StopsBy, IsRunUntilBy}
use Rattle.cookie_run.proofs.Runs.{acts_more, told_more}
use Rattle.cookie_run.proofs.DrawnRuns.{fills_more, plays_any, steps_more, stops_any}

-- ---- moments

moments_nil : (ms : List ℤ) → ms ++ [] ≡ ms
moments_nil [] = refl
moments_nil (m ∷ ms) = ap (λ ns. m ∷ ns) (moments_nil ms)

moments_more : (acts : List Act) (act : Act) → moments_of (acts ++ act ∷ []) ≡ moments_of acts ++ moments_in act
moments_more [] act = moments_nil (moments_in act)
moments_more (a ∷ acts) act = ap (λ ms. moments_in a ++ ms) (moments_more acts act)
    ∙ sym (append_assoc (moments_in a) (moments_of acts) (moments_in act))

follow_append : (last : ℤ) (ms ns : List ℤ) → AllFollow last ms → AllFollow (last_of last ms) ns
    → AllFollow last (ms ++ ns)
follow_append last [] ns h k = k
follow_append last (m ∷ ms) ns h k = (h.0, follow_append m ms ns h.1 k)

last_append : (last : ℤ) (ms ns : List ℤ) → last_of last (ms ++ ns) ≡ last_of (last_of last ms) ns
last_append last [] ns = refl
last_append last (m ∷ ms) ns = last_append m ms ns

pub moments_next : (steps : List Step) (i : ℕ) (s : Step) → i < length steps → s ≡ get_or steps i s
    → moments_of (acts_of (take (i + 1) steps)) ≡ moments_of (acts_of (take i steps)) ++ moments_in (act_of s)
moments_next steps i s h is = ap moments_of (acts_more steps i s h is)
    ∙ moments_more (acts_of (take i steps)) (act_of s)

pub follow_next : (steps : List Step) (i : ℕ) (s : Step) (now later : ℤ) → i < length steps → s ≡ get_or steps i s →
    AllFollow the_beginning (moments_of (acts_of (take i steps)))
    → now ≡ last_of the_beginning (moments_of (acts_of (take i steps))) →
    AllFollow now (moments_in (act_of s)) × (later ≡ last_of now (moments_in (act_of s))) →
    AllFollow the_beginning (moments_of (acts_of (take (i + 1) steps)))
    × (later ≡ last_of the_beginning (moments_of (acts_of (take (i + 1) steps))))
follow_next steps i s now later h is before at here =
    let ms = moments_of (acts_of (take i steps)) in
    let ns = moments_in (act_of s) in
    let more = moments_next steps i s h is in (
      subst (AllFollow the_beginning) (sym more) (follow_append the_beginning ms ns before
          (subst (λ last. AllFollow last ns) at here.0)),
      here.1 ∙ (ap (λ last. last_of last ns) at ∙ (sym (last_append the_beginning ms ns)
          ∙ ap (last_of the_beginning) (sym more))),
    )

-- ---- the step that a play stops in

cut_at : (steps : List Step) (i : ℕ) (s : Step) → i < length steps → s ≡ get_or steps i s
    → acts_of steps ≡ acts_of (take i steps) ++ act_of s ∷ acts_of (drop (suc i) steps)
cut_at [] i s h is = absurd (omega arith)
cut_at (x ∷ xs) zero s h is = ap (λ y. act_of y ∷ acts_of xs) (sym is)
cut_at (x ∷ xs) (suc i) s h is = ap (λ acts. act_of x ∷ acts) (cut_at xs i s (omega arith) is)

before_count : (steps : List Step) (i : ℕ) → i < length steps → length (acts_of (take i steps)) ≡ i
before_count [] i h = absurd (omega arith)
before_count (x ∷ xs) zero h = refl
before_count (x ∷ xs) (suc i) h = let rest = before_count xs i (omega arith) in omega arith

-- what the loop knows before a step
pub record Before (list : List Rule) (key : List ℕ) (steps : List Step) (i : ℕ) (rows : List Row) (now : List Reading)
    (moment : ℤ) : Type 0 where
  pub run : (told : List (List Reading)) × (now ≡ all_told told) × Plays false list key []
      (acts_of (take i steps)) told rows
  pub moments : AllFollow the_beginning (moments_of (acts_of (take i steps)))
  pub last : moment ≡ last_of the_beginning (moments_of (acts_of (take i steps)))

-- the step stops so
abbrev pub Stops : List ℕ → List Row → FaultKind → ℤ → Act → List Reading → List Reading → Type 0
Stops key rows kind last act old readings = StopsFrom kind last act old (ReadsFront false key rows act)
    (ReadsAll false key rows act) readings

stops_there : (list : List Rule) (key : List ℕ) (steps : List Step) (i : ℕ) (s : Step) (rows : List Row)
    (now later : List Reading) (last : ℤ) (kind : FaultKind) → (b : Before list key steps i rows now last) →
    Stops key rows kind last (act_of s) now later → Stops key rows kind
    (last_of the_beginning (moments_of (acts_of (take i steps)))) (act_of s) (all_told b.run.0) later
stops_there list key steps i s rows now later last kind b stops =
    subst (λ m. Stops key rows kind m (act_of s) (all_told b.run.0) later) b.last
    (subst (λ old. Stops key rows kind last (act_of s) old later) b.run.1 stops)

pub run_until : (list : List Rule) (key : List ℕ) (steps : List Step) (i : ℕ) (s : Step) (rows : List Row)
    (now later : List Reading) (last : ℤ) (kind : FaultKind) → i < length steps → s ≡ get_or steps i s
    → Before list key steps i rows now last →
    Stops key rows kind last (act_of s) now later → IsRunUntil list key (acts_of steps) (i + 1) kind later
run_until list key steps i s rows now later last kind h is b stops = record {
  before = acts_of (take i steps);
  act = act_of s;
  after = acts_of (drop (suc i) steps);
  cut = cut_at steps i s h is;
  at_step = ap (λ n. n + 1) (sym (before_count steps i h));
  told = b.run.0;
  rows = rows;
  ran = b.run.2;
  in_order = b.moments;
  stops = stops_there list key steps i s rows now later last kind b stops;
}

-- ---- a play that came to its end

pub run_all : (list : List Rule) (key : List ℕ) (steps : List Step) (i : ℕ) (rows : List Row) (now : List Reading)
    (moment : ℤ) → length steps ≤ i → Before list key steps i rows now moment → IsRun list key (acts_of steps) now
run_all list key steps i rows now moment h b = record {
  told = b.run.0;
  rows = rows;
  ran = subst (λ ss. Plays false list key [] (acts_of ss) b.run.0 rows) (take_all i steps h) b.run.2;
  read = b.run.1;
}

pub follow_all : (list : List Rule) (key : List ℕ) (steps : List Step) (i : ℕ) (rows : List Row) (now : List Reading)
    (moment : ℤ) → length steps ≤ i → Before list key steps i rows now moment
    → AllFollow the_beginning (moments_of (acts_of steps))
follow_all list key steps i rows now moment h b =
    subst (λ ss. AllFollow the_beginning (moments_of (acts_of ss))) (take_all i steps h) b.moments

-- ---- by its draws

-- what the loop knows of them before a step
pub record BeforeBy {G : Type 0} (May : G → List ℕ → G → Type 0) (Error : Type 0) (first here : G) (list : List Rule)
    (key : List ℕ) (steps : List Step) (i : ℕ) (rows : List Row) (now : List Reading) (moment : ℤ) : Type 0 where
  pub drawn : List Draw
  pub fills : Fills May Error first drawn here
  pub told : List (List Reading)
  pub read : now ≡ all_told told
  pub ran : PlaysBy drawn list key [] (acts_of (take i steps)) told rows
  pub moments : AllFollow the_beginning (moments_of (acts_of (take i steps)))
  pub last : moment ≡ last_of the_beginning (moments_of (acts_of (take i steps)))

pub before_any : {G : Type 0} (May : G → List ℕ → G → Type 0) (Error : Type 0) (first here : G) (list : List Rule)
    (key : List ℕ) (steps : List Step) (i : ℕ) (rows : List Row) (now : List Reading) (moment : ℤ)
    → BeforeBy May Error first here list key steps i rows now moment → Before list key steps i rows now moment
before_any May Error first here list key steps i rows now moment b = record {
  run = (b.told, b.read, plays_any b.drawn list key [] (acts_of (take i steps)) b.told rows b.ran);
  moments = b.moments;
  last = b.last;
}

-- the step stops so, whatever the nonces
pub stops_from : (ds : List Draw) (key : List ℕ) (rows : List Row) (kind : FaultKind) (last : ℤ) (act : Act)
    (old readings : List Reading) → StopsBy ds key rows kind last act old readings
    → Stops key rows kind last act old readings
stops_from ds key rows kind last act old readings (inl h) = inl (h.0, h.1)
stops_from ds key rows kind last act old readings (inr h) =
    inr (h.0, stops_any ds key rows kind (opening_of act) (arrival_in act) act old readings h.1)

pub before_more : {G : Type 0} (May : G → List ℕ → G → Type 0) (Error : Type 0) (first here there : G)
    (list : List Rule) (key : List ℕ) (steps : List Step) (i : ℕ) (s : Step) (mid new : List Row)
    (now later : List Reading) (moment next : ℤ) → i < length steps → s ≡ get_or steps i s
    → BeforeBy May Error first here list key steps i mid now moment → (l : List Rule) → l ≡ list
    → DrawsSo May Error here (λ ds. (t : List Reading) × (later ≡ now ++ t) × StepBy ds l key mid (act_of s) t new)
    there → AllFollow moment (moments_in (act_of s)) × (next ≡ last_of moment (moments_in (act_of s)))
    → BeforeBy May Error first there list key steps (i + 1) new later next
before_more May Error first here there list key steps i s mid new now later moment next h is b l same d follow =
    let moments = follow_next steps i s moment next h is b.moments b.last follow in
    record {
      drawn = b.drawn ++ d.0;
      fills = fills_more May Error first here there b.drawn d.0 b.fills d.1;
      told = b.told ++ d.2.0 ∷ [];
      read = d.2.1 ∙ (ap (λ x. x ++ d.2.0) b.read ∙ sym (told_more b.told d.2.0));
      ran = subst (λ acts. PlaysBy (b.drawn ++ d.0) list key [] acts (b.told ++ d.2.0 ∷ []) new)
          (sym (acts_more steps i s h is))
          (steps_more b.drawn d.0 list key [] mid new (acts_of (take i steps)) b.told (act_of s) d.2.0 b.ran
          (subst (λ x. StepBy d.0 x key mid (act_of s) d.2.0 new) same d.2.2));
      moments = moments.0;
      last = moments.1;
    }

pub run_by : {G : Type 0} (May : G → List ℕ → G → Type 0) (Error : Type 0) (first here : G) (list : List Rule)
    (key : List ℕ) (steps : List Step) (i : ℕ) (rows : List Row) (now : List Reading) (moment : ℤ) → length steps ≤ i
    → BeforeBy May Error first here list key steps i rows now moment
    → DrawsSo May Error first (λ ds. IsRunBy ds list key (acts_of steps) now) here
run_by May Error first here list key steps i rows now moment h b = (
  b.drawn,
  b.fills,
  record {
    told = b.told;
    rows = rows;
    ran = subst (λ ss. PlaysBy b.drawn list key [] (acts_of ss) b.told rows) (take_all i steps h) b.ran;
    read = b.read;
  },
)

pub run_until_by : {G : Type 0} (May : G → List ℕ → G → Type 0) (Error : Type 0) (first here there : G)
    (list : List Rule) (key : List ℕ) (steps : List Step) (i : ℕ) (s : Step) (rows : List Row)
    (now later : List Reading) (last : ℤ) (kind : FaultKind) → i < length steps → s ≡ get_or steps i s
    → BeforeBy May Error first here list key steps i rows now last
    → DrawsSo May Error here (λ ds. StopsBy ds key rows kind last (act_of s) now later) there
    → DrawsSo May Error first (λ ds. IsRunUntilBy ds list key (acts_of steps) (i + 1) kind later) there
run_until_by May Error first here there list key steps i s rows now later last kind h is b d = (
  b.drawn ++ d.0,
  fills_more May Error first here there b.drawn d.0 b.fills d.1,
  record {
    before = acts_of (take i steps);
    act = act_of s;
    after = acts_of (drop (suc i) steps);
    cut = cut_at steps i s h is;
    at_step = ap (λ n. n + 1) (sym (before_count steps i h));
    told = b.told;
    rows = rows;
    done = b.drawn;
    here = d.0;
    draws = refl;
    ran = b.ran;
    in_order = b.moments;
    stops = subst (λ m. StopsBy d.0 key rows kind m (act_of s) (all_told b.told) later) b.last
        (subst (λ old. StopsBy d.0 key rows kind last (act_of s) old later) b.read d.2);
  },
)
