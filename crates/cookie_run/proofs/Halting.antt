-- The run of a script stops at a line.
use Rattle.std.proofs.Common.{◌≡◌, ◌≢◌, ◌⊎◌, ℕ, ℤ, pos, ◌*◌, ◌≤ℤ◌, true, false, List, [], ◌∷◌, ◌++◌, Option, Result}
use Rattle.std.proofs.Common.{Some, None, Ok, Err, inl, inr, sym, refl, ap, ◌∙◌, subst, append-nil, length, ◌<◌}
use Rattle.std.proofs.Common.{arith}
use Rattle.std.specs.Prelude.{is_some, is_none, nat_lt, if◌then◌else◌}
use Rattle.std.specs.Str.{bytes_eq}
use Rattle.std.proofs.lemmas.Bool.Decides.{nat_tests}
use Rattle.url.specs.Parts.{Parts}
use Rattle.std.specs.List.{AllByRecursion}
use Rattle.cookie_text.specs.Record.{Seen}
use Rattle.cookie_client.specs.declared.way.Way.{Way}
use Rattle.cookie_client.specs.declared.way.Way.TheVariants.{Plain, Host, Secure, Signed, Sealed}
use Rattle.cookie_client.specs.declared.outcome.SessionError.{SessionError}
use Rattle.cookie_client.specs.declared.outcome.SessionError.TheVariants as refusals
use Rattle.cookie.specs.KeyRing.{Ring, kept, rotated}
use Rattle.cookie_client.specs.Jar.{ClosesWith, IsRemovalRefusal}
use Rattle.cookie_run.specs.RingDrawn.{RingPlaysBy}
use Rattle.cookie_run.specs.RingPlay.{RingAct, RingCommand, RingReading, Rotates, Visits, Set, SetUntil}
use Rattle.cookie_run.specs.RingPlay.{Remove, Get, GetUntil, all_read}
use Rattle.cookie_client.specs.RingSession.{RefusesUntil}
use Rattle.cookie_client.specs.declared.ending.EndingWay.{EndingWay}
use Rattle.cookie_client.specs.declared.ending.EndingWay.TheVariants as ends
use Rattle.cookie_client.specs.Moment.{second_1971}
use Rattle.jiff.specs.Types.{DateTime}
use Rattle.jiff.specs.Words.{civil_nanos}
use Rattle.cookie_text.specs.Record.{bare, unsliced}
use Rattle.std.proofs.lemmas.Option.{same_Some}
use Rattle.cookie_run.proofs.Removals.{removal_late}
use Rattle.cookie_client.specs.Accept.{IsStopped}
use Rattle.cookie_client.specs.Ways.{Refuses, set_refusal}
use Rattle.cookie_client.specs.Steps.{Arrives, Never}
use Rattle.cookie_run.specs.Drawn.{Draw, DrawsSo}
use Rattle.cookie_run.specs.ScriptLine as spec
use Rattle.cookie_run.specs.ScriptText.{Now, Closed, Within, Reached, IsAnswered, obeyed, command_refusal}
use Rattle.cookie_run.specs.ScriptText.{IsSealedSet, most_earlier, unless_many, unless_refused, cause_of}
use Rattle.cookie_run.specs.ScriptText.{readings_text, left_open}
use Rattle.cookie_run.specs.ScriptDrawn.{LineFails, FaultDraws, IsToSeal, MemoryDraws, PrintsBy, PrintsHalfBy}
use Rattle.cookie_run.specs.ScriptDrawn.{PrintsUntilBy}
use Rattle.cookie_run.specs.Standing.{Stands, Balks, IsOpen}
use Rattle.cookie_store.specs.Rows.{Row}
use Rattle.publicsuffix.specs.Rules.{Rule}
use Rattle.cookie_run.specs.declared.script.cause.Cause.{Cause}
use Rattle.cookie_run.specs.declared.script.cause.Cause.TheVariants.{NoSession, Open, Keys, Memory}
use Rattle.cookie_run.specs.declared.script.visit.Visit.{Visit}
use Rattle.cookie_run.proofs.DrawnRuns.{draws_nil}
use Rattle.cookie_run.proofs.RingDrawnRuns.{steps_more, told_more}
use Rattle.cookie_run.proofs.ScriptEndings.{ending_refusal}
use Rattle.cookie_run.proofs.Standings.{none_or_some, reached, unnamed}

true_false : true ≡ false → ⊥
true_false e = cc

plain_other : Plain ≡ Sealed → ⊥
plain_other e = cc

host_other : Host ≡ Sealed → ⊥
host_other e = cc

secure_other : Secure ≡ Sealed → ⊥
secure_other e = cc

signed_other : Signed ≡ Sealed → ⊥
signed_other e = cc

not_none : {x : Option SessionError} (e : SessionError) → x ≡ Some e → x ≡ None → ⊥
not_none e is none = cc

-- ---- what the lines so far print

prints_at : (drawn : List Draw) (list : List Rule) (first : Ring) (start : List Row) (ring : Ring) (rows : List Row)
    (acts : List RingAct) (turned : Ring) (m : ℤ) (now : Now) (last : ℤ) (visit : Option Visit) (output : List ℕ)
    → (s : Stands drawn list first start (reached acts turned m now) ring rows last visit output)
    → (all : List (List RingReading))
    × RingPlaysBy (s.done ++ s.here) list first start (acts ++ left_open now) all ring rows
    × AllByRecursion IsAnswered (all_read all) × (output ≡ readings_text (all_read all))
prints_at drawn list first start ring rows acts turned m Closed last None output s =
    let alone : all_read s.told ++ s.front ≡ all_read s.told = ap (λ x. all_read s.told ++ x) s.is_open.0
    ∙ append-nil (all_read s.told) in
    let same : s.done ++ s.here ≡ s.done = ap (λ ds. s.done ++ ds) s.is_open.1 ∙ draws_nil s.done in (
      s.told,
      subst (λ ds. RingPlaysBy ds list first start (acts ++ []) s.told ring rows) (sym same)
          (subst (λ xs. RingPlaysBy s.done list first start xs s.told ring rows) (sym (append-nil acts)) s.plays),
      subst (AllByRecursion IsAnswered) alone s.answered,
      s.prints ∙ ap readings_text alone,
    )
prints_at drawn list first start ring rows acts turned m Closed last (Some v) output s = absurd s.is_open
prints_at drawn list first start ring rows acts turned m (Within url at cs) last None output s = absurd s.is_open
prints_at drawn list first start ring rows acts turned m (Within url at cs) last (Some v) output s =
    let o = s.is_open in (
      s.told ++ s.front ∷ [],
      steps_more s.done s.here list first ring ring start rows rows acts s.told (Visits url at cs Never) s.front s.plays
          (o.3.0, o.3.1, (o.3.2.0, o.3.2.1, (v.session, o.3.2.2, refl)), refl),
      subst (AllByRecursion IsAnswered) (sym (told_more s.told s.front)) s.answered,
      s.prints ∙ ap readings_text (sym (told_more s.told s.front)),
    )

-- what was printed is what the steps so far print, the open session lost
pub prints_all : (drawn : List Draw) (list : List Rule) (first : Ring) (start : List Row) (ring : Ring)
    (rows : List Row) (r : Reached) (last : ℤ) (visit : Option Visit) (output : List ℕ)
    → Stands drawn list first start r ring rows last visit output → PrintsBy drawn list first start r output rows
prints_all drawn list first start ring rows r last visit output s =
    let p = prints_at drawn list first start ring rows r.acts r.ring r.last r.now last visit output s in
    subst (λ ds. PrintsBy ds list first start r output rows) (sym s.draws) (
      p.0,
      subst (λ (k : Ring). RingPlaysBy (s.done ++ s.here) list first start (r.acts ++ left_open r.now) p.0 k rows)
          (sym s.turned) p.1,
      p.2,
      p.3,
    )

-- a line has a fault of its own, and the rows stay
pub own_fault : (drawn : List Draw) (list : List Rule) (first : Ring) (start : List Row) (ring : Ring) (rows : List Row)
    (r : Reached) (last : ℤ)
    (visit : Option Visit) (output : List ℕ) (led : Result Reached Cause) (cause : Cause)
    → Stands drawn list first start r ring rows last visit output → led ≡ Err cause
    → (FaultDraws [] r led cause × PrintsBy drawn list first start r output rows)
    ⊎ ((cause ≡ Memory) × MemoryDraws [] r led × PrintsUntilBy drawn list first start r led output rows)
own_fault drawn list first start ring rows r last visit output led cause s e =
    inl (inl (e, refl), prints_all drawn list first start ring rows r last visit output s)

-- ---- faults

closed : (here : List Draw) (ring : Ring) (rows : List Row) (now : Now) (front : List RingReading)
    → IsOpen here ring rows now None front → now ≡ Closed
closed here ring rows Closed front h = refl
closed here ring rows (Within u a cs) front h = absurd h

pub none_open : (drawn : List Draw) (list : List Rule) (first : Ring) (start : List Row) (ring : Ring) (rows : List Row)
    (r : Reached) (last : ℤ)
    (visit : Option Visit) (output : List ℕ) → Stands drawn list first start r ring rows last visit output
    → visit ≡ None
    → r.now ≡ Closed
none_open drawn list first start ring rows r last visit output s e = closed s.here ring rows r.now s.front
    (subst (λ o. IsOpen s.here ring rows r.now o s.front) e s.is_open)

pub no_command : (r : Reached) (c : RingCommand) → r.now ≡ Closed
    → obeyed r.acts r.ring r.last r.now (spec.Commands c) ≡ Err NoSession
no_command r c e = ap (λ now. obeyed r.acts r.ring r.last now (spec.Commands c)) e

pub closed_command : (drawn : List Draw) (list : List Rule) (first : Ring) (start : List Row) (ring : Ring)
    (rows : List Row) (r : Reached)
    (last : ℤ) (visit : Option Visit) (output : List ℕ) (c : RingCommand)
    → Stands drawn list first start r ring rows last visit output → visit ≡ None
    → LineFails drawn [] list first start r (obeyed r.acts r.ring r.last r.now (spec.Commands c)) NoSession output rows
closed_command drawn list first start ring rows r last visit output c s none =
    own_fault drawn list first start ring rows r last visit output (obeyed r.acts r.ring r.last r.now (spec.Commands c))
    NoSession s
    (no_command r c (none_open drawn list first start ring rows r last visit output s none))

-- a session is open
pub data IsWithin (now : Now) : Type 0 where
  Is : (url : Parts) (at : DateTime) (commands : List RingCommand) → now ≡ Within url at commands → IsWithin now

within_at : (here : List Draw) (ring : Ring) (rows : List Row) (now : Now) (visit : Option Visit)
    (front : List RingReading) → IsOpen here ring rows now visit front → is_none visit ≡ false → IsWithin now
within_at here ring rows now None front h some = absurd (true_false some)
within_at here ring rows Closed (Some v) front h some = absurd h
within_at here ring rows (Within u a cs) (Some v) front h some = Is u a cs refl

pub some_open : (drawn : List Draw) (list : List Rule) (first : Ring) (start : List Row) (ring : Ring) (rows : List Row)
    (r : Reached) (last : ℤ)
    (visit : Option Visit) (output : List ℕ) → Stands drawn list first start r ring rows last visit output
    → is_none visit ≡ false → IsWithin r.now
some_open drawn list first start ring rows r last visit output s some =
    within_at s.here ring rows r.now visit s.front s.is_open some

pub open_open : (r : Reached) (url : Parts) (at : DateTime) → IsWithin r.now
    → obeyed r.acts r.ring r.last r.now (spec.Opens url at) ≡ Err Open
open_open r url at (Is u a cs e) = ap (λ now. obeyed r.acts r.ring r.last now (spec.Opens url at)) e

pub open_receive : (r : Reached) (url : Parts) (answer : List (List ℕ)) (at : ℤ) → IsWithin r.now
    → obeyed r.acts r.ring r.last r.now (spec.Receives url answer at) ≡ Err Open
open_receive r url answer at (Is u a cs e) = ap (λ now. obeyed r.acts r.ring r.last now (spec.Receives url answer at)) e

pub open_header : (r : Reached) (url : Parts) (at : ℤ) → IsWithin r.now
    → obeyed r.acts r.ring r.last r.now (spec.Heads url at) ≡ Err Open
open_header r url at (Is u a cs e) = ap (λ now. obeyed r.acts r.ring r.last now (spec.Heads url at)) e

pub open_restart : (r : Reached) (at : ℤ) → IsWithin r.now
    → obeyed r.acts r.ring r.last r.now (spec.Restarts at) ≡ Err Open
open_restart r at (Is u a cs e) = ap (λ now. obeyed r.acts r.ring r.last now (spec.Restarts at)) e

pub open_rotate : (r : Reached) (key : List ℕ) (at : DateTime) (keep_until : Option DateTime) → IsWithin r.now
    → obeyed r.acts r.ring r.last r.now (spec.Rotates key at keep_until) ≡ Err Open
open_rotate r key at keep_until (Is u a cs e) =
    ap (λ now. obeyed r.acts r.ring r.last now (spec.Rotates key at keep_until)) e

pub open_already : (drawn : List Draw) (list : List Rule) (first : Ring) (start : List Row) (ring : Ring)
    (rows : List Row) (r : Reached)
    (last : ℤ) (visit : Option Visit) (output : List ℕ) (line : spec.Line)
    → Stands drawn list first start r ring rows last visit output → true ≡ is_some visit
    → (IsWithin r.now → obeyed r.acts r.ring r.last r.now line ≡ Err Open)
    → LineFails drawn [] list first start r (obeyed r.acts r.ring r.last r.now line) Open output rows
open_already drawn list first start ring rows r last visit output line s some fault =
    own_fault drawn list first start ring rows r last visit output (obeyed r.acts r.ring r.last r.now line) Open s
    (fault (some_open drawn list first start ring rows r last visit output s (none_or_some visit some)))

pub refused_command : (r : Reached) (c : RingCommand) (e : SessionError) → IsWithin r.now → command_refusal c ≡ Some e
    → obeyed r.acts r.ring r.last r.now (spec.Commands c) ≡ Err (cause_of e)
refused_command r c e (Is u a cs is) refused =
    ap (λ now. obeyed r.acts r.ring r.last now (spec.Commands c)) is
    ∙ ap (λ o. unless_refused o (reached r.acts r.ring r.last (Within u a (cs ++ c ∷ [])))) refused

-- ---- a command that the session refused

-- a command that fails has this cause, and draws so
abbrev pub Fails : List Draw → RingCommand → SessionError → Type 0
Fails drawn c error =
    ((command_refusal c ≡ Some error) × (drawn ≡ []))
    ⊎ (((error ≡ refusals.Rng) × (drawn ≡ None ∷ []) × IsSealedSet c × (command_refusal c ≡ None))
    ⊎ ((error ≡ refusals.OutOfMemory) × ((drawn ≡ []) ⊎ ((nonce : List ℕ) × (drawn ≡ Some nonce ∷ [])
    × IsSealedSet c × (command_refusal c ≡ None)))))

refused_draws : {G : Type 0} (May : G → List ℕ → G → Type 0) (Error : Type 0) (g h : G) (way : Way) (c : Seen)
    (error : SessionError) → Refuses way c.cookie error → (error ≡ refusals.Rng → Error)
    → ((way ≢ Sealed) ⊎ (set_refusal way c.cookie ≢ None) → h ≡ g)
    → DrawsSo May Error g (λ ds. Fails ds (Set way c) error) h
refused_draws May Error g h way c refusals.EmptyName is failed kept =
    ([], kept (inr (not_none refusals.EmptyName is)), inl (is, refl))
refused_draws May Error g h way c refusals.Year is failed kept =
    ([], kept (inr (not_none refusals.Year is)), inl (is, refl))
refused_draws May Error g h way c refusals.TooLong is failed kept =
    ([], kept (inr (not_none refusals.TooLong is)), inl (is, refl))
refused_draws May Error g h way c refusals.Rng is failed kept =
    (None ∷ [], (failed refl, (h, refl)), inr (inl (refl, refl, is.0, is.1)))
refused_draws May Error g h way c refusals.OutOfMemory is failed kept = absurd is

memory_draws : {G : Type 0} (May : G → List ℕ → G → Type 0) (Error : Type 0) (g h : G) (way : Way) (c : Seen)
    → set_refusal way c.cookie ≡ None → ((way ≢ Sealed) ⊎ (set_refusal way c.cookie ≢ None) → h ≡ g)
    → (way ≡ Sealed → (nonce : List ℕ) × (length nonce ≡ 12) × May g nonce h)
    → DrawsSo May Error g (λ ds. Fails ds (Set way c) refusals.OutOfMemory) h
memory_draws May Error g h Plain c none kept asked = ([], kept (inl plain_other), inr (inr (refl, inl refl)))
memory_draws May Error g h Host c none kept asked = ([], kept (inl host_other), inr (inr (refl, inl refl)))
memory_draws May Error g h Secure c none kept asked = ([], kept (inl secure_other), inr (inr (refl, inl refl)))
memory_draws May Error g h Signed c none kept asked = ([], kept (inl signed_other), inr (inr (refl, inl refl)))
memory_draws May Error g h Sealed c none kept asked =
    let a = asked refl in
    (Some a.0 ∷ [], (h, a.1, a.2, refl), inr (inr (refl, inr (a.0, refl, refl, none))))

fails_draws : {G : Type 0} (May : G → List ℕ → G → Type 0) (Error : Type 0) (g h : G) (way : Way) (c : Seen)
    (error : SessionError) → Refuses way c.cookie error
    ⊎ ((error ≡ refusals.OutOfMemory) × (set_refusal way c.cookie ≡ None)) → (error ≡ refusals.Rng → Error)
    → ((way ≢ Sealed) ⊎ (set_refusal way c.cookie ≢ None) → h ≡ g)
    → (way ≡ Sealed → error ≡ refusals.OutOfMemory → (nonce : List ℕ) × (length nonce ≡ 12) × May g nonce h)
    → DrawsSo May Error g (λ ds. Fails ds (Set way c) error) h
fails_draws May Error g h way c error (inl refused) failed kept asked =
    refused_draws May Error g h way c error refused failed kept
fails_draws May Error g h way c error (inr memory) failed kept asked =
    subst (λ e. DrawsSo May Error g (λ ds. Fails ds (Set way c) e) h) (sym memory.0)
    (memory_draws May Error g h way c memory.1 kept (λ sealed. asked sealed memory.0))

-- it is to be sealed
to_seal : (r : Reached) (c : RingCommand) → IsWithin r.now → IsSealedSet c → command_refusal c ≡ None
    → IsToSeal r (obeyed r.acts r.ring r.last r.now (spec.Commands c))
to_seal r c (Is u a cs is) sealed none =
    let next : Reached = reached r.acts r.ring r.last (Within u a (cs ++ c ∷ [])) in (
      next,
      ap (λ now. obeyed r.acts r.ring r.last now (spec.Commands c)) is ∙ ap (λ o. unless_refused o next) none,
      (u, a, cs, c, sealed, is, refl),
    )

fails_so : (drawn here : List Draw) (list : List Rule) (first : Ring) (start : List Row) (rows : List Row) (r : Reached)
    (output : List ℕ) (c : RingCommand) (error : SessionError) → IsWithin r.now
    → PrintsBy drawn list first start r output rows → Fails here c error
    → LineFails drawn here list first start r (obeyed r.acts r.ring r.last r.now (spec.Commands c)) (cause_of error)
    output rows
fails_so drawn here list first start rows r output c error within prints (inl (refused, none)) =
    inl (inl (refused_command r c error within refused, none), prints)
fails_so drawn here list first start rows r output c error within prints (inr (inl (e, draw, sealed, none))) =
    inl (inr (ap cause_of e, draw, to_seal r c within sealed none), prints)
fails_so drawn here list first start rows r output c error within prints (inr (inr (e, inl none))) =
    inr (ap cause_of e, inl none, inl prints)
fails_so drawn here list first start rows r output c error within prints
    (inr (inr (e, inr (nonce, draw, sealed, none)))) =
    inr (ap cause_of e, inr (nonce, draw, to_seal r c within sealed none), inl prints)

-- a command that fails halts the run
pub fails_halt : {G : Type 0} (May : G → List ℕ → G → Type 0) (Error : Type 0) (g h : G) (visit : Option Visit)
    (c : RingCommand) (error : SessionError) (cause : Cause) → is_none visit ≡ false
    → DrawsSo May Error g (λ ds. Fails ds c error) h → cause ≡ cause_of error
    → DrawsSo May Error g (λ ds. (list : List Rule) (ring : Ring) (rows : List Row)
    (last : ℤ) → Balks ds list (spec.Commands c) ring rows last visit cause rows) h
fails_halt May Error g h visit c error cause some d is = (
  d.0,
  d.1,
  λ list ring rows last first start r output drawn s.
      subst (λ e. LineFails drawn d.0 list first start r (obeyed r.acts r.ring r.last r.now (spec.Commands c)) e output
      rows) (sym is)
      (fails_so drawn d.0 list first start rows r output c error
      (some_open drawn list first start ring rows r last visit output s some)
      (prints_all drawn list first start ring rows r last visit output s) d.2),
)

pub set_halts : {G : Type 0} (May : G → List ℕ → G → Type 0) (Error : Type 0) (g h : G) (visit : Option Visit)
    (way : Way) (c : Seen) (error : SessionError) (cause : Cause) → is_none visit ≡ false
    → Refuses way c.cookie error ⊎ ((error ≡ refusals.OutOfMemory) × (set_refusal way c.cookie ≡ None))
    → (error ≡ refusals.Rng → Error) → ((way ≢ Sealed) ⊎ (set_refusal way c.cookie ≢ None) → h ≡ g)
    → (way ≡ Sealed → error ≡ refusals.OutOfMemory → (nonce : List ℕ) × (length nonce ≡ 12) × May g nonce h)
    → cause ≡ cause_of error → DrawsSo May Error g (λ ds. (list : List Rule) (ring : Ring) (rows : List Row)
    (last : ℤ) → Balks ds list (spec.Commands (Set way c)) ring rows last visit cause rows) h
set_halts May Error g h visit way c error cause some why failed kept asked is =
    fails_halt May Error g h visit (Set way c) error cause some
    (fails_draws May Error g h way c error why failed kept asked) is

-- ---- a set of a value until a moment

-- why such a set fails, by the moment that the line names
abbrev UntilError : EndingWay → Seen → DateTime → SessionError → Type 0
UntilError way c until refusals.EmptyName = command_refusal (SetUntil way c until) ≡ Some refusals.EmptyName
UntilError way c until refusals.Year = command_refusal (SetUntil way c until) ≡ Some refusals.Year
UntilError way c until refusals.TooLong = command_refusal (SetUntil way c until) ≡ Some refusals.TooLong
UntilError way c until refusals.Rng = (way ≡ ends.Sealed) × (command_refusal (SetUntil way c until) ≡ None)
UntilError way c until refusals.OutOfMemory = command_refusal (SetUntil way c until) ≡ None

by_record : (way : EndingWay) (c : Seen) (until : DateTime) (error : SessionError) → RefusesUntil way c until error
    → UntilError way c until error
by_record way c until refusals.EmptyName h = sym (ending_refusal way c h.0 until h.1) ∙ h.2
by_record way c until refusals.Year h = sym (ending_refusal way c h.0 until h.1) ∙ h.2
by_record way c until refusals.TooLong h = sym (ending_refusal way c h.0 until h.1) ∙ h.2
by_record way c until refusals.Rng h = (h.2.0, sym (ending_refusal way c h.0 until h.1) ∙ h.2.1)
by_record way c until refusals.OutOfMemory h = sym (ending_refusal way c h.0 until h.1) ∙ h.2

until_draws : {G : Type 0} (May : G → List ℕ → G → Type 0) (Error : Type 0) (g h : G) (way : EndingWay) (c : Seen)
    (until : DateTime) (error : SessionError) → UntilError way c until error → (error ≡ refusals.Rng → Error)
    → (((way ≡ ends.Signed) ⊎ (error ≡ refusals.EmptyName)) ⊎ ((error ≡ refusals.Year) ⊎ (error ≡ refusals.TooLong))
    → h ≡ g)
    → (error ≡ refusals.OutOfMemory → (h ≡ g) ⊎ ((nonce : List ℕ) × (length nonce ≡ 12) × May g nonce h))
    → DrawsSo May Error g (λ ds. Fails ds (SetUntil way c until) error) h
until_draws May Error g h way c until refusals.EmptyName is failed kept asked =
    ([], kept (inl (inr refl)), inl (is, refl))
until_draws May Error g h way c until refusals.Year is failed kept asked =
    ([], kept (inr (inl refl)), inl (is, refl))
until_draws May Error g h way c until refusals.TooLong is failed kept asked =
    ([], kept (inr (inr refl)), inl (is, refl))
until_draws May Error g h way c until refusals.Rng is failed kept asked =
    (None ∷ [], (failed refl, (h, refl)), inr (inl (refl, refl, is.0, is.1)))
until_draws May Error g h ends.Signed c until refusals.OutOfMemory is failed kept asked =
    ([], kept (inl (inl refl)), inr (inr (refl, inl refl)))
until_draws May Error g h ends.Sealed c until refusals.OutOfMemory is failed kept asked = by_fill (asked refl)
  where
    by_fill : (h ≡ g) ⊎ ((nonce : List ℕ) × (length nonce ≡ 12) × May g nonce h)
        → DrawsSo May Error g (λ ds. Fails ds (SetUntil ends.Sealed c until) refusals.OutOfMemory) h
    by_fill (inl same) = ([], same, inr (inr (refl, inl refl)))
    by_fill (inr a) = (Some a.0 ∷ [], (h, a.1, a.2, refl), inr (inr (refl, inr (a.0, refl, refl, is))))

pub until_halts : {G : Type 0} (May : G → List ℕ → G → Type 0) (Error : Type 0) (g h : G) (visit : Option Visit)
    (way : EndingWay) (c : Seen) (until : DateTime) (error : SessionError) (cause : Cause) → is_none visit ≡ false
    → RefusesUntil way c until error → (error ≡ refusals.Rng → Error)
    → (((way ≡ ends.Signed) ⊎ (error ≡ refusals.EmptyName)) ⊎ ((error ≡ refusals.Year) ⊎ (error ≡ refusals.TooLong))
    → h ≡ g)
    → (error ≡ refusals.OutOfMemory → (h ≡ g) ⊎ ((nonce : List ℕ) × (length nonce ≡ 12) × May g nonce h))
    → cause ≡ cause_of error → DrawsSo May Error g (λ ds. (list : List Rule) (ring : Ring) (rows : List Row)
    (last : ℤ) → Balks ds list (spec.Commands (SetUntil way c until)) ring rows last visit cause rows) h
until_halts May Error g h visit way c until error cause some why failed kept asked is =
    fails_halt May Error g h visit (SetUntil way c until) error cause some
    (until_draws May Error g h way c until error (by_record way c until error why) failed kept asked) is

-- ---- a command that reads

-- a get of an empty name is refused, or memory was
name_halts : (list : List Rule) (ring : Ring) (error : SessionError) (cause : Cause) (rows : List Row) (last : ℤ)
    (visit : Option Visit) (c : RingCommand) (n : List ℕ) → is_none visit ≡ false
    → command_refusal c ≡ (if bytes_eq n [] then Some refusals.EmptyName else None)
    → ((error ≡ refusals.EmptyName) × (n ≡ [])) ⊎ ((error ≡ refusals.OutOfMemory) × (n ≢ [])) → cause ≡ cause_of error
    → Balks [] list (spec.Commands c) ring rows last visit cause rows
name_halts list ring error cause rows last visit c n some tests (inl empty) is first start r output drawn s =
    let refused : command_refusal c ≡ Some refusals.EmptyName = tests ∙ ap
    (λ t. if t then Some refusals.EmptyName else None) (unnamed n empty.1) in
    let fault = refused_command r c refusals.EmptyName
    (some_open drawn list first start ring rows r last visit output s some) refused in
    own_fault drawn list first start ring rows r last visit output _ cause s
    (fault ∙ ap Err (ap cause_of (sym empty.0) ∙ sym is))
name_halts list ring error cause rows last visit c n some tests (inr memory) is first start r output drawn s =
    inr (is ∙ ap cause_of memory.0, inl refl, inl (prints_all drawn list first start ring rows r last visit output s))

pub get_halts : (list : List Rule) (ring : Ring) (error : SessionError) (cause : Cause) (rows : List Row) (last : ℤ)
    (visit : Option Visit) (way : Way) (n : List ℕ) → is_none visit ≡ false
    → ((error ≡ refusals.EmptyName) × (n ≡ [])) ⊎ ((error ≡ refusals.OutOfMemory) × (n ≢ [])) → cause ≡ cause_of error
    → Balks [] list (spec.Commands (Get way n)) ring rows last visit cause rows
get_halts list ring error cause rows last visit way n some why is =
    name_halts list ring error cause rows last visit (Get way n) n some refl why is

pub get_until_halts : (list : List Rule) (ring : Ring) (error : SessionError) (cause : Cause) (rows : List Row)
    (last : ℤ) (visit : Option Visit) (way : EndingWay) (n : List ℕ) → is_none visit ≡ false
    → ((error ≡ refusals.EmptyName) × (n ≡ [])) ⊎ ((error ≡ refusals.OutOfMemory) × (n ≢ [])) → cause ≡ cause_of error
    → Balks [] list (spec.Commands (GetUntil way n)) ring rows last visit cause rows
get_until_halts list ring error cause rows last visit way n some why is =
    name_halts list ring error cause rows last visit (GetUntil way n) n some refl why is

-- a removal of 1971 or later is refused for its name alone
unnamed_removal : (name : List ℕ) (now : DateTime) (error : SessionError)
    → pos (second_1971 * 1_000_000_000) ≤ℤ civil_nanos now → IsRemovalRefusal name now (Some error)
    → (name ≡ []) × (refusals.EmptyName ≡ error)
unnamed_removal [] now error late refused = (refl, same_Some _ _ (sym refused.2))
unnamed_removal (b ∷ bs) now error late refused =
    absurd (some_none error (refused.2 ∙ ap (λ t. if t then Some refusals.Year else None)
    (removal_late now (unsliced (bare (b ∷ bs) [])) refused.0 late refused.1)))
  where
    some_none : (error : SessionError) → Some error ≡ None → ⊥
    some_none error e = cc

pub remove_halts : (list : List Rule) (ring : Ring) (error : SessionError) (cause : Cause) (rows : List Row) (last : ℤ)
    (visit : Option Visit) (way : Way) (name : List ℕ) (now : DateTime) → is_none visit ≡ false
    → pos (second_1971 * 1_000_000_000) ≤ℤ civil_nanos now
    → IsRemovalRefusal name now (Some error) ⊎ ((error ≡ refusals.OutOfMemory) × IsRemovalRefusal name now None)
    → cause ≡ cause_of error
    → Balks [] list (spec.Commands (Remove way name)) ring rows last visit cause rows
remove_halts list ring error cause rows last visit way name now some late (inl refused) is first start r output drawn s
    =
    let empty = unnamed_removal name now error late refused in
    let fault = refused_command r (Remove way name) refusals.EmptyName
    (some_open drawn list first start ring rows r last visit output s some)
    (ap (λ t. if t then Some refusals.EmptyName else None) (unnamed name empty.0)) in
    own_fault drawn list first start ring rows r last visit output _ cause s (fault ∙ ap Err (ap cause_of empty.1 ∙ sym
    is))
remove_halts list ring error cause rows last visit way name now some late (inr memory) is first start r output drawn s =
    inr (is ∙ ap cause_of memory.0, inl refl, inl (prints_all drawn list first start ring rows r last visit output s))

-- ---- memory

-- the rows stay, where memory was refused before a line was taken
pub no_memory : (drawn : List Draw) (list : List Rule) (first : Ring) (start : List Row) (ring : Ring) (rows : List Row)
    (r : Reached) (last : ℤ)
    (visit : Option Visit) (output : List ℕ) (led : Result Reached Cause) (cause : Cause)
    → Stands drawn list first start r ring rows last visit output → cause ≡ Memory
    → (FaultDraws [] r led cause × PrintsBy drawn list first start r output rows)
    ⊎ ((cause ≡ Memory) × MemoryDraws [] r led × PrintsUntilBy drawn list first start r led output rows)
no_memory drawn list first start ring rows r last visit output led cause s is =
    inr (is, inl refl, inl (prints_all drawn list first start ring rows r last visit output s))

half_deliver_at : (drawn : List Draw) (list : List Rule) (first : Ring) (start : List Row) (ring : Ring)
    (rows new : List Row) (acts : List RingAct) (turned : Ring) (m : ℤ) (now : Now) (last : ℤ) (v : Visit)
    (answer : List (List ℕ)) (output : List ℕ) (n : ℕ) (at : ℤ)
    → Stands drawn list first start (reached acts turned m now) ring rows last (Some v) output
    → ClosesWith v.session.jar answer → IsStopped list rows v.url at answer n new
    → (next : Reached) × (act : RingAct) × (obeyed acts turned m now (spec.Delivers at) ≡ Ok next)
    × (next.acts ≡ acts ++ act ∷ []) × PrintsHalfBy drawn list first start acts ring act output new
half_deliver_at drawn list first start ring rows new acts turned m Closed last v answer output n at s closes stopped =
    absurd s.is_open
half_deliver_at drawn list first start ring rows new acts turned m (Within url a cs) last v answer output n at s closes
    stopped =
    let o = s.is_open in
    let taken = subst (λ x. IsStopped list rows url at x n new) closes.printed
    (subst (λ u. IsStopped list rows u at answer n new) o.0 stopped) in (
      reached (acts ++ Visits url a cs (Arrives at) ∷ []) turned at Closed,
      Visits url a cs (Arrives at),
      refl,
      refl,
      (
        s.told,
        rows,
        s.front,
        s.done,
        s.here,
        s.draws,
        s.plays,
        (o.3.0, o.3.1, (o.3.2.0, o.3.2.1, (v.session, o.3.2.2, (closes.cookies, closes.lists, (n, taken))))),
        s.answered,
        s.prints,
      ),
    )

-- the ring of the code is that of the lines
by_ring : (drawn : List Draw) (list : List Rule) (first : Ring) (start : List Row) (ring : Ring) (new : List Row)
    (r : Reached) (led : Result Reached Cause) (output : List ℕ) → r.ring ≡ ring
    → (next : Reached) × (act : RingAct) × (led ≡ Ok next) × (next.acts ≡ r.acts ++ act ∷ [])
    × PrintsHalfBy drawn list first start r.acts ring act output new
    → PrintsUntilBy drawn list first start r led output new
by_ring drawn list first start ring new r led output same h = inr (
  h.0,
  h.1,
  h.2,
  h.3,
  subst (λ (k : Ring). PrintsHalfBy drawn list first start r.acts k h.1 output new) (sym same) h.4,
)

pub half_deliver : (drawn : List Draw) (list : List Rule) (first : Ring) (start : List Row) (ring : Ring)
    (rows new : List Row) (r : Reached) (last : ℤ) (visit : Option Visit) (v : Visit) (answer : List (List ℕ))
    (output : List ℕ) (n : ℕ) (at : ℤ) → Stands drawn list first start r ring rows last visit output
    → visit ≡ Some v → ClosesWith v.session.jar answer → IsStopped list rows v.url at answer n new
    → LineFails drawn [] list first start r (obeyed r.acts r.ring r.last r.now (spec.Delivers at)) Memory output new
half_deliver drawn list first start ring rows new r last visit v answer output n at s is closes stopped = inr (
  refl,
  inl refl,
  by_ring drawn list first start ring new r (obeyed r.acts r.ring r.last r.now (spec.Delivers at)) output s.turned
      (half_deliver_at drawn list first start ring rows new r.acts r.ring r.last r.now last v answer output n at
      (subst (λ o. Stands drawn list first start r ring rows last o output) is s) closes stopped),
)

-- ---- a rotation

shut : (r : Reached) (now : Now) → r.now ≡ now → (visit : Option Visit) → is_some visit ≡ false → (here : List Draw)
    (ring : Ring) (rows : List Row) (front : List RingReading) → IsOpen here ring rows now visit front
    → r.now ≡ Closed
shut r Closed e visit none here ring rows front h = e
shut r (Within u a cs) e None none here ring rows front h = absurd h
shut r (Within u a cs) e (Some v) none here ring rows front h = absurd (true_false none)

many : (n : ℕ) → 16 < n → nat_lt most_earlier n ≡ true
many n h = grind (arith, nat_tests)

-- over 16 earlier keys would be left
pub keys_halt : (list : List Rule) (ring : Ring) (rows : List Row) (last : ℤ) (visit : Option Visit) (key : List ℕ)
    (at : DateTime) (keep_until : Option DateTime) (cause : Cause) → is_some visit ≡ false
    → 16 < length (kept at keep_until ring) → cause ≡ Keys
    → Balks [] list (spec.Rotates key at keep_until) ring rows last visit cause rows
keys_halt list ring rows last visit key at keep_until cause none over is first start r output drawn s =
    let now : r.now ≡ Closed = shut r r.now refl visit none s.here ring rows s.front s.is_open in
    let crowded : nat_lt most_earlier (length (kept at keep_until r.ring)) ≡ true =
    many (length (kept at keep_until r.ring))
    (subst (λ (k : Ring). 16 < length (kept at keep_until k)) (sym s.turned) over) in
    let next : Reached = reached (r.acts ++ Rotates key at keep_until ∷ []) (rotated key at keep_until r.ring)
    (civil_nanos at) Closed in
    own_fault drawn list first start ring rows r last visit output
    (obeyed r.acts r.ring r.last r.now (spec.Rotates key at keep_until)) cause s
    (ap (λ n. obeyed r.acts r.ring r.last n (spec.Rotates key at keep_until)) now
    ∙ ap (λ t. unless_many t next) crowded
    ∙ ap Err (sym is))
