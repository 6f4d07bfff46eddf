-- The run of a script with what its generator was asked for: one fill of twelve bytes for each set that is sealed, in
-- their order, and its bytes are the nonce of the sealing (own: docs/DEFINITIONS.md). `Runs` and `LeavesFront` say the
-- same whatever the nonces.
use Rattle.std.specs.Prelude.{ℕ, ℤ, ◌+◌, List, [], ◌∷◌, ◌++◌, length, Option, Some, None, Result, Ok, Err, ◌≡◌, ◌⊎◌}
use Rattle.std.specs.List.{AllByRecursion}
use Rattle.std.specs.Str.Lines.{lines}
use Rattle.std.specs.Io.KnownBytes.{Appends}
use Rattle.cookie_text.specs.Record.{Seen}
use Rattle.jiff.specs.Words.{civil_nanos}
use Rattle.cookie.specs.ByName.{Lists}
use Rattle.cookie.specs.Jar.{delta, under_names}
use Rattle.cookie.specs.KeyRing.{Ring}
use Rattle.publicsuffix.specs.Rules.{Rule}
use Rattle.cookie_store.specs.Rows.{Row}
use Rattle.cookie_client.specs.Steps.{Arrives, Never}
use Rattle.cookie_run.specs.Drawn.{Draw}
use Rattle.cookie_client.specs.Header.{IsHeader}
use Rattle.cookie_client.specs.Jar.{lines_of}
use Rattle.cookie_run.specs.RingDrawn.{RingCommandsDraw, RingPlaysBy}
use Rattle.cookie_run.specs.RingPlay.{RingAct, RingReading, Visits, Answers, Asks, Restarts, Rotates, all_read}
use Rattle.cookie_client.specs.RingSession.{IsOpenedOn, Ringed}
use Rattle.cookie_run.specs.ScriptText.{Reached, begun, LeadsTo, after_line, AddsSealed, IsAnswered, readings_text}
use Rattle.cookie_run.specs.ScriptText.{all_acts, fault_text, TakesFront}
use Rattle.cookie_run.specs.declared.script.cause.Cause.{Cause}
use Rattle.cookie_run.specs.declared.script.cause.Cause.TheVariants.{Rng, Memory}
use Rattle.cookie_run.specs.declared.script.ended.Ended.{Ended}
use Rattle.cookie_run.specs.declared.script.ended.Ended.TheVariants.{Whole, Faulty}
use Rattle.cookie_run.specs.declared.script.ended.RunError.{RunError}

-- ---- what is printed and left

-- the steps, begun on this ring and played by these draws, print this and leave those rows
abbrev pub PrintsBy : List Draw → List Rule → Ring → List Row → Reached → List ℕ → List Row → Type 0
PrintsBy drawn list ring rows r output new = (told : List (List RingReading))
    × RingPlaysBy drawn list ring rows (all_acts r) told r.ring new × AllByRecursion IsAnswered (all_read told)
    × (output ≡ readings_text (all_read told))

-- the step reads so by these draws, and its answer is taken up to a line
abbrev pub HalfStepBy : List Draw → List Rule → Ring → List Row → RingAct → List RingReading → List Row → Type 0
HalfStepBy drawn list ring rows (Visits url at commands (Arrives moment)) told new =
    (header : List ℕ) × IsHeader rows url (civil_nanos at) header
    × ((opened : Ringed) × IsOpenedOn ring at header opened × ((session : Ringed)
    × RingCommandsDraw drawn opened commands told session
    × ((cookies : List Seen) × Lists (under_names cookies) (delta session.jar)
    × TakesFront list rows url moment (lines_of cookies) new)))
HalfStepBy drawn list ring rows (Visits url at commands Never) told new = ⊥
HalfStepBy drawn list ring rows (Answers url answer at) told new =
    (told ≡ []) × TakesFront list rows url at answer new × (drawn ≡ [])
HalfStepBy drawn list ring rows (Asks url at) told new = ⊥
HalfStepBy drawn list ring rows (Restarts at) told new = ⊥
HalfStepBy drawn list ring rows (Rotates key at keep_until) told new = ⊥

-- the steps, which leave the first ring turned so, and behind them one whose answer is taken up to a line, with their
-- draws in that order
abbrev pub PrintsHalfBy : List Draw → List Rule → Ring → List Row → List RingAct → Ring → RingAct → List ℕ
    → List Row → Type 0
PrintsHalfBy drawn list ring rows acts turned act output new =
    (told : List (List RingReading)) × (mid : List Row) × (more : List RingReading) × (done : List Draw)
    × (here : List Draw) × (drawn ≡ done ++ here) × RingPlaysBy done list ring rows acts told turned mid
    × HalfStepBy here list turned mid act more new × AllByRecursion IsAnswered (all_read told ++ more)
    × (output ≡ readings_text (all_read told ++ more))

-- a line that isn't done: what the lines before it print and leave, or the step that it ends is half taken
abbrev pub PrintsUntilBy : List Draw → List Rule → Ring → List Row → Reached → Result Reached Cause → List ℕ
    → List Row → Type 0
PrintsUntilBy drawn list ring rows r led output new = PrintsBy drawn list ring rows r output new
    ⊎ ((next : Reached) × (act : RingAct) × (led ≡ Ok next) × (next.acts ≡ r.acts ++ act ∷ [])
    × PrintsHalfBy drawn list ring rows r.acts r.ring act output new)

-- ---- a line that isn't done

-- it is a set that has to be sealed, and nothing but the generator stands against it
abbrev pub IsToSeal : Reached → Result Reached Cause → Type 0
IsToSeal r led = (next : Reached) × (led ≡ Ok next) × AddsSealed r next

-- it has its own fault and drew none, or it is to be sealed and its fill failed
abbrev pub FaultDraws : List Draw → Reached → Result Reached Cause → Cause → Type 0
FaultDraws drawn r led cause =
    ((led ≡ Err cause) × (drawn ≡ [])) ⊎ ((cause ≡ Rng) × (drawn ≡ None ∷ []) × IsToSeal r led)

-- memory was refused in it: it drew none, or it is to be sealed and memory was refused behind its fill
abbrev pub MemoryDraws : List Draw → Reached → Result Reached Cause → Type 0
MemoryDraws drawn r led = (drawn ≡ []) ⊎ ((nonce : List ℕ) × (drawn ≡ Some nonce ∷ []) × IsToSeal r led)

-- for this cause, with what it drew itself; the lines before it print this and leave those rows, by their own draws
abbrev pub LineFails : List Draw → List Draw → List Rule → Ring → List Row → Reached → Result Reached Cause → Cause
    → List ℕ → List Row → Type 0
LineFails done here list ring rows r led cause output new =
    (FaultDraws here r led cause × PrintsBy done list ring rows r output new)
    ⊎ ((cause ≡ Memory) × MemoryDraws here r led × PrintsUntilBy done list ring rows r led output new)

-- the next of these lines
abbrev pub NextFails : List Draw → List Draw → List Rule → Ring → List Row → Reached → List (List ℕ) → Cause
    → List ℕ → List Row → Type 0
NextFails done here list ring rows r [] cause output new = ⊥
NextFails done here list ring rows r (line ∷ later) cause output new =
    LineFails done here list ring rows r (after_line r line) cause output new

-- ---- a whole script

-- Each line is done; or line n isn't, counted from 1, and its fault is the last that is printed; or the run failed
-- before a line, or in one, and what was written isn't said.
abbrev pub EndsBy : List Draw → List Draw → List Rule → Ring → List Row → Reached → List (List ℕ) → List (List ℕ)
    → Option (List ℕ) → Option (List ℕ) → List Row → Result Ended RunError → Type 0
EndsBy done here list ring rows r before after old written new (Ok Whole) = (after ≡ []) × (here ≡ [])
    × ((output : List ℕ) × PrintsBy done list ring rows r output new × Appends old written output)
EndsBy done here list ring rows r before after old written new (Ok (Faulty n)) = (n ≡ length before + 1)
    × ((cause : Cause) × (output : List ℕ) × NextFails done here list ring rows r after cause output new
    × Appends old written (output ++ fault_text n cause))
EndsBy done here list ring rows r before after old written new (Err error) = (output : List ℕ)
    × (((here ≡ []) × PrintsBy done list ring rows r output new)
    ⊎ ((cause : Cause) × NextFails done here list ring rows r after cause output new))

-- THE SCRIPT BY ITS DRAWS: the first of its lines are done, by their draws; behind these are those of one that isn't.
pub record IsScriptBy (drawn : List Draw) (list : List Rule) (ring : Ring) (rows : List Row) (last : ℤ)
    (input : List ℕ) (old written : Option (List ℕ)) (new : List Row) (end : ℤ) (result : Result Ended RunError)
    : Type 0 where
  pub r : Reached
  pub before : List (List ℕ)
  pub after : List (List ℕ)
  pub cut : lines input ≡ before ++ after
  pub leads : LeadsTo (begun ring last) before r
  pub moment : end ≡ r.last
  pub done : List Draw
  pub here : List Draw
  pub draws : drawn ≡ done ++ here
  pub ends : EndsBy done here list ring rows r before after old written new result
