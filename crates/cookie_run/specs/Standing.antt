-- Where the code of a run stands, beside the place that the script has reached: for private contracts alone (own:
-- docs/DEFINITIONS.md).
use Rattle.std.specs.Prelude.{ℕ, ℤ, List, [], ◌++◌, Option, Some, None, Result, Ok, ◌≡◌}
use Rattle.std.specs.List.{AllByRecursion}
use Rattle.jiff.specs.Words.{civil_nanos}
use Rattle.cookie.specs.KeyRing.{Ring}
use Rattle.publicsuffix.specs.Rules.{Rule}
use Rattle.cookie_store.specs.Rows.{Row}
use Rattle.cookie_run.specs.Drawn.{Draw}
use Rattle.cookie_client.specs.Header.{IsHeader}
use Rattle.cookie_run.specs.RingDrawn.{RingCommandsDraw, RingPlaysBy}
use Rattle.cookie_run.specs.RingPlay.{RingReading, all_read}
use Rattle.cookie_client.specs.RingSession.{IsOpenedOn, Ringed}
use Rattle.cookie_run.specs.ScriptDrawn.{LineFails}
use Rattle.cookie_run.specs.ScriptLine.{Line}
use Rattle.cookie_run.specs.ScriptText.{Now, Closed, Within, Reached, IsAnswered, readings_text, obeyed}
use Rattle.cookie_run.specs.declared.script.cause.Cause.{Cause}
use Rattle.cookie_run.specs.declared.script.visit.Visit.{Visit}

-- ---- the open session

-- it is the one that its commands left by these draws, on this ring since the moment of its request, and this is what
-- they read
abbrev pub IsOpen : List Draw → Ring → List Row → Now → Option Visit → List RingReading → Type 0
IsOpen drawn ring rows Closed None front = (front ≡ []) × (drawn ≡ [])
IsOpen drawn ring rows Closed (Some visit) front = ⊥
IsOpen drawn ring rows (Within url at commands) None front = ⊥
IsOpen drawn ring rows (Within url at commands) (Some visit) front =
    (visit.url ≡ url) × (visit.at.date ≡ at) × (visit.session.moment ≡ at)
    × ((header : List ℕ) × IsHeader rows url (civil_nanos at) header
    × ((opened : Ringed) × IsOpenedOn ring at header opened
    × RingCommandsDraw drawn opened commands front visit.session))

-- ---- the run

-- ring, rows, last moment, open session and what was printed, after the lines that lead to `r`, by these draws, begun
-- on the ring `first` and the rows `start`
pub record Stands (drawn : List Draw) (list : List Rule) (first : Ring) (start : List Row) (r : Reached) (ring : Ring)
    (rows : List Row) (last : ℤ) (visit : Option Visit) (output : List ℕ) : Type 0 where
  pub told : List (List RingReading)
  pub front : List RingReading
  pub done : List Draw
  pub here : List Draw
  pub draws : drawn ≡ done ++ here
  pub plays : RingPlaysBy done list first start r.acts told ring rows
  pub is_open : IsOpen here ring rows r.now visit front
  pub answered : AllByRecursion IsAnswered (all_read told ++ front)
  pub prints : output ≡ readings_text (all_read told ++ front)
  pub turned : r.ring ≡ ring
  pub moment : last ≡ r.last

-- from wherever the run stands so, a line leads on by these draws, and prints this
abbrev pub Goes : List Draw → List Rule → (Reached → Result Reached Cause) → Ring → List Row → ℤ → Option Visit
    → Ring → List Row → ℤ → Option Visit → List ℕ → Type 0
Goes more list leads ring rows last visit new_ring new_rows new_last new_visit text =
    (first : Ring) (start : List Row) (r : Reached) (output : List ℕ) (drawn : List Draw)
    → Stands drawn list first start r ring rows last visit output
    → (next : Reached) × (leads r ≡ Ok next)
    × Stands (drawn ++ more) list first start next new_ring new_rows new_last new_visit (output ++ text)

-- from wherever the run stands so, a line isn't done, with these draws
abbrev pub Halts : List Draw → List Rule → (Reached → Result Reached Cause) → Ring → List Row → ℤ → Option Visit
    → Cause → List Row → Type 0
Halts here list leads ring rows last visit cause new_rows =
    (first : Ring) (start : List Row) (r : Reached) (output : List ℕ) (drawn : List Draw)
    → Stands drawn list first start r ring rows last visit output
    → LineFails drawn here list first start r (leads r) cause output new_rows

-- the same of what a line asks for, whose moment isn't before the last
abbrev pub Obeys : List Draw → List Rule → Line → Ring → List Row → ℤ → Option Visit → Ring → List Row → ℤ
    → Option Visit → List ℕ → Type 0
Obeys more list line = Goes more list (λ r. obeyed r.acts r.ring r.last r.now line)

abbrev pub Balks : List Draw → List Rule → Line → Ring → List Row → ℤ → Option Visit → Cause → List Row → Type 0
Balks here list line = Halts here list (λ r. obeyed r.acts r.ring r.last r.now line)
