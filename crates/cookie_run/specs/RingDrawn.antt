-- A play on a ring with what its generator was asked for: one fill of twelve bytes for each set that has to be sealed,
-- until a moment or not, and that nothing else stands against, in their order, and its bytes are the nonce of the
-- sealing (own: docs/DEFINITIONS.md). `RingPlay` says the same whatever the nonces.
use Rattle.std.specs.Prelude.{ℕ, false, List, [], ◌∷◌, ◌++◌, Some, ◌≡◌, ◌≢◌, ◌⊎◌}
use Rattle.jiff.specs.Types.{DateTime}
use Rattle.jiff.specs.Words.{civil_nanos}
use Rattle.cookie.specs.KeyRing.{Ring}
use Rattle.cookie_text.specs.Record.{Seen}
use Rattle.publicsuffix.specs.Rules.{Rule}
use Rattle.cookie_store.specs.Rows.{Row}
use Rattle.cookie_run.specs.Drawn.{Draw, drawn_at}
use Rattle.cookie_client.specs.Header.{IsHeader}
use Rattle.cookie_client.specs.Jar.{Sets}
use Rattle.cookie_client.specs.Steps.{Delivers}
use Rattle.cookie_run.specs.RingPlay.{Answers, Asks, Restarts, RingAct, RingCommand, RingCommandTells, RingReading}
use Rattle.cookie_run.specs.RingPlay.{Refused, RingStep, Rotates, Visits, Set, SetUntil, Remove, Get, GetUntil}
use Rattle.cookie_client.specs.RingSession.{IsOpenedOn, KeepsRing, RefusesUntil, Ringed, SetsUntil, keyed}
use Rattle.cookie_client.specs.Ways.{Refuses}
use Rattle.cookie_client.specs.declared.ending.EndingWay.{EndingWay}
use Rattle.cookie_client.specs.declared.ending.EndingWay.TheVariants as ends
use Rattle.cookie_client.specs.declared.outcome.SessionError.{SessionError}
use Rattle.cookie_client.specs.declared.outcome.SessionError.TheVariants.{OutOfMemory}
use Rattle.cookie_client.specs.declared.way.Way.{Way}
use Rattle.cookie_client.specs.declared.way.Way.TheVariants.{Sealed}

-- ---- a session

-- an accepted set that has to be sealed draws one fill, and its nonce is what that gave; other sets draw none
abbrev pub RingSetDraws : List Draw → Ringed → Way → Seen → List RingReading → Ringed → Type 0
RingSetDraws drawn old way s told new =
    ((told ≡ []) × Sets (λ nonce. drawn ≡ Some nonce ∷ []) (keyed old) way s (keyed new) × KeepsRing old new
    × (way ≢ Sealed → drawn ≡ []))
    ⊎ ((error : SessionError) × (told ≡ Refused error ∷ []) × Refuses way s.cookie error × (new ≡ old)
    × (drawn ≡ drawn_at error))

-- the same of a set of a value until a moment
abbrev pub SetUntilDraws : List Draw → Ringed → EndingWay → Seen → DateTime → List RingReading → Ringed → Type 0
SetUntilDraws drawn old way s until told new =
    ((told ≡ []) × SetsUntil (λ nonce. drawn ≡ Some nonce ∷ []) old way s until new
    × (way ≢ ends.Sealed → drawn ≡ []))
    ⊎ ((error : SessionError) × (told ≡ Refused error ∷ []) × RefusesUntil way s until error × (error ≢ OutOfMemory)
    × (new ≡ old) × (drawn ≡ drawn_at error))

-- removals and reads draw none
abbrev pub RingCommandDraws : List Draw → Ringed → RingCommand → List RingReading → Ringed → Type 0
RingCommandDraws drawn old (Set way cookie) told new = RingSetDraws drawn old way cookie told new
RingCommandDraws drawn old (SetUntil way cookie until) told new = SetUntilDraws drawn old way cookie until told new
RingCommandDraws drawn old (Remove way name) told new =
    RingCommandTells old (Remove way name) told new × (drawn ≡ [])
RingCommandDraws drawn old (Get way name) told new = RingCommandTells old (Get way name) told new × (drawn ≡ [])
RingCommandDraws drawn old (GetUntil way name) told new =
    RingCommandTells old (GetUntil way name) told new × (drawn ≡ [])

-- the commands, one after another, and their draws in that order
abbrev pub RingCommandsDraw : List Draw → Ringed → List RingCommand → List RingReading → Ringed → Type 0
RingCommandsDraw drawn old [] told new = (told ≡ []) × (new ≡ old) × (drawn ≡ [])
RingCommandsDraw drawn old (c ∷ cs) told new =
    (first : List RingReading) × (later : List RingReading) × (mid : Ringed) × (drawn_first : List Draw)
    × (drawn_later : List Draw) × RingCommandDraws drawn_first old c first mid
    × RingCommandsDraw drawn_later mid cs later new × (told ≡ first ++ later) × (drawn ≡ drawn_first ++ drawn_later)

-- ---- a step

-- an exchange reads and leaves that by these draws; other steps draw none
abbrev pub RingStepBy : List Draw → List Rule → Ring → List Row → RingAct → List RingReading → Ring → List Row → Type 0
RingStepBy drawn list ring rows (Visits url at commands arrival) told left new =
    (header : List ℕ) × IsHeader rows url (civil_nanos at) header
    × ((opened : Ringed) × IsOpenedOn ring at header opened × ((session : Ringed)
    × RingCommandsDraw drawn opened commands told session × Delivers list rows url session.jar arrival new))
    × (left ≡ ring)
RingStepBy drawn list ring rows (Answers url lines at) told left new =
    RingStep false list ring rows (Answers url lines at) told left new × (drawn ≡ [])
RingStepBy drawn list ring rows (Asks url at) told left new =
    RingStep false list ring rows (Asks url at) told left new × (drawn ≡ [])
RingStepBy drawn list ring rows (Restarts at) told left new =
    RingStep false list ring rows (Restarts at) told left new × (drawn ≡ [])
RingStepBy drawn list ring rows (Rotates key at keep_until) told left new =
    RingStep false list ring rows (Rotates key at keep_until) told left new × (drawn ≡ [])

-- the steps, and their draws in that order
abbrev pub RingPlaysBy : List Draw → List Rule → Ring → List Row → List RingAct → List (List RingReading) → Ring
    → List Row → Type 0
RingPlaysBy drawn list ring rows [] [] left new = (left ≡ ring) × (new ≡ rows) × (drawn ≡ [])
RingPlaysBy drawn list ring rows (step ∷ steps) (told ∷ later) left new =
    (turned : Ring) × (mid : List Row) × (drawn_first : List Draw) × (drawn_later : List Draw)
    × RingStepBy drawn_first list ring rows step told turned mid
    × RingPlaysBy drawn_later list turned mid steps later left new × (drawn ≡ drawn_first ++ drawn_later)
RingPlaysBy drawn list ring rows [] (told ∷ later) left new = ⊥
RingPlaysBy drawn list ring rows (step ∷ steps) [] left new = ⊥
