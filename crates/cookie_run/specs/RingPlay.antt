-- A play whose sessions open on one ring of keys, which is rotated between them: on the rows of a client, step by step,
-- whatever the nonces and the order of a session's lines. It is `Play` with a ring in the place of the key.
use Rattle.std.specs.Prelude.{◌≡◌, ◌≢◌, ◌⊎◌, ℕ, ℤ, Bool, List, [], ◌∷◌, ◌++◌, Option, Some}
use Rattle.jiff.specs.Types.{DateTime}
use Rattle.jiff.specs.Words.{civil_nanos}
use Rattle.cookie.specs.KeyRing.{Ring, rotated}
use Rattle.cookie_text.specs.Record.{Seen}
use Rattle.publicsuffix.specs.Rules.{Rule}
use Rattle.url.specs.Parts.{Parts}
use Rattle.cookie_store.specs.Rows.{Row}
use Rattle.cookie_client.specs.Accept.{Takes}
use Rattle.cookie_client.specs.Steps.{Arrival, Delivers}
use Rattle.cookie_run.specs.Acts.{arrival_moments}
use Rattle.cookie_client.specs.Header.{IsHeader}
use Rattle.cookie_client.specs.Jar.{Sets, TakesOut, IsRemovalRefusal}
use Rattle.cookie_client.specs.Keeping.{Keeps}
use Rattle.cookie_client.specs.PlainSets.{any_nonce}
use Rattle.cookie_client.specs.RingSession.{IsOpenedOnBy, KeepsRing, ReadsEnding, RefusesUntil, RingReadsIn, Ringed}
use Rattle.cookie_client.specs.RingSession.{SetsUntil, keyed}
use Rattle.cookie_client.specs.Ways.{Refuses}
use Rattle.cookie_client.specs.declared.ending.EndingWay.{EndingWay}
use Rattle.cookie_client.specs.declared.outcome.SessionError.{SessionError}
use Rattle.cookie_client.specs.declared.outcome.SessionError.TheVariants.{EmptyName, OutOfMemory}
use Rattle.cookie_client.specs.declared.way.Way.{Way}

-- what a site tells its session
pub data RingCommand : Type 0 where
  Set : (way : Way) (cookie : Seen) → RingCommand
  SetUntil : (way : EndingWay) (cookie : Seen) (until : DateTime) → RingCommand
  Remove : (way : Way) (name : List ℕ) → RingCommand
  Get : (way : Way) (name : List ℕ) → RingCommand
  GetUntil : (way : EndingWay) (name : List ℕ) → RingCommand

-- what is read under a name: a value with the place of its key, or none; a refusal; a header
pub data RingReading : Type 0 where
  Read : (way : Way) (name : List ℕ) (read : Option (List ℕ × ℕ)) → RingReading
  ReadUntil : (way : EndingWay) (name : List ℕ) (read : Option (List ℕ × ℕ)) → RingReading
  Refused : (error : SessionError) → RingReading
  Header : (header : List ℕ) → RingReading

-- an exchange by a session on the ring as it is then, or a rotation of the ring, beside the acts of a play
pub data RingAct : Type 0 where
  Visits : (url : Parts) (at : DateTime) (commands : List RingCommand) (arrival : Arrival) → RingAct
  Answers : (url : Parts) (lines : List (List ℕ)) (at : ℤ) → RingAct
  Asks : (url : Parts) (at : ℤ) → RingAct
  Restarts : (at : ℤ) → RingAct
  Rotates : (key : List ℕ) (at : DateTime) (keep_until : Option DateTime) → RingAct

-- the moments that it comes to, in order
abbrev pub ring_moments_in : RingAct → List ℤ
ring_moments_in (Visits url at commands arrival) = civil_nanos at ∷ arrival_moments arrival
ring_moments_in (Answers url lines at) = at ∷ []
ring_moments_in (Asks url at) = at ∷ []
ring_moments_in (Restarts at) = at ∷ []
ring_moments_in (Rotates key at keep_until) = civil_nanos at ∷ []

abbrev pub ring_moments_of : List RingAct → List ℤ
ring_moments_of [] = []
ring_moments_of (act ∷ acts) = ring_moments_in act ++ ring_moments_of acts

-- ---- a session

abbrev pub RingSetTells : Ringed → Way → Seen → List RingReading → Ringed → Type 0
RingSetTells old way s told new =
    ((told ≡ []) × Sets any_nonce (keyed old) way s (keyed new) × KeepsRing old new)
    ⊎ ((error : SessionError) × (told ≡ Refused error ∷ []) × Refuses way s.cookie error × (new ≡ old))

abbrev pub SetUntilTells : Ringed → EndingWay → Seen → DateTime → List RingReading → Ringed → Type 0
SetUntilTells old way s until told new =
    ((told ≡ []) × SetsUntil any_nonce old way s until new)
    ⊎ ((error : SessionError) × (told ≡ Refused error ∷ []) × RefusesUntil way s until error × (error ≢ OutOfMemory)
    × (new ≡ old))

-- at the moment of the request
abbrev pub RingRemoveTells : Ringed → Way → List ℕ → List RingReading → Ringed → Type 0
RingRemoveTells old way name told new =
    ((told ≡ []) × TakesOut (keyed old) way name old.moment (keyed new) × KeepsRing old new)
    ⊎ ((error : SessionError) × (told ≡ Refused error ∷ []) × IsRemovalRefusal name old.moment (Some error)
    × (new ≡ old))

abbrev pub RingGetTells : Ringed → Way → List ℕ → List RingReading → Type 0
RingGetTells s way [] told = told ≡ Refused EmptyName ∷ []
RingGetTells s way (b ∷ bs) told =
    (read : Option (List ℕ × ℕ)) × (told ≡ Read way (b ∷ bs) read ∷ []) × RingReadsIn s way (b ∷ bs) read

abbrev pub GetUntilTells : Ringed → EndingWay → List ℕ → List RingReading → Type 0
GetUntilTells s way [] told = told ≡ Refused EmptyName ∷ []
GetUntilTells s way (b ∷ bs) told =
    (read : Option (List ℕ × ℕ)) × (told ≡ ReadUntil way (b ∷ bs) read ∷ []) × ReadsEnding s way (b ∷ bs) read

abbrev pub RingCommandTells : Ringed → RingCommand → List RingReading → Ringed → Type 0
RingCommandTells old (Set way cookie) told new = RingSetTells old way cookie told new
RingCommandTells old (SetUntil way cookie until) told new = SetUntilTells old way cookie until told new
RingCommandTells old (Remove way name) told new = RingRemoveTells old way name told new
RingCommandTells old (Get way name) told new = RingGetTells old way name told × (new ≡ old)
RingCommandTells old (GetUntil way name) told new = GetUntilTells old way name told × (new ≡ old)

-- the commands, one after another
abbrev pub RingTells : Ringed → List RingCommand → List RingReading → Ringed → Type 0
RingTells old [] told new = (told ≡ []) × (new ≡ old)
RingTells old (c ∷ cs) told new =
    (first : List RingReading) × (later : List RingReading) × (mid : Ringed) × RingCommandTells old c first mid
    × RingTells mid cs later new × (told ≡ first ++ later)

-- ---- a step

-- from this ring and these rows the step reads this, and leaves that ring and those rows
abbrev pub RingStep : Bool → List Rule → Ring → List Row → RingAct → List RingReading → Ring → List Row → Type 0
RingStep shown list ring rows (Visits url at commands arrival) told left new =
    (header : List ℕ) × IsHeader rows url (civil_nanos at) header
    × ((opened : Ringed) × IsOpenedOnBy shown ring at header opened × ((session : Ringed)
    × RingTells opened commands told session × Delivers list rows url session.jar arrival new)) × (left ≡ ring)
RingStep shown list ring rows (Answers url lines at) told left new =
    (told ≡ []) × Takes list rows url at lines new × (left ≡ ring)
RingStep shown list ring rows (Asks url at) told left new =
    ((header : List ℕ) × IsHeader rows url at header × (told ≡ Header header ∷ [])) × (new ≡ rows) × (left ≡ ring)
RingStep shown list ring rows (Restarts at) told left new = (told ≡ []) × Keeps rows at at new × (left ≡ ring)
RingStep shown list ring rows (Rotates key at keep_until) told left new =
    (told ≡ []) × (new ≡ rows) × (left ≡ rotated key at keep_until ring)

abbrev pub RingPlays : Bool → List Rule → Ring → List Row → List RingAct → List (List RingReading) → Ring → List Row
    → Type 0
RingPlays shown list ring rows [] [] left new = (left ≡ ring) × (new ≡ rows)
RingPlays shown list ring rows (step ∷ steps) (told ∷ later) left new =
    (turned : Ring) × (mid : List Row) × RingStep shown list ring rows step told turned mid
    × RingPlays shown list turned mid steps later left new
RingPlays shown list ring rows [] (told ∷ later) left new = ⊥
RingPlays shown list ring rows (step ∷ steps) [] left new = ⊥

-- what all the steps read, in order
abbrev pub all_read : List (List RingReading) → List RingReading
all_read [] = []
all_read (told ∷ later) = told ++ all_read later
