-- A play with what its generator was asked for: one fill of twelve bytes for each set that has to be sealed and that
-- nothing else stands against, in their order, and its bytes are the nonce of the sealing (own: docs/DEFINITIONS.md).
-- `Play` says the same whatever the nonces.
use Rattle.std.specs.Prelude.{ℕ, ℤ, ◌+◌, length, List, [], ◌∷◌, ◌++◌, false, Option, Some, None, ◌≡◌}
use Rattle.std.specs.Prelude.{◌≢◌, ◌⊎◌}
use Rattle.cookie_text.specs.Record.{Seen}
use Rattle.publicsuffix.specs.Rules.{Rule}
use Rattle.cookie_store.specs.Rows.{Row}
use Rattle.cookie_client.specs.Steps.{Act, Visits, Answers, Asks, Restarts, CommandTells, Delivers, OneStep}
use Rattle.cookie_run.specs.Acts.{moments_of, opening_of, arrival_in}
use Rattle.cookie_client.specs.Header.{IsHeader}
use Rattle.cookie_client.specs.Jar.{Keyed, IsOpened, Sets}
use Rattle.cookie_run.specs.Moments.{AllFollow, Follows, IsWrong, last_of, the_beginning}
use Rattle.cookie_run.specs.Play.{ReadsAll, ReadsFront}
use Rattle.cookie_run.specs.Readings.{all_told}
use Rattle.cookie_client.specs.Ways.{Refuses, set_refusal}
use Rattle.cookie_run.specs.Stops.{StopsInside}
use Rattle.cookie_client.specs.declared.command.Command.{Command}
use Rattle.cookie_client.specs.declared.command.Command.TheVariants.{Set, Remove, Get}
use Rattle.cookie_run.specs.declared.step.FaultKind.{FaultKind}
use Rattle.cookie_client.specs.declared.command.Reading.{Reading}
use Rattle.cookie_client.specs.declared.command.Reading.TheVariants.{Refused}
use Rattle.cookie_client.specs.declared.outcome.SessionError.{SessionError}
use Rattle.cookie_client.specs.declared.outcome.SessionError.TheVariants.{EmptyName, Year, TooLong, Rng, OutOfMemory}
use Rattle.cookie_client.specs.declared.way.Way.{Way}
use Rattle.cookie_client.specs.declared.way.Way.TheVariants.{Sealed}

-- ---- a generator

-- what a fill gave: its bytes, or none where it failed
abbrev pub Draw : Type 0
Draw = Option (List ℕ)

-- These are the fills by which the generator came from one state to the other, each of twelve bytes and from where the
-- one before left it. Of one that failed nothing is known but that the generator's error type has a value.
abbrev pub Fills : {G : Type 0} → (G → List ℕ → G → Type 0) → Type 0 → G → List Draw → G → Type 0
Fills {G} May Error old [] new = new ≡ old
Fills {G} May Error old (Some nonce ∷ later) new =
    (mid : G) × (length nonce ≡ 12) × May old nonce mid × Fills May Error mid later new
Fills {G} May Error old (None ∷ later) new = Error × ((mid : G) × Fills May Error mid later new)

-- the generator came from one state to the other by draws that are so
abbrev pub DrawsSo : {G : Type 0} → (G → List ℕ → G → Type 0) → Type 0 → G → (List Draw → Type 0) → G → Type 0
DrawsSo May Error old Are new = (drawn : List Draw) × Fills May Error old drawn new × Are drawn

-- ---- a session

-- what a refused set draws: where the generator failed the fill that did, and else none
abbrev pub drawn_at : SessionError → List Draw
drawn_at EmptyName = []
drawn_at Year = []
drawn_at TooLong = []
drawn_at Rng = None ∷ []
drawn_at OutOfMemory = []

-- an accepted set that has to be sealed draws one fill, and its nonce is what that gave; other sets draw none
abbrev pub SetDraws : List Draw → Keyed → Way → Seen → List Reading → Keyed → Type 0
SetDraws drawn old way s told new =
    ((told ≡ []) × Sets (λ nonce. drawn ≡ Some nonce ∷ []) old way s new × (way ≢ Sealed → drawn ≡ []))
    ⊎ ((error : SessionError) × (told ≡ Refused error ∷ []) × Refuses way s.cookie error × (new ≡ old)
    × (drawn ≡ drawn_at error))

-- removals and reads draw none
abbrev pub CommandDraws : List Draw → Keyed → ℤ → Command → List Reading → Keyed → Type 0
CommandDraws drawn old at (Set way cookie) told new = SetDraws drawn old way cookie told new
CommandDraws drawn old at (Remove way name) told new = CommandTells old at (Remove way name) told new × (drawn ≡ [])
CommandDraws drawn old at (Get way name) told new = CommandTells old at (Get way name) told new × (drawn ≡ [])

-- the commands, one after another, and their draws in that order
abbrev pub CommandsDraw : List Draw → Keyed → ℤ → List Command → List Reading → Keyed → Type 0
CommandsDraw drawn old at [] told new = (told ≡ []) × (new ≡ old) × (drawn ≡ [])
CommandsDraw drawn old at (c ∷ cs) told new =
    (first : List Reading) × (later : List Reading) × (mid : Keyed) × (drawn_first : List Draw)
    × (drawn_later : List Draw) × CommandDraws drawn_first old at c first mid
    × CommandsDraw drawn_later mid at cs later new × (told ≡ first ++ later) × (drawn ≡ drawn_first ++ drawn_later)

-- it has to be sealed, and nothing but the generator stands against it
abbrev pub NeedsNonce : Command → Type 0
NeedsNonce (Set way cookie) = (way ≡ Sealed) × (set_refusal way cookie.cookie ≡ None)
NeedsNonce (Remove way name) = ⊥
NeedsNonce (Get way name) = ⊥

-- the first of these commands wasn't done for want of memory, which may come before its fill or behind it
abbrev pub IsDrawnInVain : List Command → List Draw → Type 0
IsDrawnInVain [] drawn = drawn ≡ []
IsDrawnInVain (c ∷ cs) drawn = (drawn ≡ []) ⊎ ((draw : Draw) × (drawn ≡ draw ∷ []) × NeedsNonce c)

-- what it reads and draws by all of its commands, whatever they leave
abbrev pub AllDraw : List Draw → Keyed → ℤ → List Command → List Reading → Type 0
AllDraw drawn old at commands told = (new : Keyed) × CommandsDraw drawn old at commands told new

-- by the first of them, up to one that wasn't done
abbrev pub FrontDraws : List Draw → Keyed → ℤ → List Command → List Reading → Type 0
FrontDraws drawn old at commands told =
    (front : List Command) × (rest : List Command) × (commands ≡ front ++ rest) × (done : List Draw)
    × (vain : List Draw) × (drawn ≡ done ++ vain) × IsDrawnInVain rest vain × AllDraw done old at front told

-- ---- a step

-- an exchange reads and leaves that by these draws; other steps draw none
abbrev pub StepBy : List Draw → List Rule → List ℕ → List Row → Act → List Reading → List Row → Type 0
StepBy drawn list key rows (Visits url at commands arrival) told new =
    (header : List ℕ) × IsHeader rows url at header
    × ((opened : Keyed) × IsOpened key header opened × ((session : Keyed)
    × CommandsDraw drawn opened at commands told session × Delivers list rows url session.jar arrival new))
StepBy drawn list key rows (Answers url lines at) told new =
    OneStep false list key rows (Answers url lines at) told new × (drawn ≡ [])
StepBy drawn list key rows (Asks url at) told new = OneStep false list key rows (Asks url at) told new × (drawn ≡ [])
StepBy drawn list key rows (Restarts at) told new = OneStep false list key rows (Restarts at) told new × (drawn ≡ [])

-- the steps, and their draws in that order
abbrev pub PlaysBy : List Draw → List Rule → List ℕ → List Row → List Act → List (List Reading) → List Row → Type 0
PlaysBy drawn list key rows [] [] new = (new ≡ rows) × (drawn ≡ [])
PlaysBy drawn list key rows (step ∷ steps) (told ∷ later) new =
    (mid : List Row) × (drawn_first : List Draw) × (drawn_later : List Draw)
    × StepBy drawn_first list key rows step told mid × PlaysBy drawn_later list key mid steps later new
    × (drawn ≡ drawn_first ++ drawn_later)
PlaysBy drawn list key rows [] (told ∷ later) new = ⊥
PlaysBy drawn list key rows (step ∷ steps) [] new = ⊥

-- what a step reads and draws by all its commands
abbrev pub ReadsAllBy : List Draw → List ℕ → List Row → Act → List Reading → Type 0
ReadsAllBy drawn key rows (Visits url at commands arrival) told =
    (header : List ℕ) × IsHeader rows url at header
    × ((opened : Keyed) × IsOpened key header opened × AllDraw drawn opened at commands told)
ReadsAllBy drawn key rows (Answers url lines at) told =
    ReadsAll false key rows (Answers url lines at) told × (drawn ≡ [])
ReadsAllBy drawn key rows (Asks url at) told = ReadsAll false key rows (Asks url at) told × (drawn ≡ [])
ReadsAllBy drawn key rows (Restarts at) told = ReadsAll false key rows (Restarts at) told × (drawn ≡ [])

-- by the first of its commands, or before it has read
abbrev pub ReadsFrontBy : List Draw → List ℕ → List Row → Act → List Reading → Type 0
ReadsFrontBy drawn key rows (Visits url at commands arrival) told =
    ((told ≡ []) × (drawn ≡ []))
    ⊎ ((header : List ℕ) × IsHeader rows url at header
    × ((opened : Keyed) × IsOpened key header opened × FrontDraws drawn opened at commands told))
ReadsFrontBy drawn key rows (Answers url lines at) told =
    ReadsFront false key rows (Answers url lines at) told × (drawn ≡ [])
ReadsFrontBy drawn key rows (Asks url at) told = ReadsFront false key rows (Asks url at) told × (drawn ≡ [])
ReadsFrontBy drawn key rows (Restarts at) told = ReadsFront false key rows (Restarts at) told × (drawn ≡ [])

-- ---- a play

-- THE PLAY BY ITS DRAWS: what a client that begins with no row and this list of public suffixes reads by all the acts
pub record IsRunBy (drawn : List Draw) (list : List Rule) (key : List ℕ) (acts : List Act) (readings : List Reading)
    : Type 0 where
  pub told : List (List Reading)
  pub rows : List Row
  pub ran : PlaysBy drawn list key [] acts told rows
  pub read : readings ≡ all_told told

-- An act stops at its first moment, with nothing read or drawn, or past it.
abbrev pub StopsBy : List Draw → List ℕ → List Row → FaultKind → ℤ → Act → List Reading → List Reading → Type 0
StopsBy drawn key rows kind last act old readings =
    (IsWrong kind last (opening_of act) × (readings ≡ old) × (drawn ≡ []))
    ⊎ (Follows last (opening_of act) × StopsInside kind (opening_of act) (arrival_in act) old
    (ReadsFrontBy drawn key rows act) (ReadsAllBy drawn key rows act) readings)

-- The same of a play that stopped in a step, counted from 1.
pub record IsRunUntilBy (drawn : List Draw) (list : List Rule) (key : List ℕ) (acts : List Act) (step : ℕ)
    (kind : FaultKind) (readings : List Reading) : Type 0 where
  pub before : List Act
  pub act : Act
  pub after : List Act
  pub cut : acts ≡ before ++ act ∷ after
  pub at_step : step ≡ length before + 1
  pub told : List (List Reading)
  pub rows : List Row
  pub done : List Draw
  pub here : List Draw
  pub draws : drawn ≡ done ++ here
  pub ran : PlaysBy done list key [] before told rows
  pub in_order : AllFollow the_beginning (moments_of before)
  pub stops : StopsBy here key rows kind (last_of the_beginning (moments_of before)) act (all_told told) readings
