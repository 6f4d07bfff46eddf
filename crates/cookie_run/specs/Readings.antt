-- Which readings are of which act of a play, whatever they say (own: docs/DEFINITIONS.md).
use Rattle.std.specs.Prelude.{ℕ, List, [], ◌∷◌, ◌++◌, None, ◌≡◌, ◌≢◌, ◌⊎◌, ⊤}
use Rattle.std.specs.List.{AllByRecursion}
use Rattle.cookie_text.specs.Record.{Record}
use Rattle.cookie_client.specs.Steps.{Act, Visits, Answers, Asks, Restarts}
use Rattle.cookie_client.specs.Ways.{set_refusal, Refuses}
use Rattle.cookie_client.specs.declared.command.Command.{Command}
use Rattle.cookie_client.specs.declared.command.Command.TheVariants.{Set, Remove, Get}
use Rattle.cookie_client.specs.declared.command.Reading.{Reading}
use Rattle.cookie_client.specs.declared.command.Reading.TheVariants.{Value, Refused, Header}
use Rattle.cookie_client.specs.declared.outcome.SessionError.{SessionError}
use Rattle.cookie_client.specs.declared.outcome.SessionError.TheVariants.{EmptyName, Rng}
use Rattle.cookie_client.specs.declared.way.Way.{Way}
use Rattle.cookie_client.specs.declared.way.Way.TheVariants.{Sealed}

-- what all the acts read, in order
abbrev pub all_told : List (List Reading) → List Reading
all_told [] = []
all_told (told ∷ later) = told ++ all_told later

-- a set reads nothing where it is accepted, and else its refusal
abbrev pub IsSetAnswer : Way → Record → List Reading → Type 0
IsSetAnswer way c told =
    ((told ≡ []) × (set_refusal way c ≡ None))
    ⊎ ((error : SessionError) × (told ≡ Refused error ∷ []) × Refuses way c error)

abbrev pub IsAnswer : Way → List ℕ → Reading → Type 0
IsAnswer way name (Value w n value) = (w ≡ way) × (n ≡ name)
IsAnswer way name (Refused error) = (name ≡ []) × (error ≡ EmptyName)
IsAnswer way name (Header header) = ⊥

-- a removal reads nothing, and under an empty name its refusal
abbrev pub IsRemovalAnswer : List ℕ → List Reading → Type 0
IsRemovalAnswer [] told = told ≡ Refused EmptyName ∷ []
IsRemovalAnswer (b ∷ bs) told = told ≡ []

-- a set or a removal reads nothing, or its refusal; a get reads one answer, under its way and name
abbrev pub AnswersTo : List Command → List Reading → Type 0
AnswersTo [] told = told ≡ []
AnswersTo (Set way cookie ∷ cs) told = (first : List Reading) × (later : List Reading) × (told ≡ first ++ later)
    × IsSetAnswer way cookie.cookie first × AnswersTo cs later
AnswersTo (Remove way name ∷ cs) told = (first : List Reading) × (later : List Reading) × (told ≡ first ++ later)
    × IsRemovalAnswer name first × AnswersTo cs later
AnswersTo (Get way name ∷ cs) told = (answer : Reading) × (later : List Reading) × (told ≡ answer ∷ later)
    × IsAnswer way name answer × AnswersTo cs later

-- a command that needs no nonce: it is no set that has to be sealed, or one that is refused before that
abbrev pub NeedsNoNonce : Command → Type 0
NeedsNoNonce (Set way cookie) = (way ≢ Sealed) ⊎ (set_refusal way cookie.cookie ≢ None)
NeedsNoNonce (Remove way name) = ⊤
NeedsNoNonce (Get way name) = ⊤

-- an act none of whose commands needs one
abbrev pub ActNeedsNoNonce : Act → Type 0
ActNeedsNoNonce (Visits url at commands arrival) = AllByRecursion NeedsNoNonce commands
ActNeedsNoNonce (Answers url lines at) = ⊤
ActNeedsNoNonce (Asks url at) = ⊤
ActNeedsNoNonce (Restarts at) = ⊤

-- what may be read where the generator's error type is this one: that a fill failed only where it has a value
abbrev pub MayRead : Type 0 → Reading → Type 0
MayRead Error (Value way name value) = ⊤
MayRead Error (Refused error) = error ≡ Rng → Error
MayRead Error (Header header) = ⊤

-- an exchange reads what answers its commands, a look at a header that header, other answers and restarts nothing
abbrev pub AnswersAct : Act → List Reading → Type 0
AnswersAct (Visits url at commands arrival) told = AnswersTo commands told
AnswersAct (Answers url lines at) told = told ≡ []
AnswersAct (Asks url at) told = (header : List ℕ) × (told ≡ Header header ∷ [])
AnswersAct (Restarts at) told = told ≡ []

abbrev pub AnswersEach : List Act → List (List Reading) → Type 0
AnswersEach [] [] = ⊤
AnswersEach (act ∷ acts) (told ∷ later) = AnswersAct act told × AnswersEach acts later
AnswersEach [] (told ∷ later) = ⊥
AnswersEach (act ∷ acts) [] = ⊥
