-- What a user agent does with the lines of an answer: those that no rule refuses go to its client, one after another.
use Rattle.std.specs.Prelude.{◌≡◌, ◌⊎◌, ◌+◌, ◌<◌, ◌||◌, ℕ, ℤ, Bool, true, false, List, [], ◌∷◌, length, map}
use Rattle.std.specs.Prelude.{IsTrue, get_or, take}
use Rattle.std.specs.Str.{IsUtf8}
use Rattle.cookie_text.specs.Reading.{first_piece}
use Rattle.publicsuffix.specs.Rules.{Rule}
use Rattle.url.specs.Parts.{Parts}
use Rattle.cookie_store.specs.Rows.{Row, Store}
use Rattle.cookie_client.specs.Accept.{Accepts, AcceptsAll, AsksForMemory as ClientAsks}
use Rattle.cookie_client.specs.declared.outcome.LineEnd.{LineEnd}
use Rattle.user_agent.specs.CutLives.{IsCutLine}
use Rattle.user_agent.specs.KnownDates.{IsKnownLine}
use Rattle.user_agent.specs.LongAttributes.{IsShortLine}
use Rattle.user_agent.specs.Refusals.{AsksForOverlay, IsLetIn, IsRefusedBy, IsStoppedByControl, no_rules}
use Rattle.user_agent.specs.declared.rules.Outcome.{Outcome}
use Rattle.user_agent.specs.declared.rules.Outcome.TheVariants.{Taken, Refused}
use Rattle.user_agent.specs.declared.rules.Refusal.{Refusal}
use Rattle.user_agent.specs.declared.rules.Refusal.TheVariants.{Control}
use Rattle.user_agent.specs.declared.rules.Rules.{Rules}

-- a user agent: its client's store, and its rules
pub record Agent : Type 0 where
  pub store : Store
  pub rules : Rules

-- a step on a line, where its rule is on; else the line stays
abbrev pub IsDoneIf : Bool → (List ℕ → List ℕ → Type 0) → List ℕ → List ℕ → Type 0
IsDoneIf true Step line new = Step line new
IsDoneIf false Step line new = new ≡ line

-- the text as the client gets it, step by step where their rules are on, in the draft's order: without its long
-- attributes, with its dates known, with its life cut
pub record IsHandedText (rules : Rules) (now : ℤ) (line handed : List ℕ) : Type 0 where
  pub short : List ℕ
  pub known : List ℕ
  pub shortened : IsDoneIf rules.long_attributes IsShortLine line short
  pub dated : IsDoneIf rules.dates IsKnownLine short known
  pub cut : IsDoneIf rules.long_lives (IsCutLine now) known handed

-- the line as the client gets it: a text so, any other as it stands
abbrev pub IsHandedOn : Rules → ℤ → List ℕ → List ℕ → Type 0
IsHandedOn rules now line handed =
    (IsUtf8 line × IsHandedText rules now line handed) ⊎ ((¬ (IsUtf8 line)) × (handed ≡ line))

-- whatever rules are on, the first piece of a line stays, and so do its name and its value
abbrev pub PairsStay : Type 0
PairsStay =
    (rules : Rules) (now : ℤ) (line handed : List ℕ) → IsHandedOn rules now line handed
    → first_piece handed ≡ first_piece line

-- what becomes of a line that is handed on, and the rows after it: the first rule that refuses it changes nothing;
-- where none does, the client gets it
abbrev pub TakesHanded : Rules → List Rule → List Row → Parts → ℤ → List ℕ → Outcome → List Row → Type 0
TakesHanded rules list rows url now handed outcome new =
    ((rule : Refusal) × IsRefusedBy rules rows url now handed rule × (outcome ≡ Refused rule) × (new ≡ rows))
    ⊎ (IsLetIn rules rows url now handed
    × ((end : LineEnd) × Accepts list rows url now handed end new × (outcome ≡ Taken end)))

-- what becomes of a line as it came: a control character stops it first of all
abbrev pub TakesLine : Rules → List Rule → List Row → Parts → ℤ → List ℕ → Outcome → List Row → Type 0
TakesLine rules list rows url now line outcome new =
    (IsStoppedByControl rules line × (outcome ≡ Refused Control) × (new ≡ rows))
    ⊎ ((¬ (IsStoppedByControl rules line)) × ((handed : List ℕ) × IsHandedOn rules now line handed
    × TakesHanded rules list rows url now handed outcome new))

-- what becomes of each of the lines, and the rows after them
abbrev pub TakesLines : Rules → List Rule → List Row → Parts → ℤ → List (List ℕ) → List Outcome → List Row → Type 0
TakesLines rules list rows url now [] outcomes new = (outcomes ≡ []) × (new ≡ rows)
TakesLines rules list rows url now (line ∷ lines) [] new = ⊥
TakesLines rules list rows url now (line ∷ lines) (outcome ∷ outcomes) new =
    (mid : List Row) × TakesLine rules list rows url now line outcome mid
    × TakesLines rules list mid url now lines outcomes new

-- ---- what its client gets

-- the lines that the client gets of an answer, and how it goes with each: of the lines that no rule refused, in their
-- order, what each is handed on as
abbrev pub AreGiven : Rules → ℤ → List (List ℕ) → List Outcome → List (List ℕ) → List LineEnd → Type 0
AreGiven rules now [] outcomes given ends = (outcomes ≡ []) × (given ≡ []) × (ends ≡ [])
AreGiven rules now (line ∷ lines) [] given ends = ⊥
AreGiven rules now (line ∷ lines) (Refused rule ∷ outcomes) given ends = AreGiven rules now lines outcomes given ends
AreGiven rules now (line ∷ lines) (Taken end ∷ outcomes) given ends =
    (handed : List ℕ) × (others : List (List ℕ)) × (later : List LineEnd) × IsHandedOn rules now line handed
    × (given ≡ handed ∷ others) × (ends ≡ end ∷ later) × AreGiven rules now lines outcomes others later

-- whatever lines come, the rows are those after the client took the lines that it gets of them
abbrev pub ClientsTakeTheirs : Type 0
ClientsTakeTheirs =
    (rules : Rules) (list : List Rule) (rows : List Row) (url : Parts) (now : ℤ) (lines : List (List ℕ))
    (outcomes : List Outcome) (new : List Row) → TakesLines rules list rows url now lines outcomes new
    → (given : List (List ℕ)) × (ends : List LineEnd) × AreGiven rules now lines outcomes given ends
    × AcceptsAll list rows url now given ends new

-- ---- want of memory

-- a rule is on that changes lines
abbrev pub rewrites : Rules → Bool
rewrites rules = rules.long_attributes || (rules.dates || rules.long_lives)

-- For what is handed on there may be no memory: what it lies over is looked for, or the client asks for it.
abbrev pub HandedAsks : Rules → Parts → List ℕ → Type 0
HandedAsks rules url handed = (IsTrue rules.secure_overlay × AsksForOverlay url handed) ⊎ ClientAsks url handed

-- For a line there may be no memory: no control character stops it, and it is a text that a rule changes, or for which
-- there may be none as it is handed on.
abbrev pub AsksForMemory : Rules → Parts → List ℕ → Type 0
AsksForMemory rules url line =
    (¬ (IsStoppedByControl rules line)) × IsUtf8 line × (IsTrue (rewrites rules) ⊎ HandedAsks rules url line)

-- memory was refused at line n, counted from 1, once those before it were taken
pub record StopsAtLine (rules : Rules) (list : List Rule) (rows : List Row) (url : Parts) (now : ℤ)
    (lines : List (List ℕ)) (n : ℕ) (new : List Row) : Type 0 where
  pub before : ℕ
  pub outcomes : List Outcome
  pub number : n ≡ before + 1
  pub within : before < length lines
  pub taken : TakesLines rules list rows url now (take before lines) outcomes new
  pub asks : AsksForMemory rules url (get_or lines before [])

-- so, or before any line was looked at, which is 0
abbrev pub IsStopped : Rules → List Rule → List Row → Parts → ℤ → List (List ℕ) → ℕ → List Row → Type 0
IsStopped rules list rows url now lines n new =
    ((n ≡ 0) × (new ≡ rows)) ⊎ StopsAtLine rules list rows url now lines n new

-- ---- without rules

-- with no rule on, lines are taken exactly as by the client
abbrev pub NoRulesAreTheClient : Type 0
NoRulesAreTheClient =
    (list : List Rule) (rows : List Row) (url : Parts) (now : ℤ) (lines : List (List ℕ)) (outcomes : List Outcome)
    (new : List Row) → TakesLines no_rules list rows url now lines outcomes new
    → (ends : List LineEnd) × (outcomes ≡ map Taken ends) × AcceptsAll list rows url now lines ends new
