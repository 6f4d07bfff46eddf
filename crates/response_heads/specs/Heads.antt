-- The heads of a text, one directly behind another: each a status line, field lines and an empty line (RFC 9112,
-- section 2.1). What else stands behind them, as trailers (section 7.1.2) or a body, is no head's. From a line on that
-- begins a head there, or one without its empty line, none can say whose it is: it stops all reading.
use Rattle.std.specs.Prelude.{◌≡◌, ◌≢◌, ◌⊎◌, ◌+◌, ◌++◌, ℕ, false, true, List, [], ◌∷◌, Option, Some, None, length}
use Rattle.std.specs.Prelude.{if◌then◌else◌}
use Rattle.std.specs.List.{AllByRecursion}
use Rattle.response_heads.specs.Lines.{FieldText, GivesField, begins_head, breaks_off, cut_end, status_of, whole_lines}
use Rattle.response_heads.specs.declared.error.StopFault.{StopFault}
use Rattle.response_heads.specs.declared.error.StopFault.TheVariants.{Status, Between, Unended}

-- the head of a response: the number of its status line, counted from 1, its status, and its fields in their order
pub record HeadText : Type 0 where
  pub number : ℕ
  pub status : ℕ
  pub fields : List FieldText

-- ---- a head

-- Lines, before which stand so many, are the status line of this head, and these behind it.
pub record Begins (before : ℕ) (lines : List (List ℕ)) (head : HeadText) (behind : List (List ℕ)) : Type 0 where
  pub line : List ℕ
  pub split : lines ≡ line ∷ behind
  pub begins : begins_head line ≡ true
  pub status : status_of line ≡ Some head.status
  pub number : head.number ≡ before + 1

-- each line behind the status line gives its field
abbrev pub AreFields : List (List ℕ) → List FieldText → Type 0
AreFields [] [] = Unit {0}
AreFields [] (field ∷ fields) = ⊥
AreFields (line ∷ lines) [] = ⊥
AreFields (line ∷ lines) (field ∷ fields) = GivesField line field × AreFields lines fields

-- Lines behind so many are those of these fields, and an empty line, which ends the head and has this number; behind it
-- stand more.
pub record Ends (before : ℕ) (lines : List (List ℕ)) (fields : List FieldText) (number : ℕ) (more : List (List ℕ))
    : Type 0 where
  pub read : List (List ℕ)
  pub are : AreFields read fields
  pub split : lines ≡ read ++ [] ∷ more
  pub counted : number ≡ before + length read + 1

-- the lines end, or the first of them is one at which a head breaks off
abbrev pub BreaksOff : List (List ℕ) → Type 0
BreaksOff [] = Unit {0}
BreaksOff (line ∷ after) = (line ≢ []) × (breaks_off line ≡ true)

-- behind these fields the head breaks off before an empty line
pub record IsUnended (lines : List (List ℕ)) : Type 0 where
  pub read : List (List ℕ)
  pub fields : List FieldText
  pub are : AreFields read fields
  pub behind : List (List ℕ)
  pub split : lines ≡ read ++ behind
  pub breaks : BreaksOff behind

-- ---- what is no head

abbrev pub IsPassedOver : List ℕ → Type 0
IsPassedOver line = begins_head line ≡ false

-- Of these lines the first begins a head and has this number, or there are none and the text's cut end does. It stops
-- all reading.
abbrev pub Stops : ℕ → List (List ℕ) → List ℕ → StopFault → Option (ℕ × StopFault) → Type 0
Stops number [] cut fault stop = stop ≡ (if begins_head cut then Some (number, fault) else None)
Stops number (line ∷ after) cut fault stop = (begins_head line ≡ true) × (stop ≡ Some (number, fault))

-- behind lines of which none does
pub record StopsBehind (before : ℕ) (lines : List (List ℕ)) (cut : List ℕ) (stop : Option (ℕ × StopFault))
    : Type 0 where
  pub front : List (List ℕ)
  pub behind : List (List ℕ)
  pub split : lines ≡ front ++ behind
  pub passed : AllByRecursion IsPassedOver front
  pub stops : Stops (before + length front + 1) behind cut Between stop

-- A line that begins a head, but is no status line, or behind which it breaks off.
abbrev pub IsNoHead : ℕ → List ℕ → List (List ℕ) → Option (ℕ × StopFault) → Type 0
IsNoHead number line behind stop =
    ((status_of line ≡ None) × (stop ≡ Some (number, Status)))
    ⊎ ((status_of line ≢ None) × IsUnended behind × (stop ≡ Some (number, Unended)))

-- No head comes next in lines, before which stand so many.
abbrev pub IsOver : ℕ → List (List ℕ) → List ℕ → Option (ℕ × StopFault) → Type 0
IsOver before [] cut stop = Stops (before + 1) [] cut Status stop
IsOver before (line ∷ behind) cut stop =
    ((begins_head line ≡ false) × StopsBehind (before + 1) behind cut stop)
    ⊎ ((begins_head line ≡ true) × IsNoHead (before + 1) line behind stop)

-- ---- all heads

-- Lines, before which stand so many, and a cut end give these heads, and the line that stops all reading, if one does:
-- its number, and its fault.
abbrev pub GivesFrom : ℕ → List (List ℕ) → List ℕ → List HeadText → Option (ℕ × StopFault) → Type 0
GivesFrom before lines cut [] stop = IsOver before lines cut stop
GivesFrom before lines cut (head ∷ heads) stop =
    (behind : List (List ℕ)) × (number : ℕ) × (more : List (List ℕ)) × Begins before lines head behind
    × Ends head.number behind head.fields number more × GivesFrom number more cut heads stop

-- a text does
abbrev pub GivesHeads : List ℕ → List HeadText → Option (ℕ × StopFault) → Type 0
GivesHeads text heads stop = GivesFrom 0 (whole_lines text) (cut_end text) heads stop
