-- What a client takes of the lines of a `cookies.txt`, and what is told of them (own: docs/DEFINITIONS.md).
use Rattle.std.specs.Prelude.{ℕ, ℤ, ◌≡◌, ◌||◌, ◌++◌, Bool, true, false, List, [], ◌∷◌, length, Option, Some, None}
use Rattle.std.specs.Prelude.{Result, Ok, Err}
use Rattle.std.specs.Int.{to_le_bytes, w64}
use Rattle.std.specs.List.{flat_map}
use Rattle.cookie_text.specs.ReadingBack.{Pairwise}
use Rattle.cookie_store.specs.Placing.{put_all}
use Rattle.cookie_store.specs.Rows.{Row, Store, domain_text, is_live}
use Rattle.cookie_client.specs.HostPrefix.{IsHeldRightly}
use Rattle.cookie_client.specs.Keeping.{HasReadPair}
use Rattle.cookies_txt.specs.Entries.{GivesEntries}
use Rattle.cookies_txt.specs.declared.error.LineFault.{LineFault}
use Rattle.cookies_txt.specs.declared.error.LineFault.TheVariants.{NotText, Fields, EmptyDomain, Flag, NoSlash}
use Rattle.cookies_txt.specs.declared.error.LineFault.TheVariants.{Number, EmptyName, Domain}
use Rattle.fonnalich_c.specs.Control.{has_control}
use Rattle.fonnalich_c.specs.declared.importing.Cause.{Cause}
use Rattle.fonnalich_c.specs.declared.importing.Cause.TheVariants.{Faulty, Control, Pair, HostPrefix}

-- ---- a row

-- a control character stands in its name, its value, its domain or its path
abbrev pub have_control : Row → Bool
have_control row =
    (has_control row.raw.cookie.name || has_control row.raw.cookie.value)
    || (has_control (domain_text row) || has_control row.path.text)

-- A client takes it where there is none, its name and its value are as a text gives them, and it obeys the prefix
-- `__Host-`; else the first of these that isn't so is why it doesn't.
abbrev pub IsBar : Row → Option Cause → Type 0
IsBar row None = (have_control row ≡ false) × HasReadPair row × IsHeldRightly row
IsBar row (Some (Faulty fault)) = ⊥
IsBar row (Some Control) = have_control row ≡ true
IsBar row (Some Pair) = (have_control row ≡ false) × (¬ HasReadPair row)
IsBar row (Some HostPrefix) = (have_control row ≡ false) × HasReadPair row × (¬ IsHeldRightly row)

-- ---- a line

-- a row that is taken, nothing where it is expired at the moment and so passed over, or why the line is refused
abbrev pub End : Type 0
End = Result (Option Row) Cause

-- what becomes of a line that gives this
abbrev pub IsEnd : ℤ → Result Row LineFault → End → Type 0
IsEnd now (Err fault) (Ok end) = ⊥
IsEnd now (Err fault) (Err cause) = cause ≡ Faulty fault
IsEnd now (Ok row) (Ok None) = is_live now row ≡ false
IsEnd now (Ok row) (Ok (Some taken)) = (taken ≡ row) × (is_live now row ≡ true) × IsBar row None
IsEnd now (Ok row) (Err cause) = (is_live now row ≡ true) × IsBar row (Some cause)

-- so of each line, by its number
abbrev pub AreEnds : ℤ → List (ℕ × Result Row LineFault) → List (ℕ × End) → Type 0
AreEnds now lines ends = Pairwise (λ line end. (end.0 ≡ line.0) × IsEnd now line.1 end.1) lines ends

abbrev pub taken_in : End → List Row
taken_in (Ok (Some row)) = row ∷ []
taken_in (Ok None) = []
taken_in (Err cause) = []

-- the rows that are taken, in the order of their lines
abbrev pub taken_of : List (ℕ × End) → List Row
taken_of ends = flat_map (λ end. taken_in end.1) ends

-- ---- what is told

abbrev pub fault_number : LineFault → ℕ
fault_number NotText = 40
fault_number Fields = 41
fault_number EmptyDomain = 42
fault_number Flag = 43
fault_number NoSlash = 44
fault_number Number = 45
fault_number EmptyName = 46
fault_number Domain = 47

-- the size of the number by which a cause is told in words
abbrev pub cause_number : Cause → ℕ
cause_number (Faulty fault) = fault_number fault
cause_number Control = 48
cause_number Pair = 49
cause_number HostPrefix = 50

-- a line's number in eight bytes, the lowest first, and that of its cause
abbrev pub refused_line : ℕ → Cause → List ℕ
refused_line number cause = to_le_bytes w64 number ++ cause_number cause ∷ []

abbrev pub refused_in : ℕ → End → List ℕ
refused_in number (Ok end) = []
refused_in number (Err cause) = refused_line number cause

-- so of each line that is refused, in their order
abbrev pub refused_lines : List (ℕ × End) → List ℕ
refused_lines ends = flat_map (λ end. refused_in end.0 end.1) ends

-- how many lines there are and how many of them are taken, in eight bytes each, the lowest first, and which are refused
abbrev pub answer_of : ℕ → List Row → List ℕ → List ℕ
answer_of lines taken refused = to_le_bytes w64 lines ++ (to_le_bytes w64 (length taken) ++ refused)

-- ---- all of it

-- The rows of the text's lines that are taken are put among the client's, one after another: of two with one key the
-- later takes the place of the earlier.
abbrev pub Imports : ℤ → List ℕ → Store → List ℕ → Store → Type 0
Imports now text old answer new =
    (lines : List (ℕ × Result Row LineFault)) × GivesEntries text lines
    × ((ends : List (ℕ × End)) × AreEnds now lines ends
    × (answer ≡ answer_of (length ends) (taken_of ends) (refused_lines ends))
    × (new ≡ record old { rows = put_all (taken_of ends) old.rows }))

-- a step of the code, for a private contract alone
abbrev pub Sorts : ℤ → List (ℕ × Result Row LineFault) → List Row → List ℕ → Type 0
Sorts now lines taken refused = (ends : List (ℕ × End)) × AreEnds now lines ends × (taken ≡ taken_of ends)
    × (refused ≡ refused_lines ends)
