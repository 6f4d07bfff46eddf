-- Rows that are read from values and texts of JSON.
use Rattle.std.specs.Prelude.{◌≡◌, ℕ, List, [], ◌∷◌, Option, Some, None}
use Rattle.std.specs.List.{AllByRecursion}
use Rattle.serde_json.specs.Data.{Data}
use Rattle.serde_json.specs.Read.{read}
use Rattle.saved_text.specs.Json.{row_value, rows_value}
use Rattle.saved_text.specs.Row.{Shown}
use Rattle.saved_text.specs.Saved.{IsCookieText, IsDeath, IsShown}
use Rattle.saved_text.specs.declared.error.SavedTextError.{SavedTextError}
use Rattle.saved_text.specs.declared.error.SavedTextError.TheVariants as fault
use Rattle.saved_text.specs.declared.row.SavedExpiration.{SavedExpiration}
use Rattle.saved_text.specs.declared.row.SavedRow.{SavedRow}

-- ---- what reads

-- the end of the session, or the date of a moment
abbrev pub HasDeath : Option (List ℕ) → Type 0
HasDeath date = (e : SavedExpiration) × IsDeath date e

-- the raw cookie reads, and so does the date
abbrev pub IsReadable : Shown → Type 0
IsReadable t = IsCookieText t.raw × HasDeath t.expires

-- the rows are what a text shows, one by one
abbrev pub AreShown : List Shown → List SavedRow → Type 0
AreShown [] [] = Unit {0}
AreShown [] (r ∷ rs) = ⊥
AreShown (t ∷ ts) [] = ⊥
AreShown (t ∷ ts) (r ∷ rs) = IsShown t r × AreShown ts rs

-- ---- values

-- The value shows this row.
abbrev pub ShowsRow : Data → SavedRow → Type 0
ShowsRow d r = (t : Shown) × (d ≡ row_value t) × IsShown t r

-- The value shows these rows.
abbrev pub ShowsRowsInJson : Data → List SavedRow → Type 0
ShowsRowsInJson d rs = (ts : List Shown) × (d ≡ rows_value ts) × AreShown ts rs

-- The value is of another shape, or what it shows doesn't read.
abbrev pub IsNoRow : Data → Type 0
IsNoRow d = (t : Shown) → d ≡ row_value t → ¬ (IsReadable t)

abbrev pub AreNoRows : Data → Type 0
AreNoRows d = (ts : List Shown) → d ≡ rows_value ts → ¬ (AllByRecursion IsReadable ts)

-- Why a value isn't read: `Shape` only where it fits.
abbrev pub IsShapeFault : Type 0 → SavedTextError → Type 0
IsShapeFault fits fault.Shape = fits
IsShapeFault fits fault.OutOfMemory = Unit {0}
IsShapeFault fits fault.NotText = ⊥
IsShapeFault fits fault.Json = ⊥
IsShapeFault fits (fault.Ron n) = ⊥

-- ---- texts

-- Why a text isn't read: it has no value, or its value is of another shape or doesn't read.
abbrev pub IsJsonFault : (Data → Type 0) → List ℕ → SavedTextError → Type 0
IsJsonFault AreNone text fault.Json = read text ≡ None
IsJsonFault AreNone text fault.Shape = (d : Data) × (read text ≡ Some d) × AreNone d
IsJsonFault AreNone text fault.OutOfMemory = Unit {0}
IsJsonFault AreNone text fault.NotText = ⊥
IsJsonFault AreNone text (fault.Ron n) = ⊥
