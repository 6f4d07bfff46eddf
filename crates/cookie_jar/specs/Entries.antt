-- What the lines of a `cookies.txt` and the items of a list of RON or JSON give, each read by itself: a row, its domain
-- in IDNA form, or none (this repository's own).
use Rattle.std.specs.Prelude.{◌≡◌, ◌⊎◌, ◌++◌, ℕ, pos, true, List, [], ◌∷◌, map, Option, None, Some, option_map, Result}
use Rattle.std.specs.Result.{result_ok}
use Rattle.std.specs.Str.{IsUtf8}
use Rattle.cookie_text.specs.ReadingBack.{Pairwise}
use Rattle.serde_json.specs.Data.{Data, array}
use Rattle.serde_json.specs.Find.{as_array}
use Rattle.serde_json.specs.Read.{read}
use Rattle.serde_json.specs.View.{items_of}
use Rattle.saved_text.specs.Json.{row_value}
use Rattle.saved_text.specs.JsonReading.{IsNoRow}
use Rattle.saved_text.specs.RonReading.{ShowsOnly}
use Rattle.saved_text.specs.Row.{Shown}
use Rattle.cookie_store.specs.Rows.{Row, Store}
use Rattle.cookie_store.specs.SavedRows.{IsLoadedFrom}
use Rattle.cookie_store.specs.SavedTexts.{Loads}
use Rattle.cookie_store.specs.StoredCookie.{stored_of}
use Rattle.cookie_store.specs.declared.stored_cookie.Cookie.{Cookie}
use Rattle.cookies_txt.specs.Entries.{GivesEntries as GivesLines}
use Rattle.cookies_txt.specs.declared.error.LineFault.{LineFault}
use Rattle.cookie_jar.specs.Reading.{IsNoText}
use Rattle.cookie_jar.specs.RonItems as ron
use Rattle.cookie_jar.specs.RowForms.{row_in_form}
use Rattle.cookie_jar.specs.declared.entries.Entry.{Entry}
use Rattle.cookie_jar.specs.declared.error.ImportError.{ImportError}
use Rattle.cookie_jar.specs.declared.error.ImportError.TheVariants as refusal
use Rattle.cookie_jar.specs.declared.form.Form.{Form}
use Rattle.cookie_jar.specs.declared.form.Form.TheVariants.{Ron, Json, Txt}
use Rattle.cookie_jar.specs.declared.importing.Cause.{Cause}

-- the row that is given, or none
abbrev pub row_of : Result Cookie Cause → Option Row
row_of given = option_map stored_of (result_ok given)

-- that of a line or an item that isn't passed over
abbrev pub entry_row : Entry → Option Row
entry_row entry = row_of entry.row

abbrev pub line_row : ℕ × Result Row LineFault → Option Row
line_row line = result_ok line.1

-- ---- items

-- what an item of JSON gives: the row that it shows, if it shows one
abbrev pub GivesItem : Data → Option Row → Type 0
GivesItem item given =
    (IsNoRow item × (given ≡ None))
    ⊎ ((row : Row) × ((shown : Shown) × (item ≡ row_value shown) × IsLoadedFrom shown row) × (given ≡ row_in_form row))

-- the text has no value of JSON, or one that is no list
abbrev pub IsNoList : List ℕ → Type 0
IsNoList text = (d : Data) → read text ≡ Some d → as_array d ≡ None

-- what the items of a text of JSON give, in their order
abbrev pub GivesJson : List ℕ → List (Option Row) → Type 0
GivesJson text entries =
    (items : List Data) × (read text ≡ Some (array (items_of items))) × Pairwise GivesItem items entries

-- an item of RON as a list of its own
abbrev pub bracketed : List ℕ → List ℕ
bracketed item = 91 ∷ [] ++ (item ++ 93 ∷ [])

-- the row of a list that has one
abbrev pub only_row : List Row → Option Row
only_row (row ∷ []) = row_in_form row
only_row other = None

-- what an item of RON gives: the row of the list of it alone, if that shows one
abbrev pub GivesPiece : List ℕ → Option Row → Type 0
GivesPiece item given =
    (IsNoText Ron (bracketed item) × (given ≡ None))
    ⊎ ((store : Store) × Loads ShowsOnly true (pos 0) (bracketed item) store × (given ≡ only_row store.rows))

-- ---- all

-- what a text of this form gives
abbrev pub GivesEntries : Form → List ℕ → List (Option Row) → Type 0
GivesEntries Ron text entries =
    (items : List (List ℕ)) × (ron.items_of text ≡ Some items) × Pairwise GivesPiece items entries
GivesEntries Json text entries = IsUtf8 text × GivesJson text entries
GivesEntries Txt text entries =
    (lines : List (ℕ × Result Row LineFault)) × GivesLines text lines × (entries ≡ map line_row lines)

-- the text has no items
abbrev pub HasNoItems : Form → List ℕ → Type 0
HasNoItems Ron text = ron.items_of text ≡ None
HasNoItems Json text = IsUtf8 text → IsNoList text
HasNoItems Txt text = ⊥

-- why a text gives none: it has no items, or want of memory
abbrev pub IsRefusal : Form → List ℕ → ImportError → Type 0
IsRefusal form text e = (e ≡ refusal.OutOfMemory) ⊎ ((e ≡ refusal.NoList) × HasNoItems form text)
