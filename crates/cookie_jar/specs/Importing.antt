-- What an import takes of the lines of a `cookies.txt`, or of the items of a list of RON or JSON, each read by itself
-- (this repository's own).
use Rattle.std.specs.Prelude.{◌≡◌, ◌+◌, ◌++◌, ℕ, ℤ, true, false, not, List, [], ◌∷◌, Option, Some, None, ⊤, filter}
use Rattle.std.specs.Prelude.{length}
use Rattle.std.specs.List.{flat_map}
use Rattle.cookie_store.specs.Given.{ArePicked}
use Rattle.cookie_store.specs.Placing.{loaded}
use Rattle.cookie_store.specs.Rows.{Row, is_live, live}
use Rattle.cookie_jar.specs.Entries.{GivesEntries}
use Rattle.cookie_jar.specs.Keeping.{IsTaken}
use Rattle.cookie_jar.specs.declared.form.Form.{Form}
use Rattle.cookie_jar.specs.declared.importing.Imported.{Imported}

-- ---- the rows that are read

-- the row, or none
abbrev pub lone : Option Row → List Row
lone None = []
lone (Some row) = row ∷ []

-- those of all entries, in their order
abbrev pub rows_in : List (Option Row) → List Row
rows_in entries = flat_map lone entries

-- those that are expired at the moment
abbrev pub expired_of : ℤ → List Row → List Row
expired_of now rows = filter (λ row. not (is_live now row)) rows

-- ---- what is refused

-- It is no row, or one that isn't expired at the moment and that isn't taken into a jar that is saved in this form.
abbrev pub IsUntaken : Form → ℤ → Option Row → Type 0
IsUntaken form now None = ⊤
IsUntaken form now (Some row) = (is_live now row ≡ true) × (¬ (IsTaken form row))

-- so many entries are refused
abbrev pub AreRefused : Form → ℤ → List (Option Row) → ℕ → Type 0
AreRefused form now entries refused =
    (left : List (Option Row)) × ArePicked (IsUntaken form now) entries left × (refused ≡ length left)

-- ---- what an import does

-- How many rows are taken; how many are passed over since they are expired, and how many for a later row of their key;
-- and how many lines or items are refused.
pub record ImportText : Type 0 where
  pub rows : ℕ
  pub expired : ℕ
  pub replaced : ℕ
  pub refused : ℕ

-- Rows, and behind them those of entries that are taken into a jar that is saved in this form, placed by their keys,
-- without those that are expired at the moment. Of the entries' rows of one key the last counts as taken, and the
-- others as replaced.
pub record ImportsEntries (form : Form) (now : ℤ) (entries : List (Option Row)) (old : List Row) (told : ImportText)
    (new : List Row) : Type 0 where
  pub kept : List Row
  pub are_kept : ArePicked (IsTaken form) (live now (rows_in entries)) kept
  pub new_rows : new ≡ loaded false now (old ++ loaded false now kept)
  pub taken : told.rows ≡ length (loaded false now kept)
  pub replaced : told.rows + told.replaced ≡ length kept
  pub expired : told.expired ≡ length (expired_of now (rows_in entries))
  pub refused : AreRefused form now entries told.refused

-- so with what a text of the first form gives, in a jar that is saved in the second
abbrev pub Imports : Form → Form → ℤ → List ℕ → List Row → ImportText → List Row → Type 0
Imports form held now text old told new =
    (entries : List (Option Row)) × GivesEntries form text entries × ImportsEntries held now entries old told new

-- ---- what the code answers

abbrev pub import_text : Imported → ImportText
import_text done = record {
  rows = done.rows;
  expired = done.expired;
  replaced = done.replaced;
  refused = length done.refused.items;
}
