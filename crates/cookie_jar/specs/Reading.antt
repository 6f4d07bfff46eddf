-- The rows that a jar takes of a text, and why it takes none (this repository's own).
use Rattle.std.specs.Prelude.{◌≡◌, ◌≢◌, ◌⊎◌, ℕ, ℤ, List, false}
use Rattle.saved_text.specs.RonReading.{ShowsOnly}
use Rattle.store_parts.specs.declared.error.Error.{Error}
use Rattle.store_parts.specs.declared.error.Error.TheVariants as saved
use Rattle.cookie_store.specs.Placing.{loaded_store}
use Rattle.cookie_store.specs.Rows.{Row, Store}
use Rattle.cookie_store.specs.SavedTexts.{IsJsonOf, IsJsonRefusal, IsRonRefusal, Loads}
use Rattle.cookies_txt.specs.Reading.{GivesRows, IsBytesRefusal}
use Rattle.cookies_txt.specs.declared.error.ReadError.{ReadError as LinesError}
use Rattle.cookies_txt.specs.declared.error.ReadError.TheVariants as lines
use Rattle.cookie_jar.specs.declared.error.ReadError.{ReadError}
use Rattle.cookie_jar.specs.declared.error.ReadError.TheVariants.{OutOfMemory}
use Rattle.cookie_jar.specs.declared.form.Form.{Form}
use Rattle.cookie_jar.specs.declared.form.Form.TheVariants.{Ron, Json, Txt}

-- the store of the rows that a text of this form says and that aren't expired at the moment, placed by their keys
abbrev pub Reads : Form → ℤ → List ℕ → Store → Type 0
Reads Ron now text store = Loads ShowsOnly false now text store
Reads Json now text store = Loads IsJsonOf false now text store
Reads Txt now text store = (rows : List Row) × GivesRows text rows × (store ≡ loaded_store false now rows)

-- the text isn't one of the form
abbrev pub IsNoText : Form → List ℕ → Type 0
IsNoText Ron text = (cause : Error) × (cause ≢ saved.OutOfMemory) × IsRonRefusal text cause
IsNoText Json text = (cause : Error) × (cause ≢ saved.OutOfMemory) × IsJsonRefusal text cause
IsNoText Txt text = (cause : LinesError) × (cause ≢ lines.OutOfMemory) × IsBytesRefusal text cause

-- so it isn't read, or for want of memory
abbrev pub IsUnread : Form → List ℕ → ReadError → Type 0
IsUnread form text e = (e ≡ OutOfMemory) ⊎ ((e ≢ OutOfMemory) × IsNoText form text)
