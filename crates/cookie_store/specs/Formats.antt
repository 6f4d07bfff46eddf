-- The forms of a saved list, JSON and RON, and a row in JSON. No public contract names a word of this file.
use Rattle.std.specs.Prelude.{◌≡◌, ℕ, List}
use Rattle.saved_text.specs.Json.{list_text, row_text}
use Rattle.saved_text.specs.JsonReading.{IsJsonFault, AreNoRows}
use Rattle.saved_text.specs.RonLayout.{ron_layout}
use Rattle.saved_text.specs.RonReading.{ShowsOnly, IsRonFault}
use Rattle.saved_text.specs.Row.{Shown}
use Rattle.saved_text.specs.declared.error.SavedTextError.{SavedTextError}
use Rattle.cookie_store.specs.Rows.{Row}
use Rattle.cookie_store.specs.SavedRows.{IsShownAs}
use Rattle.cookie_store.specs.SavedTexts.{IsJsonOf}
use Rattle.cookie_store.specs.declared.serde.list.Format.{Format}
use Rattle.cookie_store.specs.declared.serde.list.Format.TheVariants.{Json, Ron}

-- the text of a list that is shown
abbrev pub layout : Format → List Shown → List ℕ
layout Json = list_text
layout Ron = ron_layout

-- the text shows this list, and no other
abbrev pub ShowsIn : Format → List ℕ → List Shown → Type 0
ShowsIn Json = IsJsonOf
ShowsIn Ron = ShowsOnly

-- why a text shows none that reads
abbrev pub IsFaultIn : Format → List ℕ → SavedTextError → Type 0
IsFaultIn Json = IsJsonFault AreNoRows
IsFaultIn Ron = IsRonFault

-- a text is the compact JSON of the row
abbrev pub IsJsonOfRow : Row → List ℕ → Type 0
IsJsonOfRow row text = (t : Shown) × IsShownAs row t × (text ≡ row_text t)
