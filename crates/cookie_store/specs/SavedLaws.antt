-- What becomes of rows that are saved and then loaded.
use Rattle.std.specs.Prelude.{◌≡◌, ℕ, ℤ, List, [], Bool}
use Rattle.std.specs.List.{AllByRecursion}
use Rattle.std.specs.Str.{IsUtf8}
use Rattle.cookie_text.specs.Printing.{printed}
use Rattle.cookie_text.specs.Reading.{IsPair, first_piece}
use Rattle.cookie_text.specs.ReadingBack.{Pairwise}
use Rattle.saved_text.specs.Json.{list_text}
use Rattle.saved_text.specs.RonLayout.{ron_layout}
use Rattle.saved_text.specs.RonReading.{ShowsOnly}
use Rattle.saved_text.specs.RowWords.{AreBytes}
use Rattle.store_parts.specs.declared.error.Error.{Error}
use Rattle.store_parts.specs.declared.error.Error.TheVariants.{OutOfMemory}
use Rattle.cookie_store.specs.Grouped.{AreGrouped}
use Rattle.cookie_store.specs.Placing.{chosen, loaded_store}
use Rattle.cookie_store.specs.Rows.{Row, Store, HaveOwnKeys, domain_text}
use Rattle.cookie_store.specs.SavedRows.{IsReread}
use Rattle.cookie_store.specs.SavedTexts.{Saves, Loads, IsJsonOf, IsRonRefusal, IsJsonRefusal}

-- the texts of a row are bytes, as those of each store's rows are
pub record IsOfBytes (row : Row) : Type 0 where
  pub raw : AreBytes (printed row.raw.cookie)
  pub path : AreBytes row.path.text
  pub domain : AreBytes (domain_text row)

-- what a row prints begins with a pair, so it reads as a cookie (RFC 6265, section 5.2)
abbrev pub PrintsCookie : Row → Type 0
PrintsCookie row = IsPair (first_piece (printed row.raw.cookie))

-- A store of the rows as they are reread, placed by their keys. Those of rows that are grouped, as a store's are,
-- are in their places already, unless what was reread gave two of them one key: then they are all of the store's rows.
pub record HoldsReread (with_expired : Bool) (now : ℤ) (rows : List Row) (store : Store) : Type 0 where
  pub reread : List Row
  pub pairs : Pairwise IsReread rows reread
  pub placed : store ≡ loaded_store with_expired now reread
  pub stay : AreGrouped rows → HaveOwnKeys reread
      → store ≡ record { rows = chosen with_expired now reread; suffixes = [] }

-- what was saved in RON and is loaded of that is the rows as they are reread
abbrev pub RonComesBack : Type 0
RonComesBack =
    (rows : List Row) (text : List ℕ) (with_expired : Bool) (now : ℤ) (store : Store)
    → AllByRecursion IsOfBytes rows → Saves ron_layout rows text → Loads ShowsOnly with_expired now text store
    → HoldsReread with_expired now rows store

-- and it is refused for want of memory alone, where what each row prints reads
abbrev pub RonIsRead : Type 0
RonIsRead =
    (rows : List Row) (text : List ℕ) (e : Error) → AllByRecursion IsOfBytes rows → AllByRecursion PrintsCookie rows
    → IsUtf8 text → Saves ron_layout rows text → IsRonRefusal text e → e ≡ OutOfMemory

-- so it is with JSON
abbrev pub JsonComesBack : Type 0
JsonComesBack =
    (rows : List Row) (text : List ℕ) (with_expired : Bool) (now : ℤ) (store : Store)
    → Saves list_text rows text → Loads IsJsonOf with_expired now text store → HoldsReread with_expired now rows store

abbrev pub JsonIsRead : Type 0
JsonIsRead =
    (rows : List Row) (text : List ℕ) (e : Error) → AllByRecursion PrintsCookie rows
    → IsUtf8 text → Saves list_text rows text → IsJsonRefusal text e → e ≡ OutOfMemory
