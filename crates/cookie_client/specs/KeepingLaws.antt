-- What comes back of the rows of a client where they are saved and loaded again.
use Rattle.std.specs.Prelude.{◌≡◌, ℕ, ℤ, List, false}
use Rattle.std.specs.List.{AllByRecursion}
use Rattle.std.specs.Str.{IsUtf8}
use Rattle.cookie_text.specs.ReadingBack.{Pairwise}
use Rattle.saved_text.specs.RonLayout.{ron_layout}
use Rattle.saved_text.specs.RonReading.{ShowsOnly}
use Rattle.store_parts.specs.declared.error.Error.{Error}
use Rattle.store_parts.specs.declared.error.Error.TheVariants.{OutOfMemory}
use Rattle.cookie_store.specs.Grouped.{AreGrouped}
use Rattle.cookie_store.specs.Placing.{saved}
use Rattle.cookie_store.specs.Rows.{Row, Store}
use Rattle.cookie_store.specs.SavedLaws.{IsOfBytes}
use Rattle.cookie_store.specs.SavedTexts.{Saves, Loads, IsRonRefusal}
use Rattle.cookie_client.specs.Keeping.{Keeps, ComesBack, IsSameRow, HaveReadPairs}

-- of rows that come back those with a death that is to come are kept, one by one the same, and none is added
abbrev pub RestartsKeepRows : Type 0
RestartsKeepRows =
    (rows : List Row) (now : ℤ) (kept : List Row) → AllByRecursion ComesBack rows → Keeps rows now now kept
    → Pairwise IsSameRow (saved now rows) kept

-- what is saved at a moment of rows that stand in groups, as a client's do, their names and values being as texts give
-- them, and is loaded of that text at another: the rows that are kept
abbrev pub SavedRowsAreKept : Type 0
SavedRowsAreKept =
    (rows : List Row) (saving loading : ℤ) (text : List ℕ) (store : Store) → HaveReadPairs rows → AreGrouped rows
    → AllByRecursion IsOfBytes (saved saving rows) → Saves ron_layout (saved saving rows) text
    → Loads ShowsOnly false loading text store → Keeps rows saving loading store.rows

-- and that text is refused for want of memory alone
abbrev pub SavedTextsAreRead : Type 0
SavedTextsAreRead =
    (rows : List Row) (saving : ℤ) (text : List ℕ) (e : Error) → HaveReadPairs rows
    → AllByRecursion IsOfBytes (saved saving rows) → IsUtf8 text → Saves ron_layout (saved saving rows) text
    → IsRonRefusal text e → e ≡ OutOfMemory
