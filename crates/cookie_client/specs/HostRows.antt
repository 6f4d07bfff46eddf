-- Every row that a client holds whose decoded name begins with `__Host-` is of one host alone, of the path `/` from an
-- attribute, and conforms (the draft that follows RFC 6265, 4.1.3.2 and 5.7).
use Rattle.std.specs.Prelude.{ℕ, ℤ, List, false}
use Rattle.std.specs.List.{AllByRecursion}
use Rattle.publicsuffix.specs.Rules.{Rule}
use Rattle.url.specs.Parts.{Parts}
use Rattle.cookie_store.specs.Given.{ArePicked}
use Rattle.cookie_store.specs.Grouped.{AreGrouped}
use Rattle.cookie_store.specs.Placing.{saved}
use Rattle.cookie_store.specs.Rows.{Row, Store}
use Rattle.cookie_store.specs.SavedLaws.{IsOfBytes}
use Rattle.cookie_store.specs.SavedTexts.{Saves, Loads}
use Rattle.saved_text.specs.RonLayout.{ron_layout}
use Rattle.saved_text.specs.RonReading.{ShowsOnly}
use Rattle.cookie_client.specs.Accept.{Takes}
use Rattle.cookie_client.specs.HostPrefix.{IsHeldRightly, AreHeldRightly}
use Rattle.cookie_client.specs.Keeping.{Keeps, HaveReadPairs}

-- an answer leaves such rows
abbrev pub AnswersHoldRightly : Type 0
AnswersHoldRightly =
    (list : List Rule) (rows : List Row) (url : Parts) (now : ℤ) (lines : List (List ℕ)) (new : List Row)
    → Takes list rows url now lines new → AreHeldRightly rows → AreHeldRightly new

-- so does a restart, and loading would drop none of what it keeps
abbrev pub RestartsHoldRightly : Type 0
RestartsHoldRightly =
    (rows : List Row) (saving loading : ℤ) (kept : List Row) → HaveReadPairs rows → AreHeldRightly rows
    → Keeps rows saving loading kept → AreHeldRightly kept × ArePicked IsHeldRightly kept kept

-- and loading drops none of the rows that were saved of a client's
abbrev pub SavedRowsHoldRightly : Type 0
SavedRowsHoldRightly =
    (rows : List Row) (saving loading : ℤ) (text : List ℕ) (store : Store) (left : List Row) → HaveReadPairs rows
    → AreHeldRightly rows → AreGrouped rows → AllByRecursion IsOfBytes (saved saving rows)
    → Saves ron_layout (saved saving rows) text → Loads ShowsOnly false loading text store
    → ArePicked IsHeldRightly store.rows left → Keeps rows saving loading left
