-- The rows that are kept where they are saved and loaded again (own: docs/DEFINITIONS.md).
use Rattle.std.specs.Prelude.{◌≡◌, ℤ, List, Result, IsOk}
use Rattle.std.specs.List.{AllByRecursion}
use Rattle.cookie_text.specs.Printing.{printed}
use Rattle.cookie_text.specs.Reading.{ReadsPlain}
use Rattle.cookie_text.specs.ReadingBack.{Pairwise}
use Rattle.cookie_text.specs.Record.{Seen}
use Rattle.cookie_text.specs.declared.error.ParseError.{ParseError}
use Rattle.cookie_store.specs.Placing.{saved}
use Rattle.cookie_store.specs.Rows.{Row, live}
use Rattle.cookie_store.specs.SavedRows.{IsReread}
use Rattle.cookie_text.specs.Again.{IsReadPair}

-- Saved at a moment and loaded at another: the rows with a death that aren't dead at the first, each as it is read
-- back, without those that are dead then at the second.
pub record Keeps (rows : List Row) (saving loading : ℤ) (kept : List Row) : Type 0 where
  pub read : List Row
  pub reread : Pairwise IsReread (saved saving rows) read
  pub lives : kept ≡ live loading read

-- ---- the rows of a client

-- its name and value are as a text gives them
abbrev pub HasReadPair : Row → Type 0
HasReadPair row = IsReadPair row.raw.cookie.name row.raw.cookie.value

abbrev pub HaveReadPairs : List Row → Type 0
HaveReadPairs rows = AllByRecursion HasReadPair rows

-- ---- rows that come back

-- the second row has the first one's key and value, its whole domain and path, and its death
pub record IsSameRow (row other : Row) : Type 0 where
  pub domain : other.domain ≡ row.domain
  pub path : other.path ≡ row.path
  pub name : other.raw.cookie.name ≡ row.raw.cookie.name
  pub value : other.raw.cookie.value ≡ row.raw.cookie.value
  pub death : other.death ≡ row.death

-- the printed text of its raw cookie reads as a cookie, and the row is the same when it is read back, whatever else of
-- that cookie has changed
pub record ComesBack (row : Row) : Type 0 where
  pub reads : (outcome : Result Seen ParseError) → ReadsPlain (printed row.raw.cookie) outcome → IsOk outcome
  pub same : (read : Row) → IsReread row read → IsSameRow row read
