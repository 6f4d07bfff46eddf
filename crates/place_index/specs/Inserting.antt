-- The index of a vector agrees with its rows after one more was put in.
use Rattle.std.specs.Prelude.{◌≡◌, ◌≤◌, ℕ, List, length}
use Rattle.std.specs.List.{insert}
use Rattle.place_index.specs.Index.{Index, Agrees, BeginsDomain, BeginsPath, GrowsPath, last}
use Rattle.place_index.specs.Places.{Place}

-- a row of a new domain goes last, one of a new path behind its domain's rows, any other behind its path's
pub record AgreesAfter : Type 0 where
  pub domain : (rows : List Place) (row : Place) (p : ℕ) (old new : Index) → Agrees rows old → length rows ≤ last
      → p ≡ length rows → BeginsDomain row p old new → Agrees (insert rows p row) new
  pub path : (rows : List Place) (row : Place) (p : ℕ) (old new : Index) → Agrees rows old → length rows ≤ last
      → BeginsPath row p old new → Agrees (insert rows p row) new
  pub row : (rows : List Place) (row : Place) (p : ℕ) (old new : Index) → Agrees rows old → length rows ≤ last
      → GrowsPath row p old new → Agrees (insert rows p row) new
