-- A plain list of rows, each a domain, a path and a name, and the index that goes with it.
use Rattle.std.specs.Prelude.{◌≡◌, ℕ, List, map, false}
use Rattle.std.specs.List.{list_any}
use Rattle.std.specs.Borrow.{Bor}
use Rattle.place_index.specs.Index.{Index, Agrees}
use Rattle.place_index.specs.Places.{Place, is_same}

abbrev pub Row : Type 0
Row = Bor (List ℕ) × Bor (List ℕ) × Bor (List ℕ)

abbrev pub place_of : Row → Place
place_of row = record { domain = row.0.now; path = row.1.now; name = row.2.now }

abbrev pub places_of : List Row → List Place
places_of rows = map place_of rows

-- the index is that of the rows
abbrev pub AreIndexed : List Row → Index → Type 0
AreIndexed rows index = Agrees (places_of rows) index

-- none of the rows has the row's domain, path and name
abbrev pub IsAbsent : Row → List Row → Type 0
IsAbsent row rows = list_any (is_same (place_of row)) (places_of rows) ≡ false
