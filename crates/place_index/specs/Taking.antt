-- A row fewer.
use Rattle.std.specs.Prelude.{◌≡◌, ◌≢◌, ◌<◌, ◌≤◌, ◌-◌, ℕ, List, length, Option, Some, None, IfSome, slice_get}
use Rattle.std.specs.Prelude.{option_map}
use Rattle.std.specs.Prelude.{nat_lt, if◌then◌else◌}
use Rattle.std.specs.List.{remove}
use Rattle.place_index.specs.Entries.{value_at}
use Rattle.place_index.specs.Index.{Index, DomainPart, Agrees, last}
use Rattle.place_index.specs.Places.{Place}
use Rattle.place_index.specs.declared.part.DomainRows.{DomainRows}
use Rattle.place_index.specs.Parts.{Part}

-- the index is that of some rows, of which the one at `at` is of the domain and the path
pub record HasRow (domain path : List ℕ) (at : ℕ) (index : Index) : Type 0 where
  pub places : List Place
  pub agrees : Agrees places index
  pub name : List ℕ
  pub there : slice_get places at ≡ Some (record { domain = domain; path = path; name = name })
  pub room : length places ≤ last

-- whatever rows with the place's at `at` the index was that of, it is that of the others
abbrev pub TakesPlace : Place → ℕ → Index → Index → Type 0
TakesPlace place at old new =
    (places : List Place) → Agrees places old → slice_get places at ≡ Some place → Agrees (remove places at) new

-- the same of a row of the domain and the path, of whatever name
abbrev pub TakesAt : List ℕ → List ℕ → ℕ → Index → Index → Type 0
TakesAt domain path at old new =
    (name : List ℕ) → TakesPlace (record { domain = domain; path = path; name = name }) at old new

-- where an element stands after the one at p was taken out
abbrev pub moved_back : ℕ → ℕ → ℕ
moved_back p at = if nat_lt p at then at - 1 else at

abbrev pub domain_back : ℕ → DomainPart → DomainPart
domain_back p part = record part { start = moved_back p part.start }

abbrev pub path_back : ℕ → Part → Part
path_back p part = record part { start = moved_back p part.start }

-- every other domain's part is where it was, or one earlier
abbrev pub OthersMoveBack : ℕ → List ℕ → Index → Index → Type 0
OthersMoveBack p domain old new =
    (text : List ℕ) → text ≢ domain → value_at text new ≡ option_map (domain_back p) (value_at text old)

-- every other path's part likewise
abbrev pub OtherPathsMoveBack : ℕ → List ℕ → List (List ℕ × Part) → List (List ℕ × Part) → Type 0
OtherPathsMoveBack p path old new =
    (text : List ℕ) → text ≢ path → value_at text new ≡ option_map (path_back p) (value_at text old)

-- ---- one row fewer in an index

-- The index after the row at p, its domain's only one, was taken out.
pub record EndsDomain (row : Place) (p : ℕ) (old new : Index) : Type 0 where
  pub part : DomainPart
  pub there : value_at row.domain old ≡ Some part
  pub only : part.len ≡ 1
  pub ended : value_at row.domain new ≡ None
  pub others : OthersMoveBack p row.domain old new

-- The same of a path's only row, in a domain that has others.
pub record EndsPath (row : Place) (p : ℕ) (old new : Index) : Type 0 where
  pub part : DomainPart
  pub there : value_at row.domain old ≡ Some part
  pub more : 1 < part.len
  pub path : Part
  pub path_there : value_at row.path part.paths ≡ Some path
  pub only : path.len ≡ 1
  pub paths : List (List ℕ × Part)
  pub shrunk : value_at row.domain new ≡ Some (record {
    start = part.start;
    len = part.len - 1;
    paths = paths;
  })
  pub path_ended : value_at row.path paths ≡ None
  pub other_paths : OtherPathsMoveBack (p - part.start) row.path part.paths paths
  pub others : OthersMoveBack p row.domain old new

-- The same of a row of a path that has others.
pub record ShrinksPath (row : Place) (p : ℕ) (old new : Index) : Type 0 where
  pub part : DomainPart
  pub there : value_at row.domain old ≡ Some part
  pub path : Part
  pub path_there : value_at row.path part.paths ≡ Some path
  pub more : 1 < path.len
  pub paths : List (List ℕ × Part)
  pub shrunk : value_at row.domain new ≡ Some (record {
    start = part.start;
    len = part.len - 1;
    paths = paths;
  })
  pub path_shrunk : value_at row.path paths ≡ Some (record {
    start = path.start;
    len = path.len - 1;
    names = remove path.names (p - part.start - path.start);
  })
  pub other_paths : OtherPathsMoveBack (p - part.start) row.path part.paths paths
  pub others : OthersMoveBack p row.domain old new

-- the part of a domain's only row goes, else that of a path's only row, else the path's is one shorter
pub record AgreesWithout : Type 0 where
  pub domain : (rows : List Place) (row : Place) (p : ℕ) (old new : Index) → Agrees rows old
      → slice_get rows p ≡ Some row → EndsDomain row p old new → Agrees (remove rows p) new
  pub path : (rows : List Place) (row : Place) (p : ℕ) (old new : Index) → Agrees rows old
      → slice_get rows p ≡ Some row → EndsPath row p old new → Agrees (remove rows p) new
  pub row : (rows : List Place) (row : Place) (p : ℕ) (old new : Index) → Agrees rows old
      → slice_get rows p ≡ Some row → ShrinksPath row p old new → Agrees (remove rows p) new

-- ---- one row fewer in a domain's part

-- the part without its row at `at`, counted from where the domain begins; none where that was the only one
abbrev pub shorter : ℕ → Option Part → Option Part
shorter at None = None
shorter at (Some part) =
    if nat_lt 1 part.len
    then Some (record {
      start = part.start;
      len = part.len - 1;
      names = remove part.names (at - part.start);
    })
    else None

-- the path's part, where it has one, begins at `at` or before
abbrev pub BeginsBy : ℕ → Option Part → Type 0
BeginsBy at part = IfSome part (λ p. p.start ≤ at)

-- the path's part is shorter, and the others are as they were
pub record Shortens (path : List ℕ) (at : ℕ) (old new : List (List ℕ × Part)) : Type 0 where
  pub own : value_at path new ≡ shorter at (value_at path old)
  pub others : (text : List ℕ) → text ≢ path → value_at text new ≡ value_at text old

-- the domain has a row fewer, at `at` from where it begins, and it is the path's
pub record Takes (path : List ℕ) (at : ℕ) (old new : DomainRows) : Type 0 where
  pub len : new.len ≡ old.len - 1
  pub own : value_at path new.paths ≡ option_map (path_back at) (shorter at (value_at path old.paths))
  pub others : OtherPathsMoveBack at path old.paths new.paths
