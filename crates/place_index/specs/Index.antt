-- The index of a vector of rows: from domain text to its part of the vector, and in it from path text to a
-- part of that, with the names of its rows.
use Rattle.std.specs.Prelude.{◌≡◌, ◌≢◌, ◌<◌, ◌≤◌, ◌+◌, ℕ, suc, List, [], ◌∷◌, length, Bool, true, false, Option, Some}
use Rattle.std.specs.Prelude.{None, IfSome, slice_get, option_map, nat_le, nat_lt, ◌&&◌, ◌++◌, ◌-◌, ◌^◌, map, filter}
use Rattle.std.specs.Prelude.{if◌then◌else◌}
use Rattle.std.specs.List.{list_any}
use Rattle.place_index.specs.Entries.{value_at, with_value}
use Rattle.place_index.specs.declared.part.DomainRows.{DomainRows}
use Rattle.place_index.specs.Parts.{Part}
use Rattle.place_index.specs.Places.{Place, is_of, is_at, is_same}

-- a domain's part: where it begins, how many rows it has, and its paths' parts, which count from where it begins
pub record DomainPart : Type 0 where
  pub start : ℕ
  pub len : ℕ
  pub paths : List (List ℕ × Part)

-- the part that begins at `start`
abbrev pub part_at : ℕ → DomainRows → DomainPart
part_at start rows = record { start = start; len = rows.len; paths = rows.paths }

abbrev pub Index : Type 0
Index = List (List ℕ × DomainPart)

-- the elements that pass are `len` from `start` on, at least one
pub record IsPart {A : Type 0} (test : A → Bool) (xs : List A) (start len : ℕ) : Type 0 where
  pub some : 0 < len
  pub within : start + len ≤ length xs
  pub before : (i : ℕ) (x : A) → i < start → slice_get xs i ≡ Some x → test x ≡ false
  pub inside : (i : ℕ) (x : A) → start ≤ i → i < start + len → slice_get xs i ≡ Some x → test x ≡ true
  pub after : (i : ℕ) (x : A) → start + len ≤ i → slice_get xs i ≡ Some x → test x ≡ false

-- no element passes
abbrev pub IsNowhere : {A : Type 0} → (A → Bool) → List A → Type 0
IsNowhere {A} test xs = (i : ℕ) (x : A) → slice_get xs i ≡ Some x → test x ≡ false

-- the path's part, where it has one, is that of the rows of the domain and the path
abbrev pub PathAgrees : List Place → List ℕ → ℕ → List ℕ → Option Part → Type 0
PathAgrees rows domain start path None = IsNowhere (is_at domain path) rows
PathAgrees rows domain start path (Some part) =
    IsPart (is_at domain path) rows (start + part.start) part.len

abbrev pub PathsAgree : List Place → List ℕ → DomainPart → Type 0
PathsAgree rows domain part =
    (path : List ℕ) → PathAgrees rows domain part.start path (value_at path part.paths)

-- the domain's part, where it has one, is that of its rows, and its paths' parts are theirs
abbrev pub DomainAgrees : List Place → List ℕ → Option DomainPart → Type 0
DomainAgrees rows domain None = IsNowhere (is_of domain) rows
DomainAgrees rows domain (Some part) =
    IsPart (is_of domain) rows part.start part.len × PathsAgree rows domain part

-- each path's part has a row, and lies in the domain's
abbrev pub PathsInside : DomainRows → Type 0
PathsInside domain =
    (text : List ℕ)
    → IfSome (value_at text domain.paths) (λ part. (0 < part.len) × (part.start + part.len ≤ domain.len))

abbrev pub PartsAgree : List Place → Index → Type 0
PartsAgree rows index = (domain : List ℕ) → DomainAgrees rows domain (value_at domain index)

-- the names of the rows of the domain and the path, in their order
abbrev pub names_at : List ℕ → List ℕ → List Place → List (List ℕ)
names_at domain path rows = map (λ row. row.name) (filter (is_at domain path) rows)

-- the names that the index has of a path, and of a path of a domain; none where it has no part of it
abbrev pub names_of : Option Part → List (List ℕ)
names_of None = []
names_of (Some part) = part.names

abbrev pub names_in : List ℕ → Option DomainPart → List (List ℕ)
names_in path None = []
names_in path (Some part) = names_of (value_at path part.paths)

abbrev pub NamesAgree : List Place → Index → Type 0
NamesAgree rows index =
    (domain path : List ℕ) → names_in path (value_at domain index) ≡ names_at domain path rows

-- the index is that of the rows: the parts are theirs, and so are the names in each
pub record Agrees (rows : List Place) (index : Index) : Type 0 where
  pub parts : PartsAgree rows index
  pub names : NamesAgree rows index

-- the largest number of 64 bits
abbrev pub last : ℕ
last = 2 ^ 64 - 1

-- the index is that of some rows, no more than 64 bits can number
pub record IsIndex (index : Index) : Type 0 where
  pub places : List Place
  pub agrees : Agrees places index
  pub room : length places ≤ last

-- where a part begins and ends
abbrev pub Span : Type 0
Span = ℕ × ℕ

-- the row is the one there, and at `None` there is none
abbrev pub StandsAt : Place → List Place → Option ℕ → Type 0
StandsAt place rows None = list_any (is_same place) rows ≡ false
StandsAt place rows (Some at) = slice_get rows at ≡ Some place

-- ---- one row more

-- where an element stands after one was put in at p
abbrev pub moved : ℕ → ℕ → ℕ
moved p at = if nat_le p at && nat_lt at last then suc at else at

abbrev pub moved_domain : ℕ → DomainPart → DomainPart
moved_domain p part = record part { start = moved p part.start }

abbrev pub moved_path : ℕ → Part → Part
moved_path p part = record part { start = moved p part.start }

-- every other domain's part is where it was, or one further
abbrev pub OthersMove : ℕ → List ℕ → Index → Index → Type 0
OthersMove p domain old new =
    (text : List ℕ) → text ≢ domain → value_at text new ≡ option_map (moved_domain p) (value_at text old)

-- every other path's part likewise
abbrev pub OtherPathsMove : ℕ → List ℕ → List (List ℕ × Part) → List (List ℕ × Part) → Type 0
OtherPathsMove p path old new =
    (text : List ℕ) → text ≢ path → value_at text new ≡ option_map (moved_path p) (value_at text old)

-- The index after a row of a new domain was put in at p, which is the end.
pub record BeginsDomain (row : Place) (p : ℕ) (old new : Index) : Type 0 where
  pub absent : value_at row.domain old ≡ None
  pub begun : value_at row.domain new ≡ Some (record {
    start = p;
    len = 1;
    paths = (row.path, record { start = 0; len = 1; names = row.name ∷ [] }) ∷ [];
  })
  pub others : (text : List ℕ) → text ≢ row.domain → value_at text new ≡ value_at text old

-- The same of a row of a new path of a domain that is there, put in after the domain's last row.
pub record BeginsPath (row : Place) (p : ℕ) (old new : Index) : Type 0 where
  pub part : DomainPart
  pub there : value_at row.domain old ≡ Some part
  pub absent : value_at row.path part.paths ≡ None
  pub at : p ≡ part.start + part.len
  pub grown : value_at row.domain new ≡ Some (record {
    start = part.start;
    len = suc part.len;
    paths = with_value part.paths row.path (record { start = part.len; len = 1; names = row.name ∷ [] });
  })
  pub others : OthersMove p row.domain old new

-- The same of a row of a path that is there, put in after the path's last row.
pub record GrowsPath (row : Place) (p : ℕ) (old new : Index) : Type 0 where
  pub part : DomainPart
  pub there : value_at row.domain old ≡ Some part
  pub path : Part
  pub path_there : value_at row.path part.paths ≡ Some path
  pub at : p ≡ part.start + (path.start + path.len)
  pub paths : List (List ℕ × Part)
  pub grown : value_at row.domain new ≡ Some (record {
    start = part.start;
    len = suc part.len;
    paths = paths;
  })
  pub path_grown : value_at row.path paths ≡ Some (record {
    start = path.start;
    len = suc path.len;
    names = path.names ++ row.name ∷ [];
  })
  pub other_paths : OtherPathsMove (path.start + path.len) row.path part.paths paths
  pub others : OthersMove p row.domain old new
