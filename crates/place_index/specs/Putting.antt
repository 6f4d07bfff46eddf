-- A row more in a domain's part.
use Rattle.std.specs.Prelude.{◌≡◌, ◌⊎◌, ◌<◌, ◌+◌, ◌++◌, ◌&&◌, ℕ, suc, length, List, [], ◌∷◌, Bool}
use Rattle.std.specs.Prelude.{false, Some, None, IfSome}
use Rattle.std.specs.Prelude.{not, if◌then◌else◌}
use Rattle.place_index.specs.Entries.{value_at, with_value}
use Rattle.place_index.specs.declared.part.DomainRows.{DomainRows}
use Rattle.place_index.specs.Parts.{Part}
use Rattle.std.specs.List.{insert, list_any}
use Rattle.std.specs.Str.{bytes_eq}
use Rattle.place_index.specs.Index.{Index, Agrees, PathsInside, OtherPathsMove, last}
use Rattle.place_index.specs.Places.{Place, is_at, is_of, is_same}

-- there is room for a row more, the paths' parts lie in the domain's, and the path has no row of the name
pub record HasRoom (path name : List ℕ) (domain : DomainRows) : Type 0 where
  pub room : domain.len < last
  pub inside : PathsInside domain
  pub absent : IfSome (value_at path domain.paths) (λ part. list_any (bytes_eq name) part.names ≡ false)

-- the path is new, and its first row goes last
pub record PutsLast (path name : List ℕ) (old new : DomainRows) (at : ℕ) : Type 0 where
  pub absent : value_at path old.paths ≡ None
  pub at_end : at ≡ old.len
  pub is : new ≡ record {
    len = suc old.len;
    paths = with_value old.paths path (record { start = old.len; len = 1; names = name ∷ [] });
  }

-- the path is there, and the row goes behind its last
pub record PutsBehind (path name : List ℕ) (old new : DomainRows) (at : ℕ) : Type 0 where
  pub part : Part
  pub there : value_at path old.paths ≡ Some part
  pub at_end : at ≡ part.start + part.len
  pub len : new.len ≡ suc old.len
  pub grown : value_at path new.paths ≡ Some (record {
    start = part.start;
    len = suc part.len;
    names = part.names ++ name ∷ [];
  })
  pub others : OtherPathsMove at path old.paths new.paths

abbrev pub Puts : List ℕ → List ℕ → DomainRows → DomainRows → ℕ → Type 0
Puts path name old new at = PutsLast path name old new at ⊎ PutsBehind path name old new at

-- the index is that of some rows, as many as told and none of them the place's, with room for one more
pub record IsReady (place : Place) (rows : ℕ) (index : Index) : Type 0 where
  pub places : List Place
  pub agrees : Agrees places index
  pub absent : list_any (is_same place) places ≡ false
  pub counted : length places ≡ rows
  pub room : rows < last

-- how many elements there are up to the last that passes, that too; all where none does
abbrev pub end_of : {A : Type 0} → (A → Bool) → List A → ℕ
end_of test [] = 0
end_of test (x ∷ xs) = if test x && not (list_any test xs) then 1 else suc (end_of test xs)

-- behind the last row of the domain and the path, else behind the last of the domain, else at the end
abbrev pub end_at : Place → List Place → ℕ
end_at place places =
    if list_any (is_at place.domain place.path) places then end_of (is_at place.domain place.path) places
    else end_of (is_of place.domain) places

-- whatever rows the index was that of, it is that of them and the place's, put in there
abbrev pub PutsAt : Place → ℕ → Index → Index → ℕ → Type 0
PutsAt place rows old new at =
    (places : List Place) → Agrees places old → length places ≡ rows
    → Agrees (insert places at place) new × (at ≡ end_at place places)
