-- The parts of a domain's paths.
use Rattle.std.specs.Prelude.{◌≡◌, ◌<◌, ◌+◌, ◌++◌, ℕ, List, [], ◌∷◌, IfSome, Option, None, Some}
use Rattle.place_index.specs.Entries.{set_at, value_at}
use Rattle.place_index.specs.Parts.{Part}
use Rattle.place_index.specs.declared.part.PathRows.{PathRows}

-- the part that begins at `start`
abbrev pub path_at : ℕ → PathRows → Part
path_at start rows = record { start = start; len = rows.len; names = rows.names }

-- each path begins before the place
abbrev pub BeginBefore : ℕ → List (List ℕ × Part) → Type 0
BeginBefore place paths = (text : List ℕ) → IfSome (value_at text paths) (λ part. part.start < place)

-- each path ends before the place
abbrev pub EndBefore : ℕ → List (List ℕ × Part) → Type 0
EndBefore place paths = (text : List ℕ) → IfSome (value_at text paths) (λ part. part.start + part.len < place)

-- the part of the path has one row more, the last, of the name
abbrev pub longer : Part → List ℕ → Part
longer part name = record { start = part.start; len = part.len + 1; names = part.names ++ name ∷ [] }

-- the path has a part, which is one longer now, and `at` is where it ended
pub record Lengthens (path name : List ℕ) (old new : List (List ℕ × Part)) (at : ℕ) : Type 0 where
  pub part : Part
  pub there : value_at path old ≡ Some part
  pub at_end : at ≡ part.start + part.len
  pub is : new ≡ set_at path old (longer part name)

-- the same, where the path has a part, and else nothing
abbrev pub LengthensAny : List ℕ → List ℕ → List (List ℕ × Part) → List (List ℕ × Part) → Option ℕ → Type 0
LengthensAny path name old new None = (value_at path old ≡ None) × (new ≡ old)
LengthensAny path name old new (Some at) = Lengthens path name old new at
