-- Finite maps from names, and lists of what one holds in any order.
use Rattle.std.specs.Prelude.{◌≡◌, ℕ, List, [], ◌∷◌, Option, Some, None, map, string_bytes, if◌then◌else◌}
use Rattle.std.specs.Ordering.{nat_cmp}
use Rattle.std.specs.Str.{bytes_eq}
use Rattle.std.specs.Cmp.Lexicographic.{slice_cmp}
use Rattle.std.specs.FinMap.{FinMap}
use Rattle.std.specs.declared.string.String.{String}

-- values by name
abbrev pub ByName : Type 0 → Type 0
ByName X = FinMap (slice_cmp nat_cmp) X

module _ {X : Type 0} where
  -- the value of the first entry of this name: 1 of `a` in (`a`, 1), (`a`, 2)
  abbrev pub value_in : List (List ℕ × X) → List ℕ → Option X
  value_in [] name = None
  value_in (e ∷ es) name = if bytes_eq name e.0 then Some e.1 else value_in es name

  -- no two entries of one name
  abbrev pub HaveOwnNames : List (List ℕ × X) → Type 0
  HaveOwnNames [] = Unit {0}
  HaveOwnNames (e ∷ es) = (value_in es e.0 ≡ None) × HaveOwnNames es

  -- the entries with their names as bytes
  abbrev pub by_bytes : {Y : Type 0} → List (String Y × X) → List (List ℕ × X)
  by_bytes es = map (λ e. (string_bytes e.0, e.1)) es

-- the entries are those of the map, each name once, in any order: (`b`, 2), (`a`, 1) lists what has 1 at `a`, 2 at `b`
pub record Lists {X : Type 0} (entries : List (List ℕ × X)) (at : List ℕ → Option X) : Type 0 where
  pub apart : HaveOwnNames entries
  pub each : (name : List ℕ) → value_in entries name ≡ at name
