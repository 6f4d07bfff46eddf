-- What rows stand by: each has a domain text, a path text and a name.
use Rattle.std.specs.Prelude.{◌&&◌, ℕ, List, Bool}
use Rattle.std.specs.Str.{bytes_eq}

-- a row's place
pub record Place : Type 0 where
  pub domain : List ℕ
  pub path : List ℕ
  pub name : List ℕ

-- the row is of the domain
abbrev pub is_of : List ℕ → Place → Bool
is_of domain place = bytes_eq domain place.domain

-- the row is of the domain and the path
abbrev pub is_at : List ℕ → List ℕ → Place → Bool
is_at domain path place = is_of domain place && bytes_eq path place.path

-- the second is of the first one's domain, path and name
abbrev pub is_same : Place → Place → Bool
is_same place other = is_at place.domain place.path other && bytes_eq place.name other.name
