-- Rows in a vector with an index of where they stand. No public contract names a word of this file.
use Rattle.std.specs.Prelude.{◌≡◌, ℕ, List, map, true, false, Option, Some, None, IsSomeAnd, slice_get}
use Rattle.std.specs.List.{list_any}
use Rattle.place_index.specs.Index.{Index, Agrees}
use Rattle.place_index.specs.Places.{Place}
use Rattle.cookie_store.specs.Rows.{Row, Key, HaveOwnKeys, domain_text, has_key}

-- what a row stands by: the text of its domain, the text of its path, and its name
abbrev pub place_of : Row → Place
place_of row = record { domain = domain_text row; path = row.path.text; name = row.raw.cookie.name }

abbrev pub places_of : List Row → List Place
places_of rows = map place_of rows

-- the index is that of the rows, and no two of these have one key
pub record IsIndexed (rows : List Row) (index : Index) : Type 0 where
  pub agrees : Agrees (places_of rows) index
  pub apart : HaveOwnKeys rows

-- the row of the key is the one there, and at `None` there is none
abbrev pub StandsAt : Key → List Row → Option ℕ → Type 0
StandsAt key rows None = list_any (has_key key) rows ≡ false
StandsAt key rows (Some at) = IsSomeAnd (slice_get rows at) (λ row. has_key key row ≡ true)
