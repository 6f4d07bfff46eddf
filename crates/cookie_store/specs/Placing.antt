-- Which rows are saved, and where loaded rows are placed (own: docs/DEFINITIONS.md).
use Rattle.std.specs.Prelude.{ℤ, List, [], ◌∷◌, filter, Bool, ◌&&◌, is_some, if◌then◌else◌}
use Rattle.cookie_store.specs.Rows.{Row, Store, is_live, live, put}

-- the row isn't dead at the moment, and has a death
abbrev pub is_saved : ℤ → Row → Bool
is_saved now row = is_live now row && is_some row.death

-- what is saved at a moment, where not all rows are
abbrev pub saved : ℤ → List Row → List Row
saved now rows = filter (is_saved now) rows

-- one row after another put among the rows: of two with one key the later takes the place of the earlier
abbrev pub put_all : List Row → List Row → List Row
put_all [] rows = rows
put_all (row ∷ more) rows = put_all more (put row rows)

-- of the loaded rows all, or those that aren't dead at the moment
abbrev pub chosen : Bool → ℤ → List Row → List Row
chosen with_expired now rows = if with_expired then rows else live now rows

-- the rows of a store that loaded these
abbrev pub loaded : Bool → ℤ → List Row → List Row
loaded with_expired now rows = put_all (chosen with_expired now rows) []

-- a store that loaded these rows, without a list of public suffixes
abbrev pub loaded_store : Bool → ℤ → List Row → Store
loaded_store with_expired now rows = record { rows = loaded with_expired now rows; suffixes = [] }
