-- The cookies of a client as a `cookies.txt` (own: docs/DEFINITIONS.md).
use Rattle.std.specs.Prelude.{ℕ, ℤ, ◌≡◌, ◌||◌, Bool, List, map, filter, is_some}
use Rattle.cookie_store.specs.Rows.{Row, live}
use Rattle.cookies_txt.specs.Layout.{text_for}
use Rattle.cookies_txt.specs.Writing.{held, line_of_row}
use Rattle.cookies_txt.specs.declared.readers.Reader.{Reader}

-- the rows that aren't expired at the moment, with those that end with the session or without
abbrev pub exported : Bool → ℤ → List Row → List Row
exported sessions now rows = filter (λ row. sessions || is_some row.death) (live now rows)

-- the answer is their text for the reader, without those that no line can hold
abbrev pub Exports : Reader → Bool → ℤ → List Row → List ℕ → Type 0
Exports reader sessions now rows answer =
    answer ≡ text_for reader (map line_of_row (held (exported sessions now rows)))
