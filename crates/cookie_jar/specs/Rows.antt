-- What private functions answer. No public contract names a word of this file.
use Rattle.std.specs.Prelude.{◌≡◌, List, Ok, Result, map}
use Rattle.std.specs.Borrow.{Bor}
use Rattle.store_parts.specs.declared.error.Error.{Error}
use Rattle.cookie_store.specs.Given.{lent_row}
use Rattle.cookie_store.specs.Rows.{Row}
use Rattle.cookie_store.specs.StoredCookie.{stored_of}
use Rattle.cookie_store.specs.declared.stored_cookie.Cookie.{Cookie}

-- the rows of cookies that a store lends
abbrev pub lent_rows : List (Bor Cookie) → List Row
lent_rows cookies = map lent_row cookies

-- copies of cookies with these rows
abbrev pub AreCopies : List Row → List (Result Cookie Error) → Type 0
AreCopies rows items = (copies : List Cookie) × (items ≡ map Ok copies) × (map stored_of copies ≡ rows)
