-- The rows of a store, one flat list (RFC 6265, 5.3, steps 11 and 12). Where a new row goes is this repository's own.
use Rattle.std.specs.Prelude.{◌≡◌, ℕ, ℤ, List, [], ◌∷◌, map, filter, Bool, false, not, ◌&&◌, Option, Some}
use Rattle.std.specs.Prelude.{if◌then◌else◌}
use Rattle.std.specs.List.{find, list_any}
use Rattle.std.specs.Str.{bytes_eq}
use Rattle.publicsuffix.specs.Rules.{Rule}
use Rattle.store_parts.specs.DomainMatch.{text_or_empty}
use Rattle.store_parts.specs.Expiry.{epoch, is_dead}
use Rattle.cookie_store.specs.StoredCookie.{StoredCookie}

-- a row is a store's cookie
abbrev pub Row : Type 0
Row = StoredCookie

-- what contracts see of a store: its rows in their order, and its list of public suffixes, which is empty where it has
-- none
pub record Store : Type 0 where
  pub rows : List Row
  pub suffixes : List Rule

-- ---- keys

-- under what a row is kept: its domain's text, its path's text, and its name as it stands
pub record Key : Type 0 where
  pub domain : List ℕ
  pub path : List ℕ
  pub name : List ℕ

abbrev pub key : List ℕ → List ℕ → List ℕ → Key
key domain path name = record { domain = domain; path = path; name = name }

-- the text of the domain of a row, nothing where it has none
abbrev pub domain_text : Row → List ℕ
domain_text row = text_or_empty row.domain

abbrev pub key_of : Row → Key
key_of row = record { domain = domain_text row; path = row.path.text; name = row.raw.cookie.name }

-- the row has the key's domain; its domain and path; the key
abbrev pub has_domain : Key → Row → Bool
has_domain key row = bytes_eq key.domain (domain_text row)

abbrev pub has_place : Key → Row → Bool
has_place key row = has_domain key row && bytes_eq key.path row.path.text

abbrev pub has_key : Key → Row → Bool
has_key key row = has_place key row && bytes_eq key.name row.raw.cookie.name

-- the second row has the first one's domain; its domain and path; its key
abbrev pub has_domain_of : Row → Row → Bool
has_domain_of row = has_domain (key_of row)

abbrev pub has_place_of : Row → Row → Bool
has_place_of row = has_place (key_of row)

abbrev pub has_key_of : Row → Row → Bool
has_key_of row = has_key (key_of row)

-- no two rows have one key
abbrev pub HaveOwnKeys : List Row → Type 0
HaveOwnKeys [] = Unit {0}
HaveOwnKeys (row ∷ rows) = (list_any (has_key_of row) rows ≡ false) × HaveOwnKeys rows

-- ---- places

-- the list with x in the place of the element that passes the test
abbrev pub put_in_place : {A : Type 0} → (A → Bool) → A → List A → List A
put_in_place test x ys = map (λ y. if test y then x else y) ys

-- the list with x behind the last element that passes the test, else last
abbrev pub behind_last : {A : Type 0} → (A → Bool) → A → List A → List A
behind_last test x [] = x ∷ []
behind_last test x (y ∷ ys) =
    if test y && not (list_any test ys) then y ∷ x ∷ ys else y ∷ behind_last test x ys

-- the rows with this one in the place of the one of its key
abbrev pub replaced : Row → List Row → List Row
replaced row rows = put_in_place (has_key_of row) row rows

-- the rows with a new one behind the last of its domain and path, else behind the last of its domain, else last
abbrev pub inserted : Row → List Row → List Row
inserted row rows =
    if list_any (has_place_of row) rows then behind_last (has_place_of row) row rows
    else behind_last (has_domain_of row) row rows

-- the rows with this one in the place of the one of its key, else where a new one goes
abbrev pub put : Row → List Row → List Row
put row rows = if list_any (has_key_of row) rows then replaced row rows else inserted row rows

-- ---- look-up and removal

-- the row of the key
abbrev pub found : Key → List Row → Option Row
found key rows = find (has_key key) rows

-- the rows without that of the key
abbrev pub removed : Key → List Row → List Row
removed key rows = filter (λ row. not (has_key key row)) rows

-- ---- the live rows

-- the row isn't dead at the moment
abbrev pub is_live : ℤ → Row → Bool
is_live now row = not (is_dead now row.death)

-- the row has the key, and isn't dead at the moment
abbrev pub is_live_at : ℤ → Key → Row → Bool
is_live_at now key row = has_key key row && is_live now row

-- the second row has the first one's key, and isn't dead at the moment
abbrev pub is_live_of : ℤ → Row → Row → Bool
is_live_of now row = is_live_at now (key_of row)

-- the row of the key that isn't dead
abbrev pub found_live : ℤ → Key → List Row → Option Row
found_live now key rows = find (is_live_at now key) rows

abbrev pub live : ℤ → List Row → List Row
live now rows = filter (is_live now) rows

-- the row with the Unix epoch for its death
abbrev pub expired : Row → Row
expired row = record row { death = Some epoch }

-- the rows with the live one of this row's key expired, in its place
abbrev pub ended : ℤ → Row → List Row → List Row
ended now row rows = map (λ other. if is_live_of now row other then expired other else other) rows
