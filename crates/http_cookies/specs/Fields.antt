-- The fields of a map of HTTP fields that carry cookies, and what putting them does (RFC 6265, sections 4.1 and 4.2;
-- RFC 9113, section 8.2.3).
use Rattle.std.specs.Prelude.{◌≡◌, ◌≢◌, ◌<◌, ◌⊎◌, ◌++◌, ℕ, List, [], ◌∷◌, codes, length, map, take}
use Rattle.std.specs.List.{All, flat_map}
use Rattle.http_header.specs.FieldValue.{FieldValue, IsFieldValue, plain_value}
use Rattle.http_header.specs.HeaderMap.{Entries, append_all, get_all, insert, remove, RefusesAppend, RefusesInsert}
use Rattle.http_cookies.specs.declared.error.PutError.{PutError}
use Rattle.http_cookies.specs.declared.error.PutError.TheVariants.{Value, Full}

-- a map of fields: its names in their order, each with its values in their order
abbrev pub Fields : Type 0
Fields = Entries FieldValue

-- the names of the two fields
abbrev pub cookie_name : List ℕ
cookie_name = codes "cookie"

abbrev pub set_cookie_name : List ℕ
set_cookie_name = codes "set-cookie"

-- ---- reading

-- the values of the fields of a name, in their order
abbrev pub values_of : Fields → List ℕ → List (List ℕ)
values_of fields name = map (λ v. v.bytes) (get_all fields name)

-- several `cookie` fields count as one, joined by `; ` (RFC 9113, section 8.2.3)
abbrev pub joined : List (List ℕ) → List ℕ
joined [] = []
joined (value ∷ values) = value ++ flat_map (λ next. 59 ∷ 32 ∷ next) values

-- the header of a request: its `cookie` fields
abbrev pub header_in : Fields → List ℕ
header_in fields = joined (values_of fields cookie_name)

-- the lines of an answer: its `set-cookie` fields
abbrev pub lines_in : Fields → List (List ℕ)
lines_in fields = values_of fields set_cookie_name

-- ---- putting a header

-- the header in place of all `cookie` fields, or none where it is empty
abbrev pub with_header : Fields → List ℕ → Fields
with_header fields [] = remove fields cookie_name
with_header fields (b ∷ bs) = insert fields cookie_name (plain_value (b ∷ bs))

-- the map has no room for the header
abbrev pub RefusesHeader : Fields → List ℕ → Type 0
RefusesHeader fields header = (header ≢ []) × RefusesInsert fields cookie_name

-- the header may be put
pub record TakesHeader (fields : Fields) (header : List ℕ) : Type 0 where
  pub value : IsFieldValue header
  pub room : ¬ (RefusesHeader fields header)

-- why it may not
abbrev pub IsHeaderRefusal : Fields → List ℕ → PutError → Type 0
IsHeaderRefusal fields header error =
    ((error ≡ Value) × (¬ (IsFieldValue header)))
    ⊎ ((error ≡ Full) × (IsFieldValue header × RefusesHeader fields header))

-- ---- putting lines

-- steps of the code, for private contracts alone: the same of values
abbrev pub with_values : Fields → List FieldValue → Fields
with_values fields values = append_all fields (map (λ value. (set_cookie_name, value)) values)

abbrev pub RefusesValues : Fields → List FieldValue → Type 0
RefusesValues fields values =
    (n : ℕ) × (n < length values) × RefusesAppend (with_values fields (take n values)) set_cookie_name

-- each line appended as a `set-cookie` field, in their order
abbrev pub with_lines : Fields → List (List ℕ) → Fields
with_lines fields lines = with_values fields (map plain_value lines)

-- all lines are field values
abbrev pub AreFieldValues : List (List ℕ) → Type 0
AreFieldValues lines = All IsFieldValue lines

-- the map has no room for one of the lines, once those before it are there
abbrev pub RefusesLines : Fields → List (List ℕ) → Type 0
RefusesLines fields lines = RefusesValues fields (map plain_value lines)

-- the lines may be put
pub record TakesLines (fields : Fields) (lines : List (List ℕ)) : Type 0 where
  pub values : AreFieldValues lines
  pub room : ¬ (RefusesLines fields lines)

-- why they may not
abbrev pub AreLinesRefusal : Fields → List (List ℕ) → PutError → Type 0
AreLinesRefusal fields lines error =
    ((error ≡ Value) × (¬ (AreFieldValues lines)))
    ⊎ ((error ≡ Full) × (AreFieldValues lines × RefusesLines fields lines))
