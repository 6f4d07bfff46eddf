-- What a caller reads in a head: the fields of a name, and where it leads (RFC 9110, sections 5.1, 10.2.2 and 15.4).
use Rattle.std.specs.Prelude.{◌&&◌, ◌||◌, ◌==◌, ◌+◌, ◌++◌, ℕ, Bool, not, List, [], ◌∷◌, Option, None, codes}
use Rattle.std.specs.Prelude.{filter, map, nat_le, nat_lt, slice_index, take, if◌then◌else◌}
use Rattle.url.specs.Input.{is_empty}
use Rattle.std.specs.Char.{to_ascii_lowercase}
use Rattle.std.specs.List.{fold, list_any, take_while}
use Rattle.std.specs.Str.{bytes_eq}
use Rattle.response_heads.specs.Heads.{HeadText}
use Rattle.response_heads.specs.Lines.{FieldText, fault_of, is_control, is_white, trimmed}
use Rattle.response_heads.specs.declared.error.LineFault.{LineFault}
use Rattle.response_heads.specs.declared.head.Field.{Field}
use Rattle.response_heads.specs.declared.head.Head.{Head}
use Rattle.response_heads.specs.declared.head.Location.{Location}

-- a field and a head as texts
abbrev pub field_text : Field → FieldText
field_text field = record { name = field.name.now; value = field.value.now }

abbrev pub head_text : Head → HeadText
head_text head = record { number = head.number; status = head.status; fields = map field_text head.fields.items }

-- the field has this name, which is in lower case; the case of its letters doesn't count (RFC 9110, section 5.1)
abbrev pub is_named : List ℕ → FieldText → Bool
is_named name field = bytes_eq (map to_ascii_lowercase field.name) name

-- why the field's line is no field line
abbrev pub fault : FieldText → Option LineFault
fault field = if is_empty field.name then fault_of field.value else None

-- ---- folded lines

-- the line goes on with the field before it (RFC 9112, section 5.2)
abbrev pub is_fold : FieldText → Bool
is_fold field = is_empty field.name && is_white (slice_index field.value 0)

-- one space between them, or one of them where the other is empty
unfoldable pub joined : List ℕ → List ℕ → List ℕ
joined text more = if is_empty text then more else if is_empty more then text else text ++ 32 ∷ more

-- what stands in a field, and joined to it what stands in the folded lines with which what is behind it begins
unfoldable pub unfolded : List ℕ → List FieldText → List ℕ
unfolded value behind = fold (λ text line. joined text (trimmed line.value)) value (take_while is_fold behind)

-- the values of the fields of a name, in their order
abbrev pub values_named : List ℕ → List FieldText → List (List ℕ)
values_named name [] = []
values_named name (field ∷ behind) =
    if is_named name field then unfolded field.value behind ∷ values_named name behind else values_named name behind

-- no value may hold a carriage return or a zero byte (RFC 9110, section 5.5)
abbrev pub is_value : List ℕ → Bool
is_value text = not (list_any is_control text)

-- the Set-Cookie lines (RFC 6265, section 4.1)
unfoldable pub set_cookie_lines : HeadText → List (List ℕ)
set_cookie_lines head = filter is_value (values_named (codes "set-cookie") head.fields)

-- an interim response, which another one follows (RFC 9110, section 15.2)
abbrev pub is_interim : ℕ → Bool
is_interim status = nat_lt status 200

-- a redirection (RFC 9110, section 15.4)
abbrev pub is_redirection : ℕ → Bool
is_redirection status = nat_le 300 status && nat_lt status 400

-- a success (section 15.3)
abbrev pub is_success : ℕ → Bool
is_success status = nat_le 200 status && nat_lt status 300

-- a proxy wants to know who asks, and nothing else answers so (section 15.5.8)
abbrev pub requires_proxy_authentication : ℕ → Bool
requires_proxy_authentication status = status == 407

-- the field says that content follows (RFC 9112, section 6.1)
abbrev pub says_content : FieldText → Bool
says_content field = is_named (codes "content-length") field || is_named (codes "transfer-encoding") field

-- one of the head's fields does
abbrev pub announces_content : HeadText → Bool
announces_content head = list_any says_content head.fields

-- Some program may read such a field as a Location, or as a part of one: one of that name, and of lines that are no
-- field lines one that begins with it, or that goes on with the line before (RFC 9112, section 5.2).
abbrev pub is_location : FieldText → Bool
is_location field =
    is_named (codes "location") field
    || is_empty field.name && (is_white (slice_index field.value 0)
    || bytes_eq (map to_ascii_lowercase (take 8 field.value)) (codes "location"))

-- such a field, and the number of its line
pub record LocationText : Type 0 where
  pub line : ℕ
  pub field : FieldText

abbrev pub location_text : Location → LocationText
location_text location = record { line = location.line; field = field_text location.field }

-- those among the fields of lines of which the first has this number
abbrev pub located : ℕ → List FieldText → List LocationText
located line [] = []
located line (field ∷ fields) =
    if is_location field then record { line = line; field = field } ∷ located (line + 1) fields
    else located (line + 1) fields

-- those of a redirection (RFC 9110, section 10.2.2)
unfoldable pub locations : HeadText → List LocationText
locations head = if is_redirection head.status then located (head.number + 1) head.fields else []
