-- Lines, and those of a head: a status line (RFC 9112, section 4) and field lines (section 5).
use Rattle.std.specs.Prelude.{◌≡◌, ◌≢◌, ◌⊎◌, ◌==◌, ◌||◌, ◌&&◌, ◌-◌, ℕ, Bool, false, not, List, [], ◌∷◌, length, drop}
use Rattle.std.specs.Prelude.{map, take, slice_index, Option, Some, None, codes, if◌then◌else◌}
use Rattle.std.specs.Char.{is_ascii_alphanumeric, is_ascii_digit, to_ascii_lowercase}
use Rattle.std.specs.List.{after_first, before_first, list_all, list_any, prefix_len, slice_split, starts_with}
use Rattle.std.specs.List.{suffix_len}
use Rattle.std.specs.Str.{bytes_eq}
use Rattle.std.specs.Str.Lines.{strip_carriage_return}
use Rattle.std.specs.Str.Parse.{digits_value}
use Rattle.response_heads.specs.declared.error.LineFault.{LineFault}
use Rattle.response_heads.specs.declared.error.LineFault.TheVariants.{Folded, NoColon, Name, Control}

-- ---- the lines of a text

-- what line feeds part
abbrev pub pieces : List ℕ → List (List ℕ)
pieces text = slice_split (λ b. b == 10) text

-- All pieces but the last are whole lines, which a line feed ends. A carriage return before that is no part of them
-- (RFC 9112, section 2.2).
abbrev pub whole_pieces : List (List ℕ) → List (List ℕ)
whole_pieces [] = []
whole_pieces (last ∷ []) = []
whole_pieces (piece ∷ next ∷ more) = strip_carriage_return piece ∷ whole_pieces (next ∷ more)

abbrev pub last_piece : List (List ℕ) → List ℕ
last_piece [] = []
last_piece (last ∷ []) = last
last_piece (piece ∷ next ∷ more) = last_piece (next ∷ more)

abbrev pub whole_lines : List ℕ → List (List ℕ)
whole_lines text = whole_pieces (pieces text)

-- what stands behind the last line feed: a line that the text's end cuts off, or nothing
abbrev pub cut_end : List ℕ → List ℕ
cut_end text = last_piece (pieces text)

-- ---- status lines

-- `HTTP/`
abbrev pub mark : List ℕ
mark = codes "HTTP/"

-- Where no head has begun, a line that begins so in any case of its letters begins one, and any other is passed over:
-- such a line may be read as a status line (as by curl), though only capitals make one (RFC 9112, section 2.3).
abbrev pub begins_head : List ℕ → Bool
begins_head line = bytes_eq (map to_ascii_lowercase (take 5 line)) (codes "http/")

-- a digit, or two with a full stop between them
abbrev pub is_number_of_version : List ℕ → Bool
is_number_of_version (d ∷ []) = is_ascii_digit d
is_number_of_version (d ∷ stop ∷ e ∷ []) = is_ascii_digit d && (stop == 46 && is_ascii_digit e)
is_number_of_version other = false

-- `HTTP/1.1`, and as curl prints it `HTTP/2`
abbrev pub is_version : List ℕ → Bool
is_version word = starts_with ◌==◌ word mark && is_number_of_version (drop 5 word)

-- the number of three digits
abbrev pub code_in : List ℕ → Option ℕ
code_in (a ∷ b ∷ c ∷ []) =
    if is_ascii_digit a && (is_ascii_digit b && is_ascii_digit c) then Some (digits_value 10 (a ∷ b ∷ c ∷ [])) else None
code_in other = None

-- what single spaces part
unfoldable pub words : List ℕ → List (List ℕ)
words line = slice_split (λ b. b == 32) line

-- The first word is a version, the second the status; a reason may follow.
abbrev pub status_in : List (List ℕ) → Option ℕ
status_in (version ∷ code ∷ reason) = if is_version version then code_in code else None
status_in other = None

-- the status of a status line, nothing for any other line
unfoldable pub status_of : List ℕ → Option ℕ
status_of line = status_in (words line)

-- ---- field lines

-- a field: its name as it stands, and its value, which may be any bytes
pub record FieldText : Type 0 where
  pub name : List ℕ
  pub value : List ℕ

-- `b':'`
abbrev pub is_colon : ℕ → Bool
is_colon b = b == 58

-- a space or a tab (OWS: RFC 9110, section 5.6.3)
abbrev pub is_white : ℕ → Bool
is_white b = b == 32 || b == 9

-- a carriage return or a zero byte, which no value may hold (RFC 9110, section 5.5)
abbrev pub is_control : ℕ → Bool
is_control b = b == 13 || b == 0

-- a byte of a token (RFC 9110, section 5.6.2)
abbrev pub is_token_byte : ℕ → Bool
is_token_byte b = is_ascii_alphanumeric b || list_any (λ c. c == b) (codes "!#$%&'*+-.^_`|~")

abbrev pub is_token : List ℕ → Bool
is_token text = not (length text == 0) && list_all is_token_byte text

-- Why a line is no field line: it begins with white space, and so goes on with the field before it (RFC 9112, section
-- 5.2), which it may not with a carriage return or a zero byte. Else the first of these: no colon; what stands before
-- the first colon is no token, as where white space ends it (section 5.1); a carriage return or a zero byte.
unfoldable pub fault_of : List ℕ → Option LineFault
fault_of line =
    if is_white (slice_index line 0) then (if list_any is_control line then Some Control else Some Folded)
    else if not (list_any is_colon line) then Some NoColon
    else if not (is_token (before_first is_colon line)) then Some Name
    else if list_any is_control line then Some Control
    else None

-- the text without the spaces and tabs in front
abbrev pub trimmed_start : List ℕ → List ℕ
trimmed_start text = drop (prefix_len is_white text) text

-- the text without the spaces and tabs at its end
abbrev pub trimmed_end : List ℕ → List ℕ
trimmed_end text = take (length text - suffix_len is_white text) text

-- the text without those at both its ends
unfoldable pub trimmed : List ℕ → List ℕ
trimmed text = trimmed_end (trimmed_start text)

-- The line has no fault and gives this field: the name stands before the first colon, the value behind it.
pub record IsField (line : List ℕ) (field : FieldText) : Type 0 where
  pub fine : fault_of line ≡ None
  pub name : field.name ≡ before_first is_colon line
  pub value : field.value ≡ trimmed (after_first is_colon line)

-- The line is no field line. It stands for a field without a name, whose value it is.
pub record IsNoField (line : List ℕ) (field : FieldText) : Type 0 where
  pub some : line ≢ []
  pub fault : fault_of line ≢ None
  pub name : field.name ≡ []
  pub value : field.value ≡ line

-- Such a line ends a head as no line may, and what stands behind it could be another head's: one that begins a head, or
-- one that begins with a carriage return, which some read as the empty line.
abbrev pub breaks_off : List ℕ → Bool
breaks_off line = begins_head line || slice_index line 0 == 13

-- what a line of a head gives
abbrev pub GivesField : List ℕ → FieldText → Type 0
GivesField line field = (breaks_off line ≡ false) × (IsField line field ⊎ IsNoField line field)
