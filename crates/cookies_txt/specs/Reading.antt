-- What the lines of a `cookies.txt` say (the format as curl documents it: docs/DEFINITIONS.md), and what its rows are.
use Rattle.std.specs.Prelude.{◌≡◌, ◌==◌, ◌||◌, ◌&&◌, ◌+◌, ◌++◌, ◌⊎◌, ℕ, Bool, true, false, not, min, List, [], ◌∷◌}
use Rattle.std.specs.Prelude.{length, drop, slice_index, Option, Some, None, Result, Ok, Err, IsOk, codes}
use Rattle.std.specs.Prelude.{if◌then◌else◌}
use Rattle.std.specs.Char.{is_ascii_digit, is_ascii_whitespace}
use Rattle.std.specs.List.{AllByRecursion, flat_map, list_all, prefix_len, slice_split, starts_with}
use Rattle.std.specs.Str.{IsUtf8, str_eq_ignore_ascii_case}
use Rattle.std.specs.Str.Lines.{lines}
use Rattle.std.specs.Str.Parse.{digits_value}
use Rattle.cookie_text.specs.ReadingBack.{Pairwise}
use Rattle.cookie_text.specs.Record.{without_dot}
use Rattle.store_parts.specs.DomainMatch.{dot}
use Rattle.cookie_store.specs.Rows.{Row}
use Rattle.cookies_txt.specs.Layout.{CookieLine, http_only_mark, tab}
use Rattle.cookies_txt.specs.Writing.{IsRowOf, begins_with_slash, latest_second, number_sign}
use Rattle.cookies_txt.specs.declared.error.LineFault.{LineFault}
use Rattle.cookies_txt.specs.declared.error.LineFault.TheVariants.{Fields, EmptyDomain, Flag, NoSlash}
use Rattle.cookies_txt.specs.declared.error.LineFault.TheVariants.{Number, EmptyName}
use Rattle.cookies_txt.specs.declared.error.ReadError.{ReadError}
use Rattle.cookies_txt.specs.declared.error.ReadError.TheVariants.{NotText, Line, OutOfMemory}

-- ---- a line

-- the line without the ASCII white space in front
unfoldable pub unindented : List ℕ → List ℕ
unindented line = drop (prefix_len is_ascii_whitespace line) line

-- the line begins with `#HttpOnly_`, behind white space
abbrev pub is_marked : List ℕ → Bool
is_marked line = starts_with ◌==◌ (unindented line) http_only_mark

-- what stands behind this mark, or else the line
abbrev pub unmarked : List ℕ → List ℕ
unmarked line = if is_marked line then drop 10 (unindented line) else line

abbrev pub begins_with_sign : List ℕ → Bool
begins_with_sign line = slice_index line 0 == number_sign

-- a line of white space, and one whose first other byte is `#`, unless it is marked so
abbrev pub is_passed_over : List ℕ → Bool
is_passed_over line =
    length (unindented line) == 0 || (begins_with_sign (unindented line) && not (is_marked line))

-- the seven fields as they stand
pub record FieldTexts : Type 0 where
  pub domain : List ℕ
  pub below : List ℕ
  pub path : List ℕ
  pub secure : List ℕ
  pub expires : List ℕ
  pub name : List ℕ
  pub value : List ℕ

-- what tabs part
unfoldable pub parts : List ℕ → List (List ℕ)
parts text = slice_split (λ b. b == tab) text

-- seven fields, or six, whose value is empty
abbrev pub field_texts : List (List ℕ) → Option FieldTexts
field_texts (domain ∷ below ∷ path ∷ secure ∷ expires ∷ name ∷ value ∷ []) = Some (record {
  domain = domain;
  below = below;
  path = path;
  secure = secure;
  expires = expires;
  name = name;
  value = value;
})
field_texts (domain ∷ below ∷ path ∷ secure ∷ expires ∷ name ∷ []) = Some (record {
  domain = domain;
  below = below;
  path = path;
  secure = secure;
  expires = expires;
  name = name;
  value = [];
})
field_texts other = None

-- `TRUE`, in any case
abbrev pub is_true : List ℕ → Bool
is_true text = str_eq_ignore_ascii_case text (codes "TRUE")

-- so, or `FALSE`
abbrev pub is_flag : List ℕ → Bool
is_flag text = is_true text || str_eq_ignore_ascii_case text (codes "FALSE")

-- one or more digits
abbrev pub is_number : List ℕ → Bool
is_number text = not (length text == 0) && list_all is_ascii_digit text

-- what dots part
unfoldable pub dotted_parts : List ℕ → List (List ℕ)
dotted_parts text = slice_split (λ b. b == dot) text

-- a number, and behind a dot another one
abbrev pub are_decimal : List (List ℕ) → Bool
are_decimal [] = false
are_decimal (whole ∷ []) = is_number whole
are_decimal (whole ∷ fraction ∷ []) = is_number whole && is_number fraction
are_decimal (whole ∷ fraction ∷ other ∷ more) = false

-- the first of the parts
abbrev pub whole_in : List (List ℕ) → List ℕ
whole_in [] = []
whole_in (whole ∷ more) = whole

-- a number with or without a fraction
abbrev pub is_decimal : List ℕ → Bool
is_decimal text = are_decimal (dotted_parts text)

-- its whole seconds, at most the latest
abbrev pub whole_second_of : List ℕ → ℕ
whole_second_of text = min (digits_value 10 (whole_in (dotted_parts text))) latest_second

-- `b'-'`
abbrev pub minus : ℕ
minus = 45

-- nothing, a number of seconds with or without a fraction, or one with a minus in front
abbrev pub is_expiry : List ℕ → Bool
is_expiry [] = true
is_expiry (b ∷ bs) = if b == minus then is_decimal bs else is_decimal (b ∷ bs)

-- Its second, where 0 stands for none: nothing is none, and a second before 1970 counts as the first one behind.
abbrev pub second_of : List ℕ → ℕ
second_of [] = 0
second_of (b ∷ bs) = if b == minus then 1 else whole_second_of (b ∷ bs)

-- the first fault of the fields, in their order
unfoldable pub fault_of : FieldTexts → Option LineFault
fault_of f =
    if length (without_dot f.domain) == 0 then Some EmptyDomain
    else if not (is_flag f.below) then Some Flag
    else if not (begins_with_slash f.path) then Some NoSlash
    else if not (is_flag f.secure) then Some Flag
    else if not (is_expiry f.expires) then Some Number
    else if length f.name == 0 then Some EmptyName
    else None

-- what the fields say: one dot in front of the domain is left out
unfoldable pub said_by_fields : Bool → FieldTexts → CookieLine
said_by_fields http_only f = record {
  http_only = http_only;
  domain = without_dot f.domain;
  below = is_true f.below;
  path = f.path;
  secure = is_true f.secure;
  expires = second_of f.expires;
  name = f.name;
  value = f.value;
}

abbrev pub unless_fault : Option LineFault → CookieLine → Result (Option CookieLine) LineFault
unless_fault None said = Ok (Some said)
unless_fault (Some fault) said = Err fault

abbrev pub read_fields : Bool → Option FieldTexts → Result (Option CookieLine) LineFault
read_fields http_only None = Err Fields
read_fields http_only (Some f) = unless_fault (fault_of f) (said_by_fields http_only f)

-- what a line says of a cookie, nothing where it is passed over, or its first fault
unfoldable pub read_line : List ℕ → Result (Option CookieLine) LineFault
read_line line =
    if is_passed_over line then Ok None else read_fields (is_marked line) (field_texts (parts (unmarked line)))

-- ---- a text

abbrev pub said : Result (Option CookieLine) LineFault → List CookieLine
said (Ok (Some line)) = line ∷ []
said (Ok None) = []
said (Err fault) = []

-- the line has no fault
abbrev pub IsFine : List ℕ → Type 0
IsFine line = IsOk (read_line line)

-- No line of the text has a fault, and this is what they say, in their order. A line ends at a line feed, and a
-- carriage return before that is no part of it; the last may lack its end.
pub record SaysLines (text : List ℕ) (all : List CookieLine) : Type 0 where
  pub fine : AllByRecursion IsFine (lines text)
  pub says : all ≡ flat_map (λ line. said (read_line line)) (lines text)

-- the first line with a fault, and this; lines are counted from 1
pub record IsFirstFault (text : List ℕ) (number : ℕ) (fault : LineFault) : Type 0 where
  pub before : List (List ℕ)
  pub line : List ℕ
  pub after : List (List ℕ)
  pub split : lines text ≡ before ++ line ∷ after
  pub fine : AllByRecursion IsFine before
  pub is : read_line line ≡ Err fault
  pub counted : number ≡ length before + 1

-- the rows of a text, one for each line that names a cookie
abbrev pub GivesRows : List ℕ → List Row → Type 0
GivesRows text rows = (all : List CookieLine) × SaysLines text all × Pairwise IsRowOf all rows

-- why a text isn't read
abbrev pub IsReadRefusal : List ℕ → ReadError → Type 0
IsReadRefusal text e =
    (e ≡ OutOfMemory)
    ⊎ ((number : ℕ) × (fault : LineFault) × IsFirstFault text number fault × (e ≡ Line number fault))

-- why bytes aren't
abbrev pub IsBytesRefusal : List ℕ → ReadError → Type 0
IsBytesRefusal bytes e = ((e ≡ NotText) × (¬ IsUtf8 bytes)) ⊎ (IsUtf8 bytes × IsReadRefusal bytes e)
