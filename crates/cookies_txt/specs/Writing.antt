-- Which rows a line of `cookies.txt` holds, what it says of one, and the row that it gives (this repository's own).
use Rattle.std.specs.Prelude.{◌≡◌, ◌==◌, ◌||◌, ◌+◌, ◌-◌, ◌++◌, ◌⊎◌, ℕ, ℤ, pos, negsuc, Bool, true, false, not, max, min}
use Rattle.std.specs.Prelude.{List, [], ◌∷◌, length, map, slice_index, Option, Some, None, is_none, if◌then◌else◌}
use Rattle.std.specs.Borrow.{Bor}
use Rattle.std.specs.Char.{is_ascii_whitespace}
use Rattle.std.specs.List.{AllByRecursion, filter, list_any}
use Rattle.std.specs.Option.{option_or}
use Rattle.cookie_text.specs.Printing.{is_set}
use Rattle.cookie_text.specs.Record.{bare, unsliced}
use Rattle.store_parts.specs.DomainMatch.{Domain, host_only, suffix, not_present, empty, dot, text_or_empty}
use Rattle.store_parts.specs.Expiry.{seconds, whole_second}
use Rattle.store_parts.specs.PathMatch.{slash}
use Rattle.cookie_store.specs.Rows.{Row}
use Rattle.cookie_store.specs.StoredCookie.{stored_of}
use Rattle.cookie_store.specs.Stripped.{IsEndOf}
use Rattle.cookie_store.specs.declared.stored_cookie.Cookie.{Cookie}
use Rattle.cookies_txt.specs.Layout.{CookieLine}
use Rattle.cookies_txt.specs.declared.error.RowFault.{RowFault}
use Rattle.cookies_txt.specs.declared.error.RowFault.TheVariants.{NoDomain, HostSign, NoSlash, EmptyName}
use Rattle.cookies_txt.specs.declared.error.RowFault.TheVariants.{Separator, CarriageReturn}
use Rattle.cookies_txt.specs.declared.error.WriteError.{WriteError}
use Rattle.cookies_txt.specs.declared.error.WriteError.TheVariants.{Row as RefusedRow, OutOfMemory}

-- ---- which rows a line holds

-- `b'#'`
abbrev pub number_sign : ℕ
number_sign = 35

-- A host that begins with `#` would be a comment, with a dot would lose it, and with white space might be indented.
abbrev pub host_fault : List ℕ → Option RowFault
host_fault [] = Some NoDomain
host_fault (b ∷ bs) = if (b == number_sign || b == dot) || is_ascii_whitespace b then Some HostSign else None

abbrev pub domain_fault : Domain → Option RowFault
domain_fault (host_only host) = host_fault host
domain_fault (suffix []) = Some NoDomain
domain_fault (suffix (b ∷ bs)) = None
domain_fault not_present = Some NoDomain
domain_fault empty = Some NoDomain

abbrev pub begins_with_slash : List ℕ → Bool
begins_with_slash path = slice_index path 0 == slash

-- a tab or a line feed
abbrev pub has_separator : List ℕ → Bool
has_separator text = list_any (λ b. b == 9 || b == 10) text

-- the last byte is a carriage return
abbrev pub ends_in_return : List ℕ → Bool
ends_in_return text = slice_index text (length text - 1) == 13

-- the first of these that is so of the texts of a domain, a path, a name and a value
abbrev pub text_fault : List ℕ → List ℕ → List ℕ → List ℕ → Option RowFault
text_fault domain path name value =
    if not (begins_with_slash path) then Some NoSlash
    else if length name == 0 then Some EmptyName
    else if has_separator domain || has_separator path || has_separator name || has_separator value
    then Some Separator
    else if ends_in_return value then Some CarriageReturn
    else None

-- why a line can't hold the row, where that is so
unfoldable pub row_fault : Row → Option RowFault
row_fault row = option_or (domain_fault row.domain)
    (text_fault (text_or_empty row.domain) row.path.text row.raw.cookie.name row.raw.cookie.value)

-- the rows of a store's cookies
abbrev pub rows_in : List (Bor Cookie) → List Row
rows_in cookies = map (λ cookie. stored_of cookie.now) cookies

-- the rows that lines can hold
abbrev pub held : List Row → List Row
held rows = filter (λ row. is_none (row_fault row)) rows

abbrev pub AreHeld : List Row → Type 0
AreHeld rows = AllByRecursion (λ row. row_fault row ≡ None) rows

-- the first row that a line can't hold, and why; rows are counted from 1
pub record IsFirstRefused (rows : List Row) (number : ℕ) (fault : RowFault) : Type 0 where
  pub before : List Row
  pub row : Row
  pub after : List Row
  pub split : rows ≡ before ++ row ∷ after
  pub fine : AreHeld before
  pub is : row_fault row ≡ Some fault
  pub counted : number ≡ length before + 1

-- why rows aren't written
abbrev pub IsWriteRefusal : Bool → List Row → WriteError → Type 0
IsWriteRefusal passing_over rows e =
    (e ≡ OutOfMemory)
    ⊎ ((passing_over ≡ false) × (number : ℕ) × (fault : RowFault) × IsFirstRefused rows number fault
    × (e ≡ RefusedRow number fault))

-- ---- what a line says of a row

-- 9999-12-31T23:59:59, in whole seconds since 1970
abbrev pub latest_second : ℕ
latest_second = 253_402_300_799

-- at least 1, since 0 stands for none, and at most the latest
abbrev pub clamped : ℤ → ℕ
clamped (pos n) = max 1 (min n latest_second)
clamped (negsuc n) = 1

-- the expiry of a death: its whole second, or 0 where there is none
abbrev pub expiry_second : Option ℤ → ℕ
expiry_second None = 0
expiry_second (Some death) = clamped (whole_second death)

abbrev pub is_suffix : Domain → Bool
is_suffix (host_only host) = false
is_suffix (suffix text) = true
is_suffix not_present = false
is_suffix empty = false

-- what a line says of the row: the parts that the format has
abbrev pub line_of_row : Row → CookieLine
line_of_row row = record {
  http_only = is_set row.raw.cookie.http_only;
  domain = text_or_empty row.domain;
  below = is_suffix row.domain;
  path = row.path.text;
  secure = is_set row.raw.cookie.secure;
  expires = expiry_second row.death;
  name = row.raw.cookie.name;
  value = row.raw.cookie.value;
}

-- ---- the row of a line

abbrev pub flag_of : Bool → Option Bool
flag_of b = if b then Some true else None

abbrev pub death_at : ℕ → Option ℤ
death_at second = if second == 0 then None else Some (seconds second)

-- a row with these parts, whose path counts as from an attribute
pub record IsRowOf (line : CookieLine) (row : Row) : Type 0 where
  pub expires : IsEndOf (death_at line.expires) row.raw.cookie.expires
  pub raw : row.raw ≡ unsliced (record (bare line.name line.value) {
    http_only = flag_of line.http_only;
    secure = flag_of line.secure;
    path = Some line.path;
    domain = if line.below then Some line.domain else None;
    expires = row.raw.cookie.expires;
  })
  pub path : row.path ≡ record { text = line.path; from_attribute = true }
  pub domain : row.domain ≡ (if line.below then suffix line.domain else host_only line.domain)
  pub death : row.death ≡ death_at line.expires

-- the row comes back so: with the parts that the format has, and no other
abbrev pub IsThroughCookiesTxt : Row → Row → Type 0
IsThroughCookiesTxt row back = IsRowOf (line_of_row row) back
