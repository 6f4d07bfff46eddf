-- The cookie-date of an Expires attribute as user agents read it (RFC 6265, section 5.1.1).
use Rattle.std.specs.Prelude.{◌≡◌, ◌<◌, ◌≤◌, ◌==◌, ◌&&◌, ◌||◌, ℕ, Bool, not, nat_le, pos, List, ◌∷◌, ◌++◌}
use Rattle.std.specs.Prelude.{length, take, drop, map}
use Rattle.std.specs.Char.{is_ascii_digit, to_ascii_lowercase}
use Rattle.std.specs.Int.{IsInRange}
use Rattle.std.specs.List.{AllByRecursion, slice_split, before_first}
use Rattle.std.specs.Str.Parse.{digits_value}
use Rattle.httpdate.specs.Text.{month_name}
use Rattle.cookie_text.specs.Date.{full_year}
use Rattle.jiff_core.specs.Calendar.{IsCivilDate}
use Rattle.jiff.specs.Types.{DateTime}

-- `b':'`
abbrev pub colon : ℕ
colon = 58

-- delimiter = %x09 / %x20-2F / %x3B-40 / %x5B-60 / %x7B-7E
unfoldable pub is_delimiter : ℕ → Bool
is_delimiter b =
    b == 9 || (nat_le 32 b && nat_le b 47) || (nat_le 59 b && nat_le b 64) || (nat_le 91 b && nat_le b 96)
    || (nat_le 123 b && nat_le b 126)

-- what stands between the delimiters, in its order: the date-tokens (an empty part is of no kind)
abbrev pub date_tokens : List ℕ → List (List ℕ)
date_tokens text = slice_split is_delimiter text

-- ---- the four kinds of token

-- the digits that a text begins with, and what follows them
abbrev pub digits_of : List ℕ → List ℕ
digits_of text = before_first (λ b. not (is_ascii_digit b)) text

abbrev pub behind_digits : List ℕ → List ℕ
behind_digits text = drop (length (digits_of text)) text

-- the text begins with so many digits and no further one, and they write the number: for one or two of them
-- 1*2DIGIT [ non-digit *OCTET ]
pub record BeginsWithNumber (least most : ℕ) (text : List ℕ) (number : ℕ) : Type 0 where
  pub enough : least ≤ length (digits_of text)
  pub few : length (digits_of text) ≤ most
  pub value : digits_value 10 (digits_of text) ≡ number

-- time = time-field ":" time-field ":" time-field [ non-digit *OCTET ], a time-field being 1*2DIGIT
pub record IsTime (token : List ℕ) (time : ℕ × ℕ × ℕ) : Type 0 where
  pub minutes : List ℕ
  pub seconds : List ℕ
  pub hour : BeginsWithNumber 1 2 token time.0
  pub first_colon : behind_digits token ≡ colon ∷ minutes
  pub minute : BeginsWithNumber 1 2 minutes time.1
  pub second_colon : behind_digits minutes ≡ colon ∷ seconds
  pub second : BeginsWithNumber 1 2 seconds time.2

-- day-of-month = 1*2DIGIT [ non-digit *OCTET ]
abbrev pub IsDay : List ℕ → ℕ → Type 0
IsDay token day = BeginsWithNumber 1 2 token day

-- month = the first three letters of a month's name, in any case, and then *OCTET
abbrev pub IsMonth : List ℕ → ℕ → Type 0
IsMonth token month =
    IsInRange 1 12 month × (map to_ascii_lowercase (take 3 token) ≡ map to_ascii_lowercase (month_name month))

-- year = 2*4DIGIT [ non-digit *OCTET ]
abbrev pub IsYear : List ℕ → ℕ → Type 0
IsYear token year = BeginsWithNumber 2 4 token year

-- ---- the date

pub record Date : Type 0 where
  pub year : ℕ
  pub month : ℕ
  pub day : ℕ
  pub hour : ℕ
  pub minute : ℕ
  pub second : ℕ

-- the calendar has the day and the clock the time
pub record Exists (d : Date) : Type 0 where
  pub civil : IsCivilDate (pos d.year) d.month d.day
  pub hour : d.hour < 24
  pub minute : d.minute < 60
  pub second : d.second < 60

-- the moment with these numbers and no fraction
pub record IsMomentOf (d : Date) (m : DateTime) : Type 0 where
  pub year : m.date.year ≡ pos d.year
  pub month : m.date.month ≡ d.month
  pub day : m.date.day ≡ d.day
  pub hour : m.time.hour ≡ d.hour
  pub minute : m.time.minute ≡ d.minute
  pub second : m.time.second ≡ d.second
  pub whole : m.time.subsec_nanosecond ≡ 0

-- the first of the tokens that is of a kind, what it says, and the other tokens
pub record IsFirst {A : Type 0} (Kind : List ℕ → A → Type 0) (tokens : List (List ℕ)) (says : A)
    (others : List (List ℕ)) : Type 0 where
  pub before : List (List ℕ)
  pub token : List ℕ
  pub after : List (List ℕ)
  pub cut : tokens ≡ before ++ token ∷ after
  pub none_before : AllByRecursion (λ t. (x : A) → ¬ (Kind t x)) before
  pub is : Kind token says
  pub left : others ≡ before ++ after

-- The first token that is a time says the time; of the others the first that is a day-of-month says the day; of the
-- others then the first that is a month the month, and of the rest the first that is a year the year, 69 for 2069 and
-- 70 for 1970. The year is 1601 or later, and calendar and clock have the date and the time.
pub record Shows (text : List ℕ) (d : Date) : Type 0 where
  pub timeless : List (List ℕ)
  pub dayless : List (List ℕ)
  pub monthless : List (List ℕ)
  pub yearless : List (List ℕ)
  pub written : ℕ
  pub time : IsFirst IsTime (date_tokens text) (d.hour, d.minute, d.second) timeless
  pub day : IsFirst IsDay timeless d.day dayless
  pub month : IsFirst IsMonth dayless d.month monthless
  pub year : IsFirst IsYear monthless written yearless
  pub full : full_year written ≡ d.year
  pub late : 1601 ≤ d.year
  pub exists : Exists d
