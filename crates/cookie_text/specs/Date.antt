-- The dates of an Expires attribute (RFC 6265, 4.1.1 and 5.1.1; RFC 9110, 5.6.7).
use Rattle.std.specs.Prelude.{◌≡◌, ℕ, ◌+◌, ◌<◌, ◌≤◌, ◌⊎◌, List, [], ◌∷◌, ◌++◌, length, codes, pos, IsTrue, nat_lt}
use Rattle.std.specs.Prelude.{if◌then◌else◌}
use Rattle.std.specs.Char.{is_ascii_digit}
use Rattle.std.specs.List.{list_all}
use Rattle.std.specs.Int.{IsInRange}
use Rattle.std.specs.Str.Parse.{digits_value}
use Rattle.httpdate.specs.Text.{day_name, day_name_rest, month_name, two_digits, space, digit_zero}
use Rattle.jiff_core.specs.Calendar.{IsCivilDate}
use Rattle.jiff.specs.Types.{DateTime}
pub use Rattle.cookie_text.specs.declared.date.Stamp.{Stamp}

-- the calendar has the day and the clock the time
pub record IsStamp (s : Stamp) : Type 0 where
  pub civil : IsCivilDate (pos s.year) s.month s.day
  pub hour : s.hour < 24
  pub minute : s.minute < 60
  pub second : s.second < 60

-- `08:49:37`
abbrev pub clock_text : ℕ → ℕ → ℕ → List ℕ
clock_text hour minute second =
    two_digits hour ++ codes ":" ++ two_digits minute ++ codes ":" ++ two_digits second

-- `06 Nov 1994 08:49:37 GMT`, or with dashes, for the texts of the year and of the clock
abbrev pub dated : List ℕ → ℕ → ℕ → List ℕ → List ℕ → List ℕ
dated dash day month year clock =
    two_digits day ++ dash ++ month_name month ++ dash ++ year ++ codes " " ++ clock ++ codes " GMT"

-- `Sun, ` and what follows
abbrev pub with_weekday : ℕ → List ℕ → List ℕ
with_weekday weekday rest = day_name weekday ++ codes ", " ++ rest

abbrev pub clock : Stamp → List ℕ
clock s = clock_text s.hour s.minute s.second

-- the same of a stamp, for the text of its year
abbrev pub day_month_year : List ℕ → Stamp → List ℕ → List ℕ
day_month_year dash s year = dated dash s.day s.month year (clock s)

-- the RFC 1123 date (RFC 9110, section 5.6.7): `Sun, 06 Nov 1994 08:49:37 GMT`
abbrev pub spaced : ℕ → Stamp → List ℕ → List ℕ
spaced weekday s year = with_weekday weekday (day_month_year (codes " ") s year)

-- own, the first form with dashes: `Sun, 06-Nov-1994 08:49:37 GMT`
abbrev pub dashed : ℕ → Stamp → List ℕ → List ℕ
dashed weekday s year = with_weekday weekday (day_month_year (codes "-") s year)

-- the RFC 850 date (RFC 9110, section 5.6.7): `Sunday, 06-Nov-94 08:49:37 GMT`
abbrev pub full_name : ℕ → Stamp → List ℕ → List ℕ
full_name weekday s year =
    day_name weekday ++ day_name_rest weekday ++ codes ", " ++ day_month_year (codes "-") s year

-- the asctime date (RFC 9110, section 5.6.7): `Sun Nov  6 08:49:37 1994`
abbrev pub year_last : ℕ → Stamp → List ℕ → List ℕ → List ℕ
year_last weekday s day year =
    day_name weekday ++ codes " " ++ month_name s.month ++ codes " " ++ day ++ codes " " ++ clock s
    ++ codes " " ++ year

-- two digits, or a space and one
abbrev pub IsPaddedDay : List ℕ → ℕ → Type 0
IsPaddedDay text day =
    (text ≡ two_digits day) ⊎ ((text ≡ space ∷ (digit_zero + day) ∷ []) × (day < 10))

-- the year that a number below 100 stands for: 69 for 2069, 70 for 1970; any other is itself
abbrev pub full_year : ℕ → ℕ
full_year y = if nat_lt y 70 then 2000 + y else (if nat_lt y 100 then 1900 + y else y)

-- one to four digits
pub record AreYearDigits (text : List ℕ) : Type 0 where
  pub digits : IsTrue (list_all is_ascii_digit text)
  pub some : 0 < length text
  pub few : length text ≤ 4

-- one to four digits of this year
pub record IsYearText (text : List ℕ) (year : ℕ) : Type 0 where
  pub digits : AreYearDigits text
  pub value : full_year (digits_value 10 text) ≡ year

-- the text shows these numbers in one of the four forms, where the texts of day and year are given
abbrev pub IsForm : List ℕ → ℕ → Stamp → List ℕ → List ℕ → Type 0
IsForm text weekday s day year =
    (text ≡ spaced weekday s year)
    ⊎ ((text ≡ dashed weekday s year)
    ⊎ (((text ≡ full_name weekday s year) × (length year ≡ 2))
    ⊎ (text ≡ year_last weekday s day year)))

-- the text shows this date, whatever weekday it names
pub record IsDateText (text : List ℕ) (s : Stamp) : Type 0 where
  pub weekday : ℕ
  pub day : List ℕ
  pub year : List ℕ
  pub named : IsInRange 1 7 weekday
  pub padded : IsPaddedDay day s.day
  pub dated : IsYearText year s.year
  pub exists : IsStamp s
  pub form : IsForm text weekday s day year

-- the moment with these numbers and no fraction
pub record IsMoment (s : Stamp) (d : DateTime) : Type 0 where
  pub year : d.date.year ≡ pos s.year
  pub month : d.date.month ≡ s.month
  pub day : d.date.day ≡ s.day
  pub hour : d.time.hour ≡ s.hour
  pub minute : d.time.minute ≡ s.minute
  pub second : d.time.second ≡ s.second
  pub whole : d.time.subsec_nanosecond ≡ 0
