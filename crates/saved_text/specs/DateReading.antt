-- Dates of saved texts, as they are read: `date-time` of RFC 3339, section 5.6, with a fraction of one to nine digits.
use Rattle.std.specs.Prelude.{
  ◌≡◌,
  ℕ,
  ℤ,
  pos,
  ◌+◌,
  ◌*◌,
  ◌-◌,
  ◌^◌,
  ◌+ℤ◌,
  ◌*ℤ◌,
  ◌-ℤ◌,
  ◌≤ℤ◌,
  List,
  [],
  ◌∷◌,
  length,
  take,
  drop,
  map,
  Bool,
  ◌&&◌,
  ◌==◌,
  nat_lt,
  nat_le,
  codes,
  slice_range,
  Option,
  Some,
  None,
  if◌then◌else◌,
  IsTrue,
}
use Rattle.std.specs.Str.{bytes_eq}
use Rattle.std.specs.Str.Parse.{digits_value}
use Rattle.std.specs.Char.{is_ascii_digit}
use Rattle.jiff_core.specs.Calendar.{days_from_civil, days_in_month}
use Rattle.cookie_text.specs.Setting.{last_moment}

-- `0` for a digit, `T` for `t`, `Z` for `z`, and every other byte as it is
abbrev pub blanked : ℕ → ℕ
blanked b = if is_ascii_digit b then 48 else (if b == 116 then 84 else (if b == 122 then 90 else b))

-- digits, letters and signs stand as in the form
abbrev pub shows : List ℕ → List ℕ → Bool
shows text form = bytes_eq (map blanked text) form

-- `full-date "T" partial-time` without the fraction
abbrev pub clock_form : List ℕ
clock_form = codes "0000-00-00T00:00:00"

-- the number that the digits from one place to another spell
abbrev pub number_at : List ℕ → ℕ → ℕ → ℕ
number_at text start end = digits_value 10 (slice_range text start end)

-- ---- the date and the time of day

-- the day exists, and so does the time of day
abbrev pub is_civil : ℕ → ℕ → ℕ → ℕ → ℕ → ℕ → Bool
is_civil year month day hour minute second =
    nat_le 1 month && nat_le month 12
    && nat_le 1 day && nat_le day (days_in_month (pos year) month)
    && nat_lt hour 24 && nat_lt minute 60 && nat_lt second 60

-- the seconds from 1970-01-01T00:00:00 to a time of a day
abbrev pub seconds_to : ℕ → ℕ → ℕ → ℕ → ℕ → ℕ → ℤ
seconds_to year month day hour minute second =
    days_from_civil (pos year) month day *ℤ pos 86_400 +ℤ pos (hour * 3600 + minute * 60 + second)

-- the nanoseconds since 1970-01-01T00:00:00, where a calendar and a clock show these numbers
abbrev pub civil_if : ℕ → ℕ → ℕ → ℕ → ℕ → ℕ → ℕ → Option ℤ
civil_if year month day hour minute second nanos =
    if is_civil year month day hour minute second
    then Some (seconds_to year month day hour minute second *ℤ pos 1_000_000_000 +ℤ pos nanos)
    else None

abbrev pub civil_of : List ℕ → ℕ → Option ℤ
civil_of text nanos = civil_if (number_at text 0 4) (number_at text 5 7) (number_at text 8 10) (number_at text 11 13)
    (number_at text 14 16) (number_at text 17 19) nanos

-- ---- the fraction

-- the digits at the front
abbrev pub digits_front : List ℕ → List ℕ
digits_front [] = []
digits_front (b ∷ r) = if is_ascii_digit b then b ∷ digits_front r else []

-- the nanoseconds of one to nine digits of a fraction, and what follows them
abbrev pub fraction_if : List ℕ → List ℕ → Option (ℕ × List ℕ)
fraction_if digits text =
    if nat_le 1 (length digits) && nat_le (length digits) 9
    then Some (digits_value 10 digits * 10 ^ (9 - length digits), drop (length digits) text)
    else None

-- the nanoseconds of a fraction behind a dot, none where no dot stands, and what follows
abbrev pub fraction_of : List ℕ → Option (ℕ × List ℕ)
fraction_of [] = Some (0, [])
fraction_of (b ∷ r) = if b == 46 then fraction_if (digits_front r) r else Some (0, b ∷ r)

-- ---- the offset

abbrev pub minutes_if : ℕ → ℕ → Option ℕ
minutes_if hours minutes = if nat_lt hours 24 && nat_lt minutes 60 then Some (hours * 60 + minutes) else None

-- what is ahead of UTC
abbrev pub ahead : Option ℕ → Option ℤ
ahead (Some m) = Some (pos m)
ahead None = None

-- what is behind UTC
abbrev pub behind : Option ℕ → Option ℤ
behind (Some m) = Some (pos 0 -ℤ pos m)
behind None = None

-- the minutes that local time is ahead of UTC: `Z`, or `+hh:mm` or `-hh:mm` with hours to 23 and minutes to 59
abbrev pub minutes_of : List ℕ → Option ℤ
minutes_of zone =
    if shows zone (codes "Z") then Some (pos 0)
    else (if shows zone (codes "+00:00") then ahead (minutes_if (number_at zone 1 3) (number_at zone 4 6))
    else (if shows zone (codes "-00:00") then behind (minutes_if (number_at zone 1 3) (number_at zone 4 6)) else None))

-- ---- the date

-- the first moment of the years 0 to 9999, in nanoseconds since 1970-01-01T00:00:00
abbrev pub first_moment : ℤ
first_moment = pos 0 -ℤ pos 62_167_219_200_000_000_000

-- A text is a date of this moment: local time less its offset.
pub record IsDateOf (text : List ℕ) (at : ℤ) : Type 0 where
  pub nanos : ℕ
  pub zone : List ℕ
  pub minutes : ℤ
  pub civil : ℤ
  pub clock : IsTrue (shows (take 19 text) clock_form)
  pub fraction : fraction_of (drop 19 text) ≡ Some (nanos, zone)
  pub offset : minutes_of zone ≡ Some minutes
  pub exists : civil_of (take 19 text) nanos ≡ Some civil
  pub moment : at ≡ civil -ℤ minutes *ℤ pos 60_000_000_000
  pub from : first_moment ≤ℤ at
  pub until : at ≤ℤ last_moment

-- a moment of the years 0 to 9999
abbrev pub IsSaved : ℤ → Type 0
IsSaved at = (first_moment ≤ℤ at) × (at ≤ℤ last_moment)

-- A text is a date of one moment at most.
abbrev pub AreOfOneMoment : Type 0
AreOfOneMoment = (text : List ℕ) (x y : ℤ) → IsDateOf text x → IsDateOf text y → x ≡ y
