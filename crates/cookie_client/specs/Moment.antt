-- Dates as scripts and shells write them, `YYYY-MM-DDThh:mm:ssZ`: the form of RFC 3339 without fractions and in UTC
-- alone. A moment is such a date of the years 1971 to 9998.
use Rattle.std.specs.Prelude.{ℕ, ℤ, pos, List, map, Bool, true, false, T, ◌&&◌, nat_lt, nat_le, int_le, codes}
use Rattle.std.specs.Prelude.{Option, Some, None, option_map, option_and_then, if◌then◌else◌}
use Rattle.std.specs.Str.{bytes_eq}
use Rattle.std.specs.Char.{is_ascii_digit}
use Rattle.std.proofs.Common.{leb→le, ltb→lt, lit<}
use Rattle.jiff.specs.Types.{Date, Time, DateTime}
use Rattle.jiff.specs.Words.{civil_nanos}
use Rattle.jiff_core.specs.Calendar.{days_in_month}
use Rattle.saved_text.specs.DateReading.{number_at}

-- `0` for a digit, and every other byte as it is
abbrev pub blanked : ℕ → ℕ
blanked b = if is_ascii_digit b then 48 else b

-- digits and signs stand in their places
abbrev pub has_shape : List ℕ → Bool
has_shape text = bytes_eq (map blanked text) (codes "0000-00-00T00:00:00Z")

-- ---- a date

-- what there is where a test holds
abbrev pub where_so : {A : Type 0} (test : Bool) → (T test → Option A) → Option A
where_so true value = value tt
where_so false value = None

-- the day of this number in this month of this year, where the calendar has it, in the years 0 to 9999
abbrev pub day_if : ℕ → ℕ → ℕ → Option Date
day_if year month day =
    where_so (nat_le year 9999) (λ y. where_so (nat_le 1 month) (λ m. where_so (nat_le month 12) (λ n.
    where_so (nat_le 1 day) (λ d. where_so (nat_le day (days_in_month (pos year) month)) (λ e. Some (record {
      year = pos year;
      month = month;
      day = day;
      year_in = (record { le = tt }, record { le = y });
      month_in = (leb→le 1 month m, leb→le month 12 n);
      day_in = (leb→le 1 day d, leb→le day (days_in_month (pos year) month) e);
    }))))))

-- the time of day of these numbers, where a clock shows it
abbrev pub clock_if : ℕ → ℕ → ℕ → Option Time
clock_if hour minute second =
    where_so (nat_lt hour 24) (λ h. where_so (nat_lt minute 60) (λ m. where_so (nat_lt second 60) (λ s. Some (record {
      hour = hour;
      minute = minute;
      second = second;
      subsec_nanosecond = 0;
      hour_in = ltb→lt hour 24 h;
      minute_in = ltb→lt minute 60 m;
      second_in = ltb→lt second 60 s;
      subsec_in = lit< tt;
    }))))

-- a date where these numbers are one
abbrev pub date_if : ℕ → ℕ → ℕ → ℕ → ℕ → ℕ → Option DateTime
date_if year month day hour minute second =
    option_and_then (λ date. option_map (λ time. record { date = date; time = time }) (clock_if hour minute second))
    (day_if year month day)

-- the date that a text names
unfoldable pub date_of : List ℕ → Option DateTime
date_of text =
    if has_shape text
    then date_if (number_at text 0 4) (number_at text 5 7) (number_at text 8 10) (number_at text 11 13)
    (number_at text 14 16) (number_at text 17 19)
    else None

-- ---- a moment

-- the first second of 1971, counted from 1970-01-01T00:00:00
abbrev pub second_1971 : ℕ
second_1971 = 31_536_000

-- the date is of the years 1971 to 9998
abbrev pub is_timely : DateTime → Bool
is_timely d = int_le (pos 1971) d.date.year && int_le d.date.year (pos 9998)

-- the nanoseconds from 1970-01-01T00:00:00 to such a date
abbrev pub moment_at : DateTime → Option ℤ
moment_at d = if is_timely d then Some (civil_nanos d) else None

-- such a date, as it is
abbrev pub if_timely : DateTime → Option DateTime
if_timely d = if is_timely d then Some d else None

-- the date of the moment that a text names
unfoldable pub moment_date : List ℕ → Option DateTime
moment_date text = option_and_then if_timely (date_of text)

-- the moment that a text names
unfoldable pub moment_of : List ℕ → Option ℤ
moment_of text = option_and_then moment_at (date_of text)
