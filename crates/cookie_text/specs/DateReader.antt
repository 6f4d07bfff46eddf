-- What the private readers of `date` and `date_reader` give, step by step. No contract of a public call cites a word of
-- this file: the definition is the four forms of `Date`, and `proofs/DateLemmas` shows that the readers read these and
-- nothing else.
use Rattle.std.specs.Prelude.{ℕ, ◌<◌, ◌≤◌, not, ◌&&◌, List, length, take, drop, slice_index, Option, Some, None}
use Rattle.std.specs.Prelude.{option_map, option_and_then, bytes_eq, codes, ◌==◌, nat_le, if◌then◌else◌}
use Rattle.std.specs.Option.{option_or}
use Rattle.std.specs.Char.{is_ascii_digit}
use Rattle.std.specs.List.{position_or_len}
use Rattle.std.specs.Borrow.{Bor}
use Rattle.std.specs.Str.Parse.{digits_value}
use Rattle.httpdate.specs.Text.{day_name, day_name_rest, month_name, comma, space}
use Rattle.httpdate.specs.Reader.{read_tag, read_two_digits, read_name, read_time, read_padded_day}
use Rattle.cookie_text.specs.Date.{Stamp, full_year}

-- two texts behind references
abbrev pub texts_view : Option (Bor (List ℕ) × Bor (List ℕ)) → Option (List ℕ × List ℕ)
texts_view r = option_map (λ p. (p.0.now, p.1.now)) r

-- a text behind a reference, and a date
abbrev pub fields_view : Option (Bor (List ℕ) × Stamp) → Option (List ℕ × Stamp)
fields_view r = option_map (λ p. (p.0.now, p.1)) r

infixl 10 ◌>>=◌
abbrev ◌>>=◌ : {A B : Type 0} → Option A → (A → Option B) → Option B
o >>= f = option_and_then f o

-- how many digits stand at the front
abbrev pub digits_len : List ℕ → ℕ
digits_len text = position_or_len (λ b. not (is_ascii_digit b)) text

-- the digits at the front, one to four of them, and what follows
unfoldable pub read_year : List ℕ → Option (List ℕ × List ℕ)
read_year text =
    if nat_le 1 (digits_len text) && nat_le (digits_len text) 4
    then Some (take (digits_len text) text, drop (digits_len text) text)
    else None

-- the date of these parts
abbrev pub stamp_of : ℕ → ℕ → ℕ × ℕ × ℕ → List ℕ → Stamp
stamp_of day month time year = record {
  year = full_year (digits_value 10 year);
  month = month;
  day = day;
  hour = time.0;
  minute = time.1;
  second = time.2;
}

-- the numbers fit what the calendar's constructor takes
pub record IsSmall (s : Stamp) : Type 0 where
  pub year : s.year ≤ 9999
  pub month : s.month ≤ 12
  pub day : s.day < 100
  pub hour : s.hour < 100
  pub minute : s.minute < 100
  pub second : s.second < 100

-- `06 Nov 1994 08:49:37 GMT`, or with dashes: the text of the year, and the date
unfoldable pub read_fields : List ℕ → List ℕ → Option (List ℕ × Stamp)
read_fields dash text = do
  day ← read_two_digits text
  month ← read_tag dash day.1 >>= read_name month_name 12
  year ← read_tag dash month.1 >>= read_year
  time ← read_tag (codes " ") year.1 >>= read_time
  if bytes_eq time.1 (codes " GMT")
      then Some (year.0, stamp_of day.0 month.0 time.0 year.0)
      else None

-- `Nov  6 08:49:37 1994`
unfoldable pub read_year_last : List ℕ → Option Stamp
read_year_last text = do
  month ← read_name month_name 12 text
  day ← read_tag (codes " ") month.1 >>= read_padded_day
  time ← read_tag (codes " ") day.1 >>= read_time
  year ← read_tag (codes " ") time.1 >>= read_year
  if length year.1 == 0 then Some (stamp_of day.0 month.0 time.0 year.0) else None

-- with spaces or with dashes
unfoldable pub read_short : List ℕ → Option Stamp
read_short text =
    option_or (option_map (λ p. p.1) (read_fields (codes " ") text))
    (option_map (λ p. p.1) (read_fields (codes "-") text))

-- with dashes, and a year of two digits
unfoldable pub read_two_digit_year : List ℕ → Option Stamp
read_two_digit_year text = do
  fields ← read_fields (codes "-") text
  if length fields.0 == 2 then Some fields.1 else None

-- a date in any of the four forms
unfoldable pub read_date : List ℕ → Option Stamp
read_date text = do
  weekday ← read_name day_name 7 text
  if slice_index weekday.1 0 == comma
      then (read_tag (codes ", ") weekday.1 >>= read_short)
      else (if slice_index weekday.1 0 == space
      then (read_tag (codes " ") weekday.1 >>= read_year_last)
      else (read_tag (day_name_rest weekday.0) weekday.1
      >>= (λ rest. read_tag (codes ", ") rest >>= read_two_digit_year)))
