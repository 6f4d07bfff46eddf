-- What a printed date is read as: its moment, without the fraction of a second.
use Rattle.std.specs.Prelude.{◌≡◌, ℤ, pos, ◌*ℤ◌, ◌-ℤ◌, ◌≤ℤ◌}
use Rattle.jiff.specs.Types.{DateTime}
use Rattle.jiff.specs.Words.{civil_nanos}
use Rattle.saved_text.specs.Rfc3339.{date_text}
use Rattle.saved_text.specs.DateReading.{IsDateOf}

-- the nanoseconds since 1970-01-01T00:00:00, less those of the second
abbrev pub without_fraction : DateTime → ℤ
without_fraction d = civil_nanos d -ℤ pos d.time.subsec_nanosecond

-- the greatest number of whole seconds that is not above a moment, both in nanoseconds
pub record IsWholeSecondOf (at moment : ℤ) : Type 0 where
  pub seconds : ℤ
  pub whole : at ≡ seconds *ℤ pos 1_000_000_000
  pub below : at ≤ℤ moment
  pub greatest : (n : ℤ) → (n *ℤ pos 1_000_000_000) ≤ℤ moment → (n *ℤ pos 1_000_000_000) ≤ℤ at

-- What is printed of a moment of the years 0 to 9999 is a date of that moment without its fraction.
abbrev pub PrintedDatesAreRead : Type 0
PrintedDatesAreRead = (d : DateTime) → pos 0 ≤ℤ d.date.year → IsDateOf (date_text d) (without_fraction d)

-- A moment without its fraction is its whole second: what is dropped is dropped downwards.
abbrev pub FractionsAreDropped : Type 0
FractionsAreDropped = (d : DateTime) → IsWholeSecondOf (without_fraction d) (civil_nanos d)
