-- What the dates of the strict forms (`IsDateText` of `cookie_text`) show as cookie-dates (RFC 6265, section 5.1.1).
use Rattle.std.specs.Prelude.{◌⊎◌, ◌<◌, ◌≤◌, ℕ, List, length}
use Rattle.jiff.specs.Types.{DateTime}
use Rattle.cookie_text.specs.Date.{IsDateText, IsMoment}
use Rattle.user_agent.specs.Dates.{Date, IsMomentOf, Shows}

-- What a text shows that a strict form reads as this moment, its year written with so many digits: where these are two
-- or more, and the year is 1601 or later, the date of the moment and no other; else none.
pub record ShowsTheSame (text : List ℕ) (digits year : ℕ) (m : DateTime) : Type 0 where
  pub same : 2 ≤ digits → 1601 ≤ year → (d : Date) × Shows text d × IsMomentOf d m
  pub alone : (d : Date) → Shows text d → IsMomentOf d m
  pub none : (digits < 2) ⊎ (year < 1601) → (d : Date) → ¬ (Shows text d)

-- so it is of every such text, whatever numbers s the form shows (a `Stamp` of `cookie_text`)
abbrev pub StrictDatesShowTheSame : Type 0
StrictDatesShowTheSame =
    (text : List ℕ) (s : _) (strict : IsDateText text s) (m : DateTime) → IsMoment s m
    → ShowsTheSame text (length strict.year) s.year m
