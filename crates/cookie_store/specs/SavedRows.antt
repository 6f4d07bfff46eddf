-- What is shown of a store's row in a saved text, and what is loaded of a row that is shown (own: docs/DEFINITIONS.md).
use Rattle.std.specs.Prelude.{◌≡◌, ℕ, ℤ, pos, ◌≤ℤ◌, ◌<ℤ◌, List, Option, Some, None, Ok}
use Rattle.std.specs.Str.{IsUtf8}
use Rattle.cookie_text.specs.Printing.{printed}
use Rattle.cookie_text.specs.Reading.{ReadsPlain}
use Rattle.cookie_text.specs.Record.{Seen, unsliced}
use Rattle.jiff.specs.Types.{DateTime}
use Rattle.jiff.specs.Words.{civil_nanos}
use Rattle.saved_text.specs.DateReading.{IsDateOf}
use Rattle.saved_text.specs.PrintedDates.{IsWholeSecondOf}
use Rattle.saved_text.specs.Rfc3339.{date_text}
use Rattle.saved_text.specs.Row as saved
use Rattle.saved_text.specs.Row.{Shown}
use Rattle.store_parts.specs.DomainMatch.{Domain, host_only, suffix, not_present, empty}
use Rattle.cookie_store.specs.Rows.{Row}

-- a domain as a text shows it
abbrev pub domain_shown : Domain → saved.Domain
domain_shown (host_only text) = saved.host_only text
domain_shown (suffix text) = saved.suffix text
domain_shown not_present = saved.not_present
domain_shown empty = saved.empty

-- ---- saving

-- the date of a death of the years from 0 on, without the fraction of a second
pub record IsDateOfDeath (death : ℤ) (date : List ℕ) : Type 0 where
  pub moment : DateTime
  pub nanos : civil_nanos moment ≡ death
  pub year : pos 0 ≤ℤ moment.date.year
  pub text : date ≡ date_text moment

-- a date where there is a death, else none
abbrev pub IsExpiryOf : Option ℤ → Option (List ℕ) → Type 0
IsExpiryOf (Some death) (Some date) = IsDateOfDeath death date
IsExpiryOf (Some death) None = ⊥
IsExpiryOf None (Some date) = ⊥
IsExpiryOf None None = Unit {0}

-- a row as a text shows it: its cookie as it prints, and the date of its death
pub record IsShownAs (row : Row) (shown : Shown) : Type 0 where
  pub raw : shown.raw ≡ printed row.raw.cookie
  pub path : shown.path ≡ row.path.text
  pub from_attribute : shown.from_attribute ≡ row.path.from_attribute
  pub domain : shown.domain ≡ domain_shown row.domain
  pub expires : IsExpiryOf row.death shown.expires

-- a death that no date tells: it is of a year below 0
pub record IsBeforeYears (death : Option ℤ) : Type 0 where
  pub moment : DateTime
  pub nanos : death ≡ Some (civil_nanos moment)
  pub year : moment.date.year <ℤ pos 0

-- ---- loading

-- the death at a date, where there is one
abbrev pub IsDeathOf : Option (List ℕ) → Option ℤ → Type 0
IsDeathOf (Some date) (Some death) = IsDateOf date death
IsDeathOf (Some date) None = ⊥
IsDeathOf None (Some death) = ⊥
IsDeathOf None None = Unit {0}

-- a row that is shown so, loaded: its cookie is what its text reads as, no part of it a slice of that text, and its
-- death the moment of its date
pub record IsLoadedFrom (shown : Shown) (row : Row) : Type 0 where
  pub utf8 : IsUtf8 shown.raw
  pub seen : Seen
  pub reads : ReadsPlain shown.raw (Ok seen)
  pub raw : row.raw ≡ unsliced seen.cookie
  pub path : row.path.text ≡ shown.path
  pub from_attribute : row.path.from_attribute ≡ shown.from_attribute
  pub domain : domain_shown row.domain ≡ shown.domain
  pub death : IsDeathOf shown.expires row.death

-- ---- a row that is saved and then loaded

-- a death without its fraction: the last whole second that isn't after it
abbrev pub IsWholeDeath : Option ℤ → Option ℤ → Type 0
IsWholeDeath (Some death) (Some whole) = IsWholeSecondOf whole death
IsWholeDeath (Some death) None = ⊥
IsWholeDeath None (Some whole) = ⊥
IsWholeDeath None None = Unit {0}

-- its cookie is what the printed text of that reads as, and its death has no fraction; nothing else changes
pub record IsReread (row loaded : Row) : Type 0 where
  pub seen : Seen
  pub reads : ReadsPlain (printed row.raw.cookie) (Ok seen)
  pub raw : loaded.raw ≡ unsliced seen.cookie
  pub path : loaded.path ≡ row.path
  pub domain : loaded.domain ≡ row.domain
  pub death : IsWholeDeath row.death loaded.death
