-- The moment of a text, by its date.
use Rattle.std.proofs.Common.{◌≡◌, ◌∙◌, Bool, true, false, ℕ, List, Option, Some, None, refl, ap}
use Rattle.std.specs.Prelude.{if◌then◌else◌, option_and_then, option_map}
use Rattle.jiff.specs.Types.{DateTime}
use Rattle.jiff.specs.Words.{civil_nanos}
use Rattle.cookie_client.specs.Moment.{date_of, if_timely, is_timely, moment_at, moment_date, moment_of}
use Rattle.cookie_client.specs.declared.moment.Moment.{Moment}

if_so : (t : Bool) (d : DateTime)
    → (if t then Some (civil_nanos d) else None) ≡ option_map civil_nanos (if t then Some d else None)
if_so true d = refl
if_so false d = refl

by_date : (o : Option DateTime) → option_and_then moment_at o ≡ option_map civil_nanos (option_and_then if_timely o)
by_date None = refl
by_date (Some d) = if_so (is_timely d) d

-- the moment is that of the date
pub moment_dated : (text : List ℕ) → moment_of text ≡ option_map civil_nanos (moment_date text)
unfolding moment_of moment_date
moment_dated text = by_date (date_of text)

pub nanos_of : (o : Option Moment)
    → option_map (λ m. civil_nanos m.date) o ≡ option_map civil_nanos (option_map (λ m. m.date) o)
nanos_of None = refl
nanos_of (Some m) = refl

-- there is a moment where there is a date, and none where there is none
pub moment_some : (text : List ℕ) (d : DateTime) → moment_date text ≡ Some d → moment_of text ≡ Some (civil_nanos d)
moment_some text d is = moment_dated text ∙ ap (option_map civil_nanos) is

pub moment_none : (text : List ℕ) → moment_date text ≡ None → moment_of text ≡ None
moment_none text is = moment_dated text ∙ ap (option_map civil_nanos) is
