use Rattle.std.proofs.Common.{refl}
use Rattle.saved_text.specs.DateReading.{clock_form}
use Rattle.saved_text.proofs.DateLemmas.{digits_at}
use Rattle.saved_text.proofs.date.civil_of.Goals as goal

pub number-month-requires-clause-digits : goal.number-month-requires-clause-digits
number-month-requires-clause-digits c = digits_at c.args.clock.now clock_form 5 7 c.requires.form (refl, (refl, tt))

pub number-day-requires-clause-digits : goal.number-day-requires-clause-digits
number-day-requires-clause-digits c = digits_at c.args.clock.now clock_form 8 10 c.requires.form (refl, (refl, tt))

pub number-hour-requires-clause-digits : goal.number-hour-requires-clause-digits
number-hour-requires-clause-digits c = digits_at c.args.clock.now clock_form 11 13 c.requires.form (refl, (refl, tt))

pub number-minute-requires-clause-digits : goal.number-minute-requires-clause-digits
number-minute-requires-clause-digits c = digits_at c.args.clock.now clock_form 14 16 c.requires.form (refl, (refl, tt))

pub number-second-requires-clause-digits : goal.number-second-requires-clause-digits
number-second-requires-clause-digits c = digits_at c.args.clock.now clock_form 17 19 c.requires.form (refl, (refl, tt))
