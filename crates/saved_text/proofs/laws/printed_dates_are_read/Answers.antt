use Rattle.saved_text.proofs.PrintedDateLemmas.{printed_read, fraction_dropped}
use Rattle.saved_text.proofs.laws.printed_dates_are_read.Goals as goal

pub returns-clause-read : goal.returns-clause-read
returns-clause-read c = printed_read

pub returns-clause-dropped : goal.returns-clause-dropped
returns-clause-dropped c = fraction_dropped
