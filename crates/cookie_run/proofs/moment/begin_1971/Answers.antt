use Rattle.std.proofs.Common.{pos}
use Rattle.cookie_run.proofs.Calendar.{day_begins, days_1971}
use Rattle.cookie_run.proofs.moment.begin_1971.Goals as goal

pub returns : goal.returns
returns c = day_begins c.datetime.result (pos 1971) _ c.datetime.ensures.date c.datetime.ensures.time days_1971
