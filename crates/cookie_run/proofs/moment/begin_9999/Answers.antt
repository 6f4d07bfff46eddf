use Rattle.std.proofs.Common.{pos}
use Rattle.cookie_run.proofs.Calendar.{day_begins, days_9999}
use Rattle.cookie_run.proofs.moment.begin_9999.Goals as goal

pub returns : goal.returns
returns c = day_begins c.datetime.result (pos 9999) _ c.datetime.ensures.date c.datetime.ensures.time days_9999
