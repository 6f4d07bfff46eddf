use Rattle.std.proofs.Common.{pos}
use Rattle.cookie_run.proofs.Calendar.{day_begins, days_1970}
use Rattle.cookie_run.proofs.moment.beginning.Goals as goal

pub returns : goal.returns
returns c = day_begins c.datetime.result (pos 1970) _ c.datetime.ensures.date c.datetime.ensures.time days_1970
