use Rattle.cookie_run.proofs.Untouched.{plays_untouched, stopped_untouched}
use Rattle.cookie_run.proofs.laws.strangers_dont_show.Goals as goal

pub returns-clause-whole : goal.returns-clause-whole
returns-clause-whole c = plays_untouched c.one_outcome.ensures.plain c.laws.ensures.given c.laws.ensures.order

pub returns-clause-until : goal.returns-clause-until
returns-clause-until c = stopped_untouched c.one_outcome.ensures.plain c.laws.ensures.given c.laws.ensures.order
