use Rattle.user_agent.proofs.SessionStrictLemmas.{sessions_set_strictly}
use Rattle.user_agent.proofs.StrictRunLemmas.{strict_names_are_read_at_home}
use Rattle.user_agent.proofs.cross_site.strict_names_are_read_at_home.Goals as goal

pub returns-clause-read : goal.returns-clause-read
returns-clause-read c = strict_names_are_read_at_home

pub returns-clause-sessions : goal.returns-clause-sessions
returns-clause-sessions c = sessions_set_strictly
