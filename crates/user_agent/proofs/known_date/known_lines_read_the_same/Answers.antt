use Rattle.user_agent.proofs.KnownLemmas.{known_lines}
use Rattle.user_agent.proofs.known_date.known_lines_read_the_same.Goals as goal

pub returns : goal.returns
returns c = known_lines c.one_outcome.ensures.plain c.one_date.ensures
