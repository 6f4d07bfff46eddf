use Rattle.user_agent.proofs.AgentLemmas.{clients_take_theirs}
use Rattle.user_agent.proofs.laws.clients_take_theirs.Goals as goal

pub returns : goal.returns
returns c = clients_take_theirs
