use Rattle.user_agent.proofs.AgentLemmas.{without_rules}
use Rattle.user_agent.proofs.HeaderLemmas.{other_headers_are_the_clients}
use Rattle.user_agent.proofs.agent.no_rules_are_the_client.Goals as goal

pub returns-clause-lines : goal.returns-clause-lines
returns-clause-lines c = without_rules

pub returns-clause-headers : goal.returns-clause-headers
returns-clause-headers c = other_headers_are_the_clients
