use Rattle.user_agent.proofs.HeaderLemmas.{headers_are_free, started_headers_are_free}
use Rattle.user_agent.proofs.laws.headers_have_no_control.Goals as goal

pub returns-clause-behind : goal.returns-clause-behind
returns-clause-behind c = headers_are_free

pub returns-clause-started : goal.returns-clause-started
returns-clause-started c = started_headers_are_free
