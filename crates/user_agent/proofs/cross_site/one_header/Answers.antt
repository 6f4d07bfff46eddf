use Rattle.user_agent.proofs.OneHeaderLemmas.{one_header, one_header_behind}
use Rattle.user_agent.proofs.cross_site.one_header.Goals as goal

pub returns-clause-started : goal.returns-clause-started
returns-clause-started c = one_header c.laws.ensures.given c.laws.ensures.order

pub returns-clause-behind : goal.returns-clause-behind
returns-clause-behind c = one_header_behind c.laws.ensures.given c.laws.ensures.order
