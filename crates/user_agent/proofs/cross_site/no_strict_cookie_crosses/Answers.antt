use Rattle.user_agent.proofs.CrossLemmas.{no_lax_crosses, no_strict_crosses, own_requests_stay}
use Rattle.user_agent.proofs.cross_site.no_strict_cookie_crosses.Goals as goal

pub returns-clause-strict : goal.returns-clause-strict
returns-clause-strict c = no_strict_crosses

pub returns-clause-lax : goal.returns-clause-lax
returns-clause-lax c = no_lax_crosses

pub returns-clause-own : goal.returns-clause-own
returns-clause-own c = own_requests_stay
