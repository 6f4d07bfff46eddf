use Rattle.user_agent.proofs.CrossLemmas.{carried_cookies_are_read}
use Rattle.user_agent.proofs.cross_site.carried_cookies_are_read.Goals as goal

pub returns : goal.returns
returns c = carried_cookies_are_read
