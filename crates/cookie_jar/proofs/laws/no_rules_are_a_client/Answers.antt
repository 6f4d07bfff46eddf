use Rattle.cookie_jar.proofs.TakeLemmas.{without_rules}
use Rattle.cookie_jar.proofs.laws.no_rules_are_a_client.Goals as goal

pub returns : goal.returns
returns c = without_rules c.no_rules_are_the_client.ensures.lines
