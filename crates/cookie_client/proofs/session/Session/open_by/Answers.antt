use Rattle.cookie_client.specs.Jar.{IsSent}
use Rattle.cookie_client.proofs.Sessions.{opened_each}
use Rattle.cookie_client.proofs.session.Session.open_by.Goals as goal

pub invariant_of-result : goal.invariant_of-result
invariant_of-result c = opened_each IsSent c.in_ok-jar.ensures.0 c.in_ok-jar.jar c.in_ok-jar.ensures.2
