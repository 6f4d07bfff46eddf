use Rattle.std.proofs.Common.{rules}
use Rattle.cookie_client.proofs.Headers.{header_more}
use Rattle.cookie_client.proofs.client.header_of.Goals as goal

pub loop-cookie-preserved : goal.loop-cookie-preserved
loop-cookie-preserved c =
    header_more c.loop-cookie.yielded c.in-Some.cookie _ _ _ _ c.loop-cookie.invariant (search rules) (search rules)
    c.in_ok-push_pair.ensures
