use Rattle.std.proofs.Common.{ap}
use Rattle.cookie.proofs.JarLemmas.{lists_delta}
use Rattle.cookie.proofs.jar.CookieJar.delta.Goals as goal

pub returns : goal.returns
returns c = lists_delta c.iter.result c.args.self.now c.self.inside.delta_cookies
    (ap (λ j. j.changes) c.self.view_is) c.iter.ensures c.self.invariant.1
