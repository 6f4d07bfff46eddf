use Rattle.std.proofs.Common.{subst, ◌++◌}
use Rattle.cookie.specs.ByName.{Lists}
use Rattle.cookie.specs.Jar.{Jar, view, under_names, added, unchanged}
use Rattle.cookie.proofs.JarLemmas.{lists_view}
use Rattle.cookie.proofs.jar.CookieJar.iter.Goals as goal

pub returns : goal.returns
returns c =
    subst (λ (j : Jar). Lists (under_names (added c.iter.result ++ unchanged c.self.inside.delta_cookies
    c.iter-2.result)) (view j)) c.self.view_is
    (lists_view c.iter.result c.iter-2.result (record
    { originals = c.self.inside.original_cookies; changes = c.self.inside.delta_cookies })
    c.iter.ensures c.iter-2.ensures c.self.invariant.1 c.self.invariant.0)
