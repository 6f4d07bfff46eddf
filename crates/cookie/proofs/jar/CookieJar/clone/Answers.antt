use Rattle.std.proofs.Common.{subst, sym}
use Rattle.cookie.specs.Jar.{cookie_of, AreUnderTheirNames}
use Rattle.cookie.proofs.jar.CookieJar.clone.Goals as goal

pub invariant_of-result : goal.invariant_of-result
invariant_of-result c = (
  subst (AreUnderTheirNames (λ x. x)) (sym c.in_ok-original_cookies.ensures) c.self.invariant.0,
  subst (AreUnderTheirNames cookie_of) (sym c.in_ok-delta_cookies.ensures) c.self.invariant.1,
)
