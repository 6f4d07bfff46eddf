use Rattle.std.proofs.Common.{subst, sym}
use Rattle.cookie.specs.Jar.{cookie_of, AreUnderTheirNames}
use Rattle.cookie.proofs.JarLemmas.{names_empty}
use Rattle.cookie.proofs.jar.CookieJar.new.Goals as goal

pub invariant_of-result : goal.invariant_of-result
invariant_of-result c = (
  subst (AreUnderTheirNames (λ x. x)) (sym c.new.ensures) (names_empty (λ x. x)),
  subst (AreUnderTheirNames cookie_of) (sym c.new-2.ensures) (names_empty cookie_of),
)
