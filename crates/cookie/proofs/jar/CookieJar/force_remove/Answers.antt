use Rattle.std.proofs.Common.{subst, sym}
use Rattle.cookie.specs.Jar.{cookie_of, AreUnderTheirNames}
use Rattle.cookie.proofs.JarLemmas.{names_remove}
use Rattle.cookie.proofs.jar.CookieJar.force_remove.Goals as goal

pub invariant_of-self : goal.invariant_of-self
invariant_of-self c = (
  subst (AreUnderTheirNames (λ x. x)) (sym c.remove.ensures)
      (names_remove (λ x. x) c.self.inside.original_cookies c.args.name.now c.self.invariant.0),
  subst (AreUnderTheirNames cookie_of) (sym c.remove-2.ensures)
      (names_remove cookie_of c.self.inside.delta_cookies c.args.name.now c.self.invariant.1),
)
