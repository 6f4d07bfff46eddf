use Rattle.std.proofs.Common.{◌∙◌, sym, subst}
use Rattle.std.specs.Prelude.{string_bytes}
use Rattle.cookie.specs.Jar.{cookie_of, AreUnderTheirNames, Removed}
use Rattle.cookie.proofs.JarLemmas.{names_remove, names_after}
use Rattle.cookie.proofs.jar.CookieJar.remove.Goals as goal

pub invariant_of-self : goal.invariant_of-self
invariant_of-self c = (
  c.self.invariant.0,
  subst (AreUnderTheirNames cookie_of) (sym c.remove.ensures)
      (names_remove cookie_of c.self.inside.delta_cookies c.name-then-not-contains.result.now c.self.invariant.1),
)

pub invariant_of-self-2 : goal.invariant_of-self-2
invariant_of-self-2 c = (
  c.self.invariant.0,
  names_after cookie_of c.insert.result c.self.inside.delta_cookies c.insert.new.self (string_bytes c.in_ok-name.name)
      (Removed c.make_removal.new.self) c.insert.ensures.ok c.insert.ensures.err
      (sym (c.in_ok-name.ensures.ok ∙ c.name-2.ensures)) c.self.invariant.1,
)
