use Rattle.std.proofs.Common.{◌∙◌, sym}
use Rattle.std.specs.Prelude.{string_bytes}
use Rattle.cookie.specs.Jar.{cookie_of, Added}
use Rattle.cookie.proofs.JarLemmas.{names_after}
use Rattle.cookie.proofs.jar.CookieJar.add.Goals as goal

pub invariant_of-self : goal.invariant_of-self
invariant_of-self c = (
  c.self.invariant.0,
  names_after cookie_of c.insert.result c.self.inside.delta_cookies c.insert.new.self (string_bytes c.in_ok-name.name)
      (Added c.args.cookie) c.insert.ensures.ok c.insert.ensures.err
      (sym (c.in_ok-name.ensures.ok ∙ c.name.ensures)) c.self.invariant.1,
)
