use Rattle.std.proofs.Common.{◌∙◌, ap, sym}
use Rattle.std.specs.Option.{option_copied}
use Rattle.cookie.proofs.JarLemmas.{added_named}
use Rattle.cookie.proofs.jar.CookieJar.get.Goals as goal

pub returns-in-Some-clause-named : goal.returns-in-Some-clause-named
returns-in-Some-clause-named c =
    added_named c.self.inside.delta_cookies c.args.name.now c.in-Some.change.now c.added.result c.self.invariant.1
    (sym c.get.ensures ∙ ap option_copied c.in-Some.is) c.added.ensures
