use Rattle.std.proofs.Common.{◌∙◌, sym, subst, rules}
use Rattle.std.specs.Str.{IsUtf8}
use Rattle.cookie_client.proofs.Sending.{set_sent}
use Rattle.cookie_client.proofs.session.Session.set.Goals as goal

pub invariant_of-self : goal.invariant_of-self
invariant_of-self g c =
    set_sent c.add.result _ c.self.inside.key c.args.way c.args.cookie c.self.inside.jar c.add.new.jar
    c.texts_are_utf8.ensures.signed c.texts_are_utf8.ensures.sealed
    (subst IsUtf8 c.name-name.ensures c.name-name.utf8) (subst IsUtf8 c.value-value.ensures c.value-value.utf8)
    (search rules) (sym c.refusal_of.ensures ∙ c.in_default.is) c.add.ensures.ok c.add.ensures.same c.self.invariant
