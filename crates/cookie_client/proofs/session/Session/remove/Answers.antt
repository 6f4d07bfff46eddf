use Rattle.std.proofs.Common.{◌∙◌, sym}
use Rattle.cookie_client.proofs.Sending.{remove_sent}
use Rattle.cookie_client.proofs.session.Session.remove.Goals as goal

pub invariant_of-self : goal.invariant_of-self
invariant_of-self c =
    remove_sent c.take_out.result c.args.way c.args.name.now c.removal_refusal.ensures.0 c.args.now
    c.self.inside.jar c.take_out.new.jar c.utf8.name
    c.take_out.ensures.ok c.take_out.ensures.err c.removal_refusal.ensures.1
    (sym c.removal_refusal.ensures.2 ∙ c.in_default.is) c.self.invariant
