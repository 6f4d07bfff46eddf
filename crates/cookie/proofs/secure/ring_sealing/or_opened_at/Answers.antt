use Rattle.cookie.proofs.TrialLemmas.{or_opened}
use Rattle.cookie.proofs.secure.ring_sealing.or_opened_at.Goals as goal

pub returns-in-None : goal.returns-in-None
returns-in-None c =
    or_opened c.args.name.now c.args.text.now c.args.now c.args.ring.now c.args.place c.args.before c.opened_at.result
    c.in-None.is c.opened_at.ensures
