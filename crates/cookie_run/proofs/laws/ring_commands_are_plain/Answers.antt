use Rattle.cookie_run.proofs.RingPlainLemmas.{commands_plain, plays_plain}
use Rattle.cookie_run.proofs.laws.ring_commands_are_plain.Goals as goal

pub returns-clause-commands : goal.returns-clause-commands
returns-clause-commands c = commands_plain c.texts_are_utf8.ensures.signed c.texts_are_utf8.ensures.sealed

pub returns-clause-plays : goal.returns-clause-plays
returns-clause-plays c = plays_plain c.texts_are_utf8.ensures.signed c.texts_are_utf8.ensures.sealed
