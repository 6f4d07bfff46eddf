use Rattle.cookie_run.proofs.RingOfOneLemmas.{are_that_play, is_such_a_play}
use Rattle.cookie_run.proofs.laws.ring_plays_of_one_key.Goals as goal

pub returns-clause-there : goal.returns-clause-there
returns-clause-there c = are_that_play c.sessions_of_one_key.ensures

pub returns-clause-back : goal.returns-clause-back
returns-clause-back c = is_such_a_play c.sessions_of_one_key.ensures
