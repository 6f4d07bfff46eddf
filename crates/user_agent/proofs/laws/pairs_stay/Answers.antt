use Rattle.user_agent.proofs.PairLemmas.{pairs_stay}
use Rattle.user_agent.proofs.laws.pairs_stay.Goals as goal

pub returns : goal.returns
returns c = pairs_stay
