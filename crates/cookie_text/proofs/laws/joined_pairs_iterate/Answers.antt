use Rattle.cookie_text.proofs.PairsBack.{pairs_iterate}
use Rattle.cookie_text.proofs.laws.joined_pairs_iterate.Goals as goal

pub returns : goal.returns
returns c = pairs_iterate
