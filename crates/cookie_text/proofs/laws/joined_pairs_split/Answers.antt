use Rattle.cookie_text.proofs.PairsBack.{pairs_back}
use Rattle.cookie_text.proofs.laws.joined_pairs_split.Goals as goal

pub returns : goal.returns
returns c = pairs_back
