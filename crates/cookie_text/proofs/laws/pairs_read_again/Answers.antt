use Rattle.cookie_text.proofs.PairsAgain.{pair_of, pair_reads_again}
use Rattle.cookie_text.proofs.laws.pairs_read_again.Goals as goal

pub returns-clause-read : goal.returns-clause-read
returns-clause-read c = pair_of

pub returns-clause-again : goal.returns-clause-again
returns-clause-again c = pair_reads_again
