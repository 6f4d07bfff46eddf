use Rattle.cookie_text.proofs.BoundAgain.{bound_reads_again}
use Rattle.cookie_text.proofs.laws.bound_read_again.Goals as goal

pub returns : goal.returns
returns c = bound_reads_again
