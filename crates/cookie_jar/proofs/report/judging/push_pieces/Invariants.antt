use Rattle.std.proofs.Common.{length}
use Rattle.cookie_jar.proofs.report.judging.push_pieces.Given as goal

abbrev pub decreases-loop-left : goal.decreases-loop-left
decreases-loop-left l = length l.left
