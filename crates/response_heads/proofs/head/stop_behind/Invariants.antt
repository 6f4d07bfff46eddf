use Rattle.std.proofs.Common.{length}
use Rattle.response_heads.proofs.HeadLemmas.{StopsSoFar}
use Rattle.response_heads.proofs.head.stop_behind.Given as goal

abbrev pub invariant-loop-line : goal.invariant-loop-line
invariant-loop-line l = StopsSoFar l.initial.lines.taken l.initial.lines.rest.now l.lines.rest.now l.lines.taken

abbrev pub decreases-loop-line : goal.decreases-loop-line
decreases-loop-line l = length l.lines.rest.now
