use Rattle.std.proofs.Common.{length, map}
use Rattle.response_heads.specs.Read.{head_text}
use Rattle.response_heads.proofs.HeadLemmas.{HeadsSoFar}
use Rattle.response_heads.proofs.head.heads.Given as goal

abbrev pub invariant-loop-line : goal.invariant-loop-line
invariant-loop-line l = HeadsSoFar l.fn.text l.lines.rest.now l.lines.taken (map head_text l.heads.items)

abbrev pub decreases-loop-line : goal.decreases-loop-line
decreases-loop-line l = length l.lines.rest.now
