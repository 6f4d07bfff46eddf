use Rattle.std.proofs.Common.{length}
use Rattle.publicsuffix.specs.Walk.{labels_left}
use Rattle.publicsuffix.proofs.WalkLemmas.{IsOnWay}
use Rattle.publicsuffix.proofs.walk.+best.Given as goal

abbrev pub decreases-best : goal.decreases-best
decreases-best l = length (labels_left l.rest)

abbrev pub invariant-loop-way : goal.invariant-loop-way
invariant-loop-way l = IsOnWay l.tree.nodes.items l.fn.from l.fn.depth (labels_left l.fn.rest) l.way l.depth
    (labels_left l.rest) l.found

abbrev pub decreases-loop-way : goal.decreases-loop-way
decreases-loop-way l = length (labels_left l.rest)
