use Rattle.std.proofs.Common.{map, vec_len}
use Rattle.publicsuffix.specs.Tree.{IsLinked}
use Rattle.publicsuffix.specs.View.{label_view}
use Rattle.publicsuffix.proofs.NodeLemmas.{GrowsTo}
use Rattle.publicsuffix.proofs.tree.Tree.insert.Given as goal

abbrev pub invariant-loop-label : goal.invariant-loop-label
invariant-loop-label l =
    GrowsTo l.fn.self.nodes.items l.self.nodes.items l.at (map label_view l.labels.items) l.fn.rule.labels
    × IsLinked l.self

abbrev pub decreases-loop-label : goal.decreases-loop-label
decreases-loop-label l = vec_len l.labels
