use Rattle.std.proofs.Common.{length}
use Rattle.publicsuffix.specs.Tree.{edges_of}
use Rattle.publicsuffix.proofs.TableLemmas.{IsAlong}
use Rattle.publicsuffix.proofs.tree.Tree.find.Given as goal

abbrev pub invariant-loop-next : goal.invariant-loop-next
invariant-loop-next l = IsAlong (edges_of l.self.nodes.items) (length l.self.heads.items) l.at l.text l.next

abbrev pub decreases-loop-next : goal.decreases-loop-next
decreases-loop-next l = l.next
