use Rattle.std.proofs.Common.{◌+◌, ◌*◌, ◌≤◌, length}
use Rattle.cookie_jar.proofs.json_stop.Walk.+pass.Given as goal

abbrev pub decreases-value : goal.decreases-value
decreases-value l = 2 * l.depth

abbrev pub decreases-items : goal.decreases-items
decreases-items l = 2 * l.depth + 1

abbrev pub decreases-members : goal.decreases-members
decreases-members l = 2 * l.depth + 1

abbrev pub invariant-items-loop-self : goal.invariant-items-loop-self
invariant-items-loop-self l = length l.self.reader ≤ length l.initial.self.reader

abbrev pub decreases-items-loop-self : goal.decreases-items-loop-self
decreases-items-loop-self l = length l.self.reader

abbrev pub invariant-members-loop-self : goal.invariant-members-loop-self
invariant-members-loop-self l = length l.self.reader ≤ length l.initial.self.reader

abbrev pub decreases-members-loop-self : goal.decreases-members-loop-self
decreases-members-loop-self l = length l.self.reader
