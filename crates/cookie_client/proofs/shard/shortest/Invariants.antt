use Rattle.std.proofs.Common.{◌≤◌, ◌<◌, ◌+◌, ℕ, List, length}
use Rattle.cookie_client.specs.Shard.{IsBehindDot}
use Rattle.cookie_client.proofs.shard.shortest.Given as goal

abbrev pub invariant-loop-end : goal.invariant-loop-end
invariant-loop-end l = (l.end ≤ length l.host)
    × ((text : List ℕ) → IsBehindDot l.list l.host text → ¬ (length text + l.end < length l.host))

abbrev pub decreases-loop-end : goal.decreases-loop-end
decreases-loop-end l = l.end
