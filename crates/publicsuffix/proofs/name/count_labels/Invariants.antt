use Rattle.std.proofs.Common.{◌≤◌, ◌+◌, length, drop}
use Rattle.publicsuffix.proofs.NameLemmas.{Counts}
use Rattle.publicsuffix.proofs.name.count_labels.Given as goal

abbrev pub invariant-loop-at : goal.invariant-loop-at
invariant-loop-at l = (l.at ≤ length l.text) × (l.count + l.at ≤ length l.text + 1)
    × Counts (drop l.at l.text) l.count l.empty

abbrev pub decreases-loop-at : goal.decreases-loop-at
decreases-loop-at l = l.at
