use Rattle.std.proofs.Common.{◌≤◌, ◌≡◌, false, length, drop, All}
use Rattle.idna.specs.Labels.{is_full_stop}
use Rattle.publicsuffix.proofs.walk.split_last.Given as goal

abbrev pub invariant-loop-end : goal.invariant-loop-end
invariant-loop-end l = (l.end ≤ length l.text) × All (λ b. is_full_stop b ≡ false) (drop l.end l.text)

abbrev pub decreases-loop-end : goal.decreases-loop-end
decreases-loop-end l = l.end
