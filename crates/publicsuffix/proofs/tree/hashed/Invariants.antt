use Rattle.std.proofs.Common.{◌≡◌, ◌-◌, length, drop}
use Rattle.publicsuffix.specs.Tree.{hashed}
use Rattle.publicsuffix.proofs.tree.hashed.Given as goal

abbrev pub invariant-loop-read : goal.invariant-loop-read
invariant-loop-read l = hashed l.hash (drop l.read l.text) ≡ hashed l.at l.text

abbrev pub decreases-loop-read : goal.decreases-loop-read
decreases-loop-read l = length l.text - l.read
