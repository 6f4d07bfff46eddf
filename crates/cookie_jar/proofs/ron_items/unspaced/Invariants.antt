use Rattle.std.proofs.Common.{◌≡◌, length}
use Rattle.cookie_jar.specs.RonItems.{unspaced}
use Rattle.cookie_jar.proofs.ron_items.unspaced.Given as goal

abbrev pub invariant-loop-rest : goal.invariant-loop-rest
invariant-loop-rest l = unspaced l.rest ≡ unspaced l.fn.text

abbrev pub decreases-loop-rest : goal.decreases-loop-rest
decreases-loop-rest l = length l.rest
