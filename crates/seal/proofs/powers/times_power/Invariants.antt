use Rattle.std.proofs.Common.{◌≡◌}
use Rattle.seal.specs.Ghash.{times_power}
use Rattle.seal.proofs.powers.times_power.Given as goal

abbrev pub invariant-loop-i : goal.invariant-loop-i
invariant-loop-i g l = l.power ≡ times_power l.i l.x
