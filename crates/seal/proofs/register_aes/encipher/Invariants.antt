use Rattle.std.proofs.Common.{◌≡◌}
use Rattle.seal.specs.Aes.{rounds}
use Rattle.seal.proofs.register_aes.encipher.Given as goal

abbrev pub invariant-loop-r : goal.invariant-loop-r
invariant-loop-r l = l.s ≡ rounds l.w l.block l.r
