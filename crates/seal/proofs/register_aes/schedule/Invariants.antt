use Rattle.std.proofs.Common.{◌≡◌, ◌+◌, ◌*◌, take, length}
use Rattle.seal.specs.Aes.{schedule}
use Rattle.seal.proofs.register_aes.schedule.Given as goal

abbrev pub invariant-loop-i : goal.invariant-loop-i
invariant-loop-i l = (length l.w ≡ 240) × (take l.i l.w ≡ take l.i l.key)

abbrev pub invariant-loop-m : goal.invariant-loop-m
invariant-loop-m l = (length l.w ≡ 240) × (take (16 * l.m + 32) l.w ≡ schedule l.key (4 * l.m))
