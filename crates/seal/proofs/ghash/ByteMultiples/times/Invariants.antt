use Rattle.std.proofs.Common.{◌≤◌, ◌+◌, ◌*◌}
use Rattle.seal.proofs.StepLemmas.{WorkedOff}
use Rattle.seal.proofs.ghash.ByteMultiples.times.Given as goal

abbrev pub invariant-loop-j : goal.invariant-loop-j
invariant-loop-j g l =
    WorkedOff 8 (8 * l.j) l.x l.self l.low l.high l.rest × (l.turns ≤ l.initial.turns + 2 * l.j)
