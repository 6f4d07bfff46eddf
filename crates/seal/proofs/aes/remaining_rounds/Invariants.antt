use Rattle.std.proofs.Common.{◌≡◌, ℕ, List}
use Rattle.seal.specs.Words.{state_bytes}
use Rattle.seal.specs.Aes.{rounds}
use Rattle.seal.proofs.aes.remaining_rounds.Given as goal

abbrev pub invariant-loop-r : goal.invariant-loop-r
invariant-loop-r l =
    (block : List ℕ) → state_bytes l.fn.s ≡ rounds l.w block l.done → state_bytes l.s ≡ rounds l.w block l.r
