use Rattle.std.proofs.Common.{◌≡◌, length}
use Rattle.response_heads.specs.Lines.{trimmed_end}
use Rattle.response_heads.proofs.field.trimmed_end.Given as goal

abbrev pub invariant-loop-rest : goal.invariant-loop-rest
invariant-loop-rest l = trimmed_end l.rest ≡ trimmed_end l.fn.text

abbrev pub decreases-loop-rest : goal.decreases-loop-rest
decreases-loop-rest l = length l.rest
