use Rattle.std.proofs.Common.{◌≡◌, length, map}
use Rattle.response_heads.specs.Read.{field_text, unfolded}
use Rattle.response_heads.proofs.folds.unfolded.Given as goal

abbrev pub invariant-loop-left : goal.invariant-loop-left
invariant-loop-left l = unfolded l.line.items (map field_text l.left)
    ≡ unfolded l.fn.value (map field_text l.fn.behind)

abbrev pub decreases-loop-left : goal.decreases-loop-left
decreases-loop-left l = length l.left
