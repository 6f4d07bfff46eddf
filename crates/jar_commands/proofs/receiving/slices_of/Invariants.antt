use Rattle.std.proofs.Common.{◌≡◌, map, take}
use Rattle.jar_commands.proofs.receiving.slices_of.Given as goal

abbrev pub invariant-loop-line : goal.invariant-loop-line
invariant-loop-line l = map (λ slice. slice.now) l.slices.items ≡ map (λ line. line.items) (take l.line-index l.lines)
