use Rattle.std.proofs.Common.{◌≤◌, ◌-◌, length, take}
use Rattle.saved_text.specs.Written.{AreSame}
use Rattle.saved_text.proofs.ron_write.same_len.Given as goal

abbrev pub invariant-loop-len : goal.invariant-loop-len
invariant-loop-len l = (l.len ≤ length l.text) × AreSame (take l.len l.text)

abbrev pub decreases-loop-len : goal.decreases-loop-len
decreases-loop-len l = length l.text - l.len
