use Rattle.std.proofs.Common.{◌≤◌, ◌-◌, length, take}
use Rattle.saved_text.specs.JsonWritten.{AreUnescaped}
use Rattle.saved_text.proofs.json_write.unescaped_len.Given as goal

abbrev pub invariant-loop-len : goal.invariant-loop-len
invariant-loop-len l = (l.len ≤ length l.text) × AreUnescaped (take l.len l.text)

abbrev pub decreases-loop-len : goal.decreases-loop-len
decreases-loop-len l = length l.text - l.len
