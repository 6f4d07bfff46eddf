use Rattle.std.proofs.Common.{◌≡◌, ◌*◌, take, drop}
use Rattle.fonnalich_c.specs.Ring.{AreEarlier}
use Rattle.fonnalich_c.proofs.ring.earlier_keys.Given as goal

abbrev pub invariant-loop-end : goal.invariant-loop-end
invariant-loop-end l = AreEarlier l.keys (take l.end-index l.ends) l.earlier.items
    × (l.left ≡ drop (64 * l.end-index) l.keys)
