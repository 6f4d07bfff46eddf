use Rattle.std.proofs.Common.{◌≡◌, ◌+◌, length}
use Rattle.fonnalich_c.proofs.listing.counted.Given as goal

abbrev pub invariant-loop-cookie : goal.invariant-loop-cookie
invariant-loop-cookie l = l.count + length l._cookie-iterator ≡ l.initial.count + length l.initial._cookie-iterator
