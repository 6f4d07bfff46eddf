use Rattle.std.proofs.Common.{◌≡◌, ◌≤◌, ◌++◌, length, take, drop}
use Rattle.place_index.proofs.OrderLemmas.{merged}
use Rattle.place_index.proofs.order.merge.Given as goal

abbrev pub invariant-loop-i : goal.invariant-loop-i
invariant-loop-i l =
    record {
      low : l.kept ≤ l.i;
      len : length l.parts.items ≡ length l.fn.parts.items;
      left : take l.kept l.parts.items ++ merged l.done (drop l.i l.parts.items) ≡ merged 0 l.fn.parts.items;
    }
