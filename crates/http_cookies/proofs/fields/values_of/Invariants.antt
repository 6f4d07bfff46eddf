use Rattle.std.proofs.Common.{map}
use Rattle.std.specs.Prelude.{string_bytes}
use Rattle.std.specs.Vec.Iter.{into_iter_items, into_iter_len}
use Rattle.http_cookies.proofs.Putting.{Making}
use Rattle.http_cookies.proofs.fields.values_of.Given as goal

abbrev pub invariant-loop-line : goal.invariant-loop-line
invariant-loop-line l =
    (goal.iterator-loop-line).can_next l.line-iterator
    × (goal.iterator-loop-line).is_finite l.line-iterator
    × Making (map string_bytes l.fn.lines.items) l.values.items (map string_bytes (into_iter_items l.line-iterator))
    (into_iter_len l.line-iterator)
