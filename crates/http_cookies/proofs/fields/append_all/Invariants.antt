use Rattle.std.specs.Vec.Iter.{into_iter_items, into_iter_len}
use Rattle.http_cookies.proofs.Putting.{Appending}
use Rattle.http_cookies.proofs.fields.append_all.Given as goal

abbrev pub invariant-loop-value : goal.invariant-loop-value
invariant-loop-value l =
    Appending l.fn.fields l.fn.values.items l.fields (into_iter_items l.value-iterator)
    (into_iter_len l.value-iterator)
