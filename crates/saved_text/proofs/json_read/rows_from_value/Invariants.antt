use Rattle.std.proofs.Common.{length}
use Rattle.serde_json.specs.View.{view, items_view}
use Rattle.saved_text.proofs.JsonReadLemmas.{RowsSoFar}
use Rattle.saved_text.proofs.json_read.rows_from_value.Given as goal

abbrev pub invariant-loop-item : goal.invariant-loop-item
invariant-loop-item l = RowsSoFar (view l.fn.value) l.rows.items (items_view l.rest)

abbrev pub decreases-loop-item : goal.decreases-loop-item
decreases-loop-item l = length l.rest
