use Rattle.std.proofs.Common.{◌≡◌, ◌++◌, length}
use Rattle.std.specs.Prelude.{map}
use Rattle.serde_json.specs.View.{view}
use Rattle.saved_text.specs.Json.{row_value}
use Rattle.saved_text.specs.Saved.{shown}
use Rattle.saved_text.proofs.json_to_value.rows_to_value.Given as goal

abbrev pub invariant-loop-row : goal.invariant-loop-row
invariant-loop-row l = map view l.items.items ++ map row_value (map shown l.rest) ≡ map row_value (map shown l.fn.rows)

abbrev pub decreases-loop-row : goal.decreases-loop-row
decreases-loop-row l = length l.rest
