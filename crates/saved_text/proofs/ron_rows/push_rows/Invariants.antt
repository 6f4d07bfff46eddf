use Rattle.std.proofs.Common.{◌≡◌, ◌++◌, length, string_bytes}
use Rattle.std.specs.Prelude.{map}
use Rattle.saved_text.specs.RonLayout.{rows_layout}
use Rattle.saved_text.specs.Saved.{shown}
use Rattle.saved_text.proofs.ron_rows.push_rows.Given as goal

abbrev pub invariant-loop-row : goal.invariant-loop-row
invariant-loop-row l = string_bytes l.out ++ rows_layout (map shown l.rest) ≡ string_bytes l.fn.out ++ rows_layout
    (map shown l.fn.rows)

abbrev pub decreases-loop-row : goal.decreases-loop-row
decreases-loop-row l = length l.rest
