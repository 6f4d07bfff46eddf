use Rattle.std.proofs.Common.{◌≡◌, ◌≤◌}
use Rattle.place_index.specs.Index.{moved}
use Rattle.place_index.proofs.StartLemmas.{first_mapped}
use Rattle.place_index.proofs.moving.move_starts.Given as goal

abbrev pub invariant-loop-i : goal.invariant-loop-i
invariant-loop-i l =
    (l.behind ≤ l.i) × (l.starts ≡ first_mapped (moved l.fn.at) l.i l.initial.starts)
