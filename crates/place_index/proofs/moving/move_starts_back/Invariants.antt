use Rattle.std.proofs.Common.{◌≡◌, ◌≤◌}
use Rattle.place_index.specs.Taking.{moved_back}
use Rattle.place_index.proofs.StartLemmas.{first_mapped}
use Rattle.place_index.proofs.moving.move_starts_back.Given as goal

abbrev pub invariant-loop-index : goal.invariant-loop-index
invariant-loop-index l =
    (l.behind ≤ l.index) × (l.starts ≡ first_mapped (moved_back l.fn.at) l.index l.initial.starts)
