use Rattle.std.proofs.Common.{◌≡◌, ◌+◌, ◌++◌, ◌≤◌, drop, length, true}
use Rattle.std.specs.Prelude.{Some}
use Rattle.std.specs.Str.{IsCharBoundary}
use Rattle.place_index.specs.Candidates.{beginnings, paths_of}
use Rattle.place_index.specs.Found.{spans_of}
use Rattle.place_index.specs.Index.{part_at}
use Rattle.place_index.proofs.StepLemmas.{left}
use Rattle.place_index.proofs.find.ask_paths.Given as goal

-- what is left to ask completes what was asked
abbrev pub invariant-loop-i : goal.invariant-loop-i
invariant-loop-i g l =
    (l.found.items ++ spans_of (left l.path l.i l.behind) (Some (part_at l.start l.domain))
    ≡ l.fn.found.items ++ spans_of (paths_of l.path) (Some (part_at l.start l.domain)))
    × (l.looks + length (beginnings l.behind (drop l.i l.path)) ≤ l.fn.looks + length (paths_of l.path))
    × (l.behind ≡ true → IsCharBoundary l.path l.i)
