use Rattle.std.proofs.Common.{◌≡◌, ◌+◌, ◌++◌, ◌≤◌, drop, length}
use Rattle.place_index.specs.Candidates.{after_dots, domains_of, paths_of}
use Rattle.place_index.specs.Found.{spans, looks_for}
use Rattle.place_index.proofs.find.ask_domains.Given as goal

abbrev pub invariant-loop-i : goal.invariant-loop-i
invariant-loop-i g l =
    (l.found.items ++ spans l.domains (after_dots (drop l.i l.host)) (paths_of l.path)
    ≡ l.fn.found.items ++ spans l.domains (domains_of l.host) (paths_of l.path))
    × (l.looks + looks_for l.domains (after_dots (drop l.i l.host)) (length (paths_of l.path))
    ≤ l.fn.looks + looks_for l.domains (domains_of l.host) (length (paths_of l.path)))
