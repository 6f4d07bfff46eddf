use Rattle.std.proofs.Common.{◌≡◌, ◌≤◌, ◌+◌, ◌∷◌, [], length, take}
use Rattle.std.specs.List.{filter}
use Rattle.cookie.specs.KeyRing.{counts}
use Rattle.cookie.proofs.secure.key_ring.count_kept.Given as goal

abbrev pub invariant-loop-it : goal.invariant-loop-it
invariant-loop-it l =
    (l.count ≡ length (filter (counts l.now) (l.last ∷ []))
    + length (filter (counts l.now) (take l.it-index l.earlier)))
    × (l.count ≤ l.it-index + 1)
