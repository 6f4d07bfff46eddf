use Rattle.std.proofs.Common.{◌≡◌, ◌∷◌, ◌++◌, [], take}
use Rattle.std.specs.List.{filter}
use Rattle.cookie.specs.KeyRing.{counts}
use Rattle.cookie.proofs.secure.key_ring.kept.Given as goal

abbrev pub invariant-loop-it : goal.invariant-loop-it
invariant-loop-it l =
    l.kept.items ≡ filter (counts l.now) (l.fn.last ∷ []) ++ filter (counts l.now) (take l.it-index l.earlier)
