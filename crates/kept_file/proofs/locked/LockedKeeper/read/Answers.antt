use Rattle.std.proofs.Common.{option_map, refl}
use Rattle.kept_file.proofs.locked.LockedKeeper.read.Goals as goal

pub returns-in-Held-clause-ok : goal.returns-in-Held-clause-ok
returns-in-Held-clause-ok g c =
    (option_map (λ all. all.items) c.match-read.bytes, rw (c.in-Held.is) refl)
