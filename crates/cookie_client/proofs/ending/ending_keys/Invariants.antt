use Rattle.std.proofs.Common.{◌≡◌, map, take}
use Rattle.cookie_client.specs.Ending as spec
use Rattle.cookie_client.proofs.ending.ending_keys.Given as goal

abbrev pub invariant-loop-it : goal.invariant-loop-it
invariant-loop-it l = l.keys.items ≡ map (spec.ending_earlier l.name) (take l.it-index l.earlier)
