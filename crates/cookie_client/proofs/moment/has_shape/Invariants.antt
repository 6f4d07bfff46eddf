use Rattle.std.proofs.Common.{◌≡◌, ℕ, ◌<◌, get_or}
use Rattle.std.specs.Prelude.{codes}
use Rattle.cookie_client.specs.Moment.{blanked}
use Rattle.cookie_client.proofs.moment.has_shape.Given as goal

abbrev pub invariant-loop-i : goal.invariant-loop-i
invariant-loop-i l = (k : ℕ) → k < l.i → blanked (get_or l.text k 0) ≡ get_or (codes "0000-00-00T00:00:00Z") k 0
