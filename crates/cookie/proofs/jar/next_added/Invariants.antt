use Rattle.std.proofs.Common.{◌≡◌}
use Rattle.cookie.specs.Jar.{added}
use Rattle.cookie.proofs.jar.next_added.Given as goal

-- nothing that was added was passed over
abbrev pub invariant-loop-change : goal.invariant-loop-change
invariant-loop-change l = added l.changes ≡ added l.initial.changes
