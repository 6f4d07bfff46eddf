use Rattle.std.proofs.Common.{◌≡◌}
use Rattle.cookie.specs.Jar.{unchanged}
use Rattle.cookie.proofs.jar.next_unchanged.Given as goal

-- no such original was passed over
abbrev pub invariant-loop-name : goal.invariant-loop-name
invariant-loop-name l = unchanged l.changes l.originals ≡ unchanged l.changes l.initial.originals
