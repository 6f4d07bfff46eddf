use Rattle.std.specs.Prelude.{◌↔◌}
use Rattle.cookie_jar.specs.Keeping.{AreKept}
use Rattle.cookie_jar.proofs.keeping.are_kept.Given as goal

abbrev pub invariant-loop-cookie : goal.invariant-loop-cookie
invariant-loop-cookie l = AreKept l.store.rows ↔ AreKept l.cookie-iterator
