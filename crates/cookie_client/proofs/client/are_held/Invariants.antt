use Rattle.std.specs.Prelude.{◌↔◌}
use Rattle.cookie_client.specs.HostPrefix.{AreHeldRightly}
use Rattle.cookie_client.proofs.client.are_held.Given as goal

abbrev pub invariant-loop-cookie : goal.invariant-loop-cookie
invariant-loop-cookie l = AreHeldRightly l.store.rows ↔ AreHeldRightly l.cookie-iterator
