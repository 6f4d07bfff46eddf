use Rattle.std.proofs.Common.{◌≡◌, map}
use Rattle.cookie_client.proofs.HeldCopies.{ok_of}
use Rattle.cookie_jar.proofs.reading.placed.Given as goal

abbrev pub invariant-loop-cookie : goal.invariant-loop-cookie
invariant-loop-cookie l = l.given.items ≡ map ok_of l.yielded
