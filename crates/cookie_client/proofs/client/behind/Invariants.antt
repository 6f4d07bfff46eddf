use Rattle.std.proofs.Common.{◌≡◌, ◌++◌, Ok, map}
use Rattle.cookie_client.proofs.client.behind.Given as goal

abbrev pub invariant-loop-cookie : goal.invariant-loop-cookie
invariant-loop-cookie l = l.all.items ≡ l.initial.all.items ++ map Ok l.yielded
