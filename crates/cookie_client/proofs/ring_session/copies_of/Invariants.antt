use Rattle.std.proofs.Common.{◌≡◌, take}
use Rattle.cookie_client.proofs.ring_session.copies_of.Given as goal

abbrev pub invariant-loop-it : goal.invariant-loop-it
invariant-loop-it l = l.copies.items ≡ take l.it-index l.keys
