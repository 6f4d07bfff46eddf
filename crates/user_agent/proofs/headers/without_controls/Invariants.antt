use Rattle.std.proofs.Common.{◌≡◌, map}
use Rattle.cookie_store.specs.Given.{lent_row}
use Rattle.user_agent.specs.Headers.{free_rows}
use Rattle.user_agent.proofs.headers.without_controls.Given as goal

abbrev pub invariant-loop-cookie : goal.invariant-loop-cookie
invariant-loop-cookie l = map lent_row l.left.items ≡ free_rows (map lent_row l.yielded)
