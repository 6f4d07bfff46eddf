use Rattle.std.proofs.Common.{◌≡◌, map}
use Rattle.std.specs.Prelude.{filter}
use Rattle.cookie_store.specs.Given.{lent_row}
use Rattle.user_agent.specs.SecureWins.{is_in, wins_beside}
use Rattle.user_agent.proofs.secure_wins.winners.Given as goal

abbrev pub invariant-loop-cookie : goal.invariant-loop-cookie
invariant-loop-cookie l = map lent_row l.left.items ≡ filter (wins_beside (is_in l.names)) (map lent_row l.yielded)
