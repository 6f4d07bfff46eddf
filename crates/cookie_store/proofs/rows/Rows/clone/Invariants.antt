use Rattle.std.proofs.Common.{◌≡◌, ◌++◌}
use Rattle.cookie_store.proofs.rows.Rows.clone.Given as goal

-- the copied rows are the first ones, and the others go behind them
abbrev pub invariant-loop-cookie : goal.invariant-loop-cookie
invariant-loop-cookie l = l.rows ++ l.cookie-iterator ≡ l.self
