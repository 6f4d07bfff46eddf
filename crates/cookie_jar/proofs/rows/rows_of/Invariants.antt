use Rattle.std.specs.Prelude.{◌≡◌, ◌++◌}
use Rattle.cookie_jar.specs.Rows.{lent_rows}
use Rattle.cookie_jar.proofs.rows.rows_of.Given as goal

-- what was lent, and what is left to lend
abbrev pub invariant-loop-cookie : goal.invariant-loop-cookie
invariant-loop-cookie l = lent_rows l.rows.items ++ l.cookie-iterator ≡ l.store.rows
