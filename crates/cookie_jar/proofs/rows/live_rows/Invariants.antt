use Rattle.std.specs.Prelude.{◌≡◌, ◌++◌}
use Rattle.jiff.specs.Words.{civil_nanos}
use Rattle.cookie_store.specs.Rows.{live}
use Rattle.cookie_jar.specs.Rows.{lent_rows}
use Rattle.cookie_jar.proofs.rows.live_rows.Given as goal

-- what was lent, and what is left to lend
abbrev pub invariant-loop-cookie : goal.invariant-loop-cookie
invariant-loop-cookie l = lent_rows l.rows.items ++ l.cookie-iterator ≡ live (civil_nanos l.fn.now) l.store.rows
