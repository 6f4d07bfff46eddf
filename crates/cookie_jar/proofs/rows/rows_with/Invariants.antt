use Rattle.cookie_jar.specs.Keeping.{IsTaken}
use Rattle.cookie_jar.proofs.RowLemmas.{PicksSoFar}
use Rattle.cookie_jar.specs.Rows.{lent_rows}
use Rattle.cookie_jar.proofs.rows.rows_with.Given as goal

abbrev pub invariant-loop-cookie : goal.invariant-loop-cookie
invariant-loop-cookie l =
    PicksSoFar (IsTaken l.form) l.fn.store.rows l.other.rows (lent_rows l.rows.items) l.cookie-iterator
