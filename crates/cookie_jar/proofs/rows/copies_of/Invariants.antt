use Rattle.cookie_jar.specs.Rows.{AreCopies, lent_rows}
use Rattle.cookie_jar.proofs.rows.copies_of.Given as goal

-- copies of the rows so far
abbrev pub invariant-loop-cookie : goal.invariant-loop-cookie
invariant-loop-cookie l = AreCopies (lent_rows l.yielded) l.copies.items
