use Rattle.proved_tests.specs.Rows.{AreIndexed}
use Rattle.proved_tests.proofs.index_rows.fill.Given as goal

abbrev pub invariant-loop-line : goal.invariant-loop-line
invariant-loop-line g l =
    AreIndexed l.rows.items l.index ×
    (goal.iterator-loop-line g).can_next l.line-iterator ×
    (goal.iterator-loop-line g).is_finite l.line-iterator
