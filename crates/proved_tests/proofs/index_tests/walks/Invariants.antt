use Rattle.proved_tests.specs.Rows.{AreIndexed}
use Rattle.proved_tests.proofs.index_tests.walks.Given as goal

abbrev pub invariant-loop : goal.invariant-loop
invariant-loop g l = AreIndexed l.rows.items l.index
