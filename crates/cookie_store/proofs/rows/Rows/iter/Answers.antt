use Rattle.std.proofs.Common.{subst}
use Rattle.cookie_store.specs.Grouped.{AreGrouped}
use Rattle.cookie_store.proofs.GroupedLemmas.{indexed_grouped}
use Rattle.cookie_store.proofs.rows.Rows.iter.Goals as goal

pub returns-clause-grouped : goal.returns-clause-grouped
returns-clause-grouped c =
    subst AreGrouped c.self.view_is (indexed_grouped _ c.self.inside.index c.self.invariant)
