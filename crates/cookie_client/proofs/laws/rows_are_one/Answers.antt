use Rattle.cookie_client.proofs.ReadOnce.{kept_once, row_once}
use Rattle.cookie_client.proofs.laws.rows_are_one.Goals as goal

pub returns-clause-made : goal.returns-clause-made
returns-clause-made c = row_once c.one_outcome.ensures.plain

pub returns-clause-kept : goal.returns-clause-kept
returns-clause-kept c = kept_once c.one_outcome.ensures.plain
