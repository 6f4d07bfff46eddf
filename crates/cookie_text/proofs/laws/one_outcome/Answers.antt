use Rattle.cookie_text.proofs.OneOutcome.{one_outcome, one_decoded}
use Rattle.cookie_text.proofs.laws.one_outcome.Goals as goal

pub returns-clause-plain : goal.returns-clause-plain
returns-clause-plain c = one_outcome

pub returns-clause-decoded : goal.returns-clause-decoded
returns-clause-decoded c = one_decoded
