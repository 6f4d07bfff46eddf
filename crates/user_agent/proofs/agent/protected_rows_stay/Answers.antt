use Rattle.user_agent.proofs.IntegrityLemmas.{protected_rows_stay}
use Rattle.user_agent.proofs.agent.protected_rows_stay.Goals as goal

pub returns : goal.returns
returns c = protected_rows_stay
