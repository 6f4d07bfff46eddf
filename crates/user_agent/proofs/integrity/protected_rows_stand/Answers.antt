use Rattle.user_agent.proofs.StandingLemmas.{protected_rows_stand}
use Rattle.user_agent.proofs.integrity.protected_rows_stand.Goals as goal

pub returns : goal.returns
returns c = protected_rows_stand
