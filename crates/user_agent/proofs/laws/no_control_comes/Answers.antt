use Rattle.user_agent.proofs.ControlLemmas.{free_lines_read, free_lines_stay}
use Rattle.user_agent.proofs.laws.no_control_comes.Goals as goal

pub returns-clause-stay : goal.returns-clause-stay
returns-clause-stay c = free_lines_stay

pub returns-clause-read : goal.returns-clause-read
returns-clause-read c = free_lines_read
