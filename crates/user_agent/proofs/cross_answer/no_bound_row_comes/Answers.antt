use Rattle.user_agent.proofs.CrossAnswerLemmas.{no_bound_row_comes, unrestricted_rows_are_secure}
use Rattle.user_agent.proofs.cross_answer.no_bound_row_comes.Goals as goal

pub returns-clause-bound : goal.returns-clause-bound
returns-clause-bound c = no_bound_row_comes

pub returns-clause-unrestricted : goal.returns-clause-unrestricted
returns-clause-unrestricted c = unrestricted_rows_are_secure
