use Rattle.user_agent.proofs.SessionLemmas.{sent_lines_pass, sessions_are_taken}
use Rattle.user_agent.proofs.laws.sessions_pass.Goals as goal

pub returns-clause-lines : goal.returns-clause-lines
returns-clause-lines c = sent_lines_pass

pub returns-clause-answers : goal.returns-clause-answers
returns-clause-answers c = sessions_are_taken
