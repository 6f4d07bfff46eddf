use Rattle.user_agent.proofs.CrossAnswerLemmas.{judged_lines_are_received, own_answers_are_received}
use Rattle.user_agent.proofs.CrossAnswerLemmas.{received_lines_are_own}
use Rattle.user_agent.proofs.cross_answer.judged_lines_are_received.Goals as goal

pub returns-clause-judged : goal.returns-clause-judged
returns-clause-judged c = judged_lines_are_received

pub returns-clause-own : goal.returns-clause-own
returns-clause-own c = own_answers_are_received

pub returns-clause-received : goal.returns-clause-received
returns-clause-received c = received_lines_are_own
