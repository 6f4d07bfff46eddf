use Rattle.cookie_run.proofs.ScriptAgrees.{lines_go_back, removals_read, removals_refused}
use Rattle.cookie_run.proofs.laws.scripts_refuse_as_plays.Goals as goal

pub returns-clause-back : goal.returns-clause-back
returns-clause-back c = lines_go_back

pub returns-clause-refused : goal.returns-clause-refused
returns-clause-refused c = removals_refused

pub returns-clause-read : goal.returns-clause-read
returns-clause-read c = removals_read
