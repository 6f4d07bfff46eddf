use Rattle.std.proofs.Common.{refl, sym}
use Rattle.cookie_client.proofs.MomentDates.{moment_none, moment_some}
use Rattle.cookie_run.proofs.script.line.timed.Goals as goal

pub returns-in-Some-clause-at : goal.returns-in-Some-clause-at
returns-in-Some-clause-at c = moment_some c.args.text.now c.in-Some.at.date (sym c.in-Some.ensures)

pub returns-in-None-clause-err : goal.returns-in-None-clause-err
returns-in-None-clause-err c = (refl, moment_none c.args.text.now (sym c.in-None.ensures))
