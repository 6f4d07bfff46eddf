use Rattle.std.proofs.Common.{refl}
use Rattle.cookie_client.proofs.Loading.{listed}
use Rattle.cookie_run.proofs.ProgramFacts.{not_listed}
use Rattle.cookie_run.proofs.program.answering.list_of.Goals as goal

pub returns-in-Ok-clause-ok : goal.returns-in-Ok-clause-ok
returns-in-Ok-clause-ok c = (listed c.args.text.now c.in-Ok.list c.in-Ok.ensures.not_text, c.in-Ok.ensures.rules)

pub returns-in-Err-clause-err : goal.returns-in-Err-clause-err
returns-in-Err-clause-err c =
    not_listed _ c.args.text.now c.in-Err.cause c.unlisted.result refl c.unlisted.ensures c.in-Err.ensures.not_text
    c.in-Err.ensures.fault
