use Rattle.jar_commands.specs.Plans.{plan_text}
use Rattle.jar_commands.proofs.KeepLemmas.{heads_unkept}
use Rattle.jar_commands.proofs.receiving.receive_text.Goals as goal

pub returns-in-Err-clause-err : goal.returns-in-Err-clause-err
returns-in-Err-clause-err c =
    heads_unkept (plan_text c.args.plan.now) c.args.jar.now c.args.url.now c.args.start.now c.args.is_one
    c.args.text.now c.in_ok-told.field-0.is_any_refused c.receive_heads.new.jar.rows c.in-Err.failure
    c.in_ok-told.ensures.ok c.in-Err.ensures.err
