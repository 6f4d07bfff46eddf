use Rattle.std.proofs.Common.{subst}
use Rattle.jiff.specs.Words.{civil_nanos}
use Rattle.jar_commands.specs.Plans.{plan_text}
use Rattle.jar_commands.specs.Setting.{TakesSet}
use Rattle.jar_commands.proofs.KeepLemmas.{set_unkept}
use Rattle.jar_commands.proofs.setting.set.Goals as goal

pub returns-clause-err : goal.returns-clause-err
returns-clause-err c =
    set_unkept (plan_text c.args.plan.now) c.args.jar.now c.args.url.now c.args.line.now c.in_ok-ends.ends.items
    c.take_line.new.jar.rows c.in-Err.failure
    (subst (λ line. TakesSet c.args.plan.now.form c.args.plan.now.rules c.args.jar.now.suffixes c.args.jar.now.rows
    c.args.url.now (civil_nanos c.args.plan.now.at) line c.in_ok-ends.ends.items c.take_line.new.jar.rows)
    c.as_bytes-line.ensures.value c.in_ok-ends.ensures) c.in-Err.ensures.err
