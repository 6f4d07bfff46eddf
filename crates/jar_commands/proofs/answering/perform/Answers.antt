use Rattle.std.proofs.Common.{Result, Ok, Err, subst, sym}
use Rattle.std.specs.Prelude.{IfErr, IfOk}
use Rattle.std.specs.Option.{option_copied}
use Rattle.std.specs.Result.{result_map_both}
use Rattle.jar_commands.specs.Outcomes.{GivesSet, outcome_text}
use Rattle.jar_commands.specs.Performing.{FailsToSet, Gives, Performs, PlanFails}
use Rattle.jar_commands.specs.Plans.{plan_text}
use Rattle.jar_commands.specs.declared.failure.Failure.{Failure}
use Rattle.jar_commands.specs.declared.outcome.Outcome.{Outcome}
use Rattle.jar_commands.proofs.answering.perform.Goals as goal

pub returns-in-Set : goal.returns-in-Set
returns-in-Set c = by c.set.result c.set.ensures.ok c.set.ensures.err
  where
    by : (r : Result Outcome Failure)
        → IfOk r (λ outcome. GivesSet (plan_text c.args.plan.now) c.args.jar.now c.in-Set.url c.in-Set.line.now
        (outcome_text outcome))
        → IfErr r (FailsToSet (plan_text c.args.plan.now) c.args.jar.now c.in-Set.url c.in-Set.line.now)
        → Performs (plan_text c.args.plan.now) c.args.jar.now (option_copied c.args.brought)
        (result_map_both outcome_text (λ failure. failure) r)
    by (Ok outcome) ok err =
        subst (λ command. Gives (plan_text c.args.plan.now) c.args.jar.now (option_copied c.args.brought) command
        (outcome_text outcome)) (sym c.in-Set.is) ok
    by (Err failure) ok err =
        subst (λ command. PlanFails (plan_text c.args.plan.now) c.args.jar.now (option_copied c.args.brought) command
        failure) (sym c.in-Set.is) err
