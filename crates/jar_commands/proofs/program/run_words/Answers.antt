use Rattle.std.proofs.Common.{◌≡◌, inr, subst, sym}
use Rattle.jar_commands.specs.Performing.{read_by}
use Rattle.jar_commands.specs.Plans.{plan_text}
use Rattle.jar_commands.specs.Program.{IsToldBy}
use Rattle.jar_commands.proofs.ProgramLemmas.{kept_at}
use Rattle.jar_commands.proofs.program.run_words.Goals as goal

pub returns-in-Ok-plan_of : goal.returns-in-Ok-plan_of
returns-in-Ok-plan_of g c =
    let tells = c.run.ensures.tells in
    inr (
      plan_text c.in-Ok-plan_of.plan,
      tells.0,
      tells.1,
      subst (IsToldBy tells.0) (sym c.with_list.ensures) tells.2,
      kept_at _ _ _ _ _ _ c.run.ensures.keeps c.with_list.ensures,
    )
