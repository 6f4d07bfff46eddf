use Rattle.std.proofs.Common.{Err, Ok, inl, refl, subst}
use Rattle.std.specs.Option.{option_copied}
use Rattle.jar_commands.specs.Outcomes.{outcome_text}
use Rattle.jar_commands.specs.Performing.{AnswersTexts}
use Rattle.jar_commands.specs.Plans.{plan_text}
use Rattle.jar_commands.proofs.KeptLemmas.{replaced_gives}
use Rattle.jar_commands.proofs.keeping.perform_held.Goals as goal

pub returns-in-Ok : goal.returns-in-Ok
returns-in-Ok g c =
    replaced_gives (plan_text c.args.plan.now) c.args.suffixes.now (option_copied c.args.brought)
    (g.K.Keeper.lock c.args.kept.now) (g.K.Keeper.lock c.replaced.new.kept) (outcome_text c.in-Ok.outcome)
    c.replaced.result
    (subst (λ stored. AnswersTexts (plan_text c.args.plan.now) c.args.suffixes.now stored
    (option_copied c.args.brought) (Ok (outcome_text c.in-Ok.outcome))) c.bytes.ensures c.in-Ok.ensures)
    c.replaced.ensures.ok c.replaced.ensures.err c.replaced.ensures.lock

pub returns-in-Err : goal.returns-in-Err
returns-in-Err g c = inl (
  subst (λ stored. AnswersTexts (plan_text c.args.plan.now) c.args.suffixes.now stored
      (option_copied c.args.brought) (Err c.in-Err.stopped.failure)) c.bytes.ensures c.in-Err.ensures,
  refl,
)
