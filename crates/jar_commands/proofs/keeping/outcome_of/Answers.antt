use Rattle.std.proofs.Common.{◌∙◌, sym}
use Rattle.std.specs.Option.{option_copied}
use Rattle.jar_commands.specs.Plans.{plan_text}
use Rattle.jar_commands.proofs.KeptLemmas.{unlocked_gives}
use Rattle.jar_commands.proofs.keeping.outcome_of.Goals as goal

pub returns : goal.returns
returns g c =
    unlocked_gives (plan_text c.args.plan.now) c.args.suffixes.now (option_copied c.args.brought)
    (option_copied c.as_deref.result) (g.K.Keeper.lock c.args.kept.now) _ _
    (sym c.changes.ensures ∙ c.if-changes.false) c.answer_placed.ensures
