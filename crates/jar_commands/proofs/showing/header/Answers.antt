use Rattle.std.proofs.Common.{subst}
use Rattle.jar_commands.specs.Outcomes.{Prints, outcome_text}
use Rattle.jar_commands.proofs.showing.header.Goals as goal

pub returns-clause-ok : goal.returns-clause-ok
returns-clause-ok c =
    let (header, own, printed, clean) = c.in_ok-header.ensures in (
      c.initiator.result,
      c.initiator.ensures,
      header,
      own,
      clean,
      subst (λ t. Prints t (outcome_text c.shown.result)) printed c.shown.ensures,
    )
