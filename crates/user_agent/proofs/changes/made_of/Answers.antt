use Rattle.std.proofs.Common.{◌∙◌, subst, sym}
use Rattle.jiff.specs.Words.{civil_nanos}
use Rattle.user_agent.specs.Changes.{IsMadeOf}
use Rattle.user_agent.proofs.ChangeLemmas.{made_without}
use Rattle.user_agent.proofs.changes.made_of.Goals as goal

pub returns-then-not-rewrites-clause-made : goal.returns-then-not-rewrites-clause-made
returns-then-not-rewrites-clause-made c =
    let now = civil_nanos c.args.now in
    let changes = c.as_it_came.result.changes in
    subst (λ t. IsMadeOf c.args.rules.now now c.args.line.now t changes) (sym c.as_it_came.ensures.0)
    (made_without c.args.rules.now now c.args.line.now changes (sym c.if-not-rewrites.true ∙ c.rewrites.ensures)
    c.as_it_came.ensures.1)
