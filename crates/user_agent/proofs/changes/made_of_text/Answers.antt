use Rattle.std.proofs.Common.{option_map, string_bytes, subst, sym}
use Rattle.jiff.specs.Words.{civil_nanos}
use Rattle.user_agent.specs.Changes.{AreChangesTo, left_of}
use Rattle.user_agent.specs.LeftAlone.{AreLeftAlone}
use Rattle.user_agent.proofs.ChangeLemmas.{last_made, made_by_none}
use Rattle.user_agent.proofs.changes.made_of_text.Goals as goal

pub returns-then-brief : goal.returns-then-brief
returns-then-brief c =
    let left = rw c.in-Some.is at c.in_ok-brief.ensures in
    let now = civil_nanos c.args.now in
    let line = c.args.line.now in
    let changes = c.as_it_came.result.changes in
    subst (λ t. AreChangesTo c.args.rules.now now line (left_of t line) changes) (sym c.as_it_came.ensures.0)
    (made_by_none c.args.rules.now now line changes (subst (λ b. AreLeftAlone now b line) c.if-brief.true left)
    c.as_it_came.ensures.1)

pub returns-else-brief : goal.returns-else-brief
returns-else-brief c =
    let left = rw c.in-Some.is at c.in_ok-brief.ensures in
    last_made c.made_by_the_last.result (λ made. option_map string_bytes made.text) (λ made. made.changes)
    c.args.rules.now (civil_nanos c.args.now) c.in-Some.brief c.args.line.now left c.made_by_the_last.ensures
