use Rattle.std.proofs.Common.{rules, subst}
use Rattle.jiff.specs.Words.{civil_nanos}
use Rattle.user_agent.specs.CrossAnswers.{TakesLineFrom}
use Rattle.cookie_jar.proofs.taking.take_line.Goals as goal

pub returns-in-Ok-Judged-default-clause-ok : goal.returns-in-Ok-Judged-default-clause-ok
returns-in-Ok-Judged-default-clause-ok c = (
  search rules,
  search rules,
  subst (λ o. TakesLineFrom c.args.rules.now c.args.across c.args.client.now.suffixes c.args.client.now.rows
      c.args.url.now (civil_nanos c.args.now) c.args.line.now o c.take.new.client.rows)
      c.in-Ok-Judged-default.field-0-0-is c.in-Ok-Judged-default.ensures.ok,
  c.in-Ok-Judged-default.ensures.changes,
)

pub returns-in-Ok-KeptOut-default-clause-ok : goal.returns-in-Ok-KeptOut-default-clause-ok
returns-in-Ok-KeptOut-default-clause-ok c = (
  search rules,
  search rules,
  subst (λ o. TakesLineFrom c.args.rules.now c.args.across c.args.client.now.suffixes c.args.client.now.rows
      c.args.url.now (civil_nanos c.args.now) c.args.line.now o c.take.new.client.rows)
      c.in-Ok-KeptOut-default.field-0-0-is c.in-Ok-KeptOut-default.ensures.ok,
)
