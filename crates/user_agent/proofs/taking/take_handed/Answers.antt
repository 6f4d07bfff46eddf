use Rattle.std.proofs.Common.{◌≡◌, subst}
use Rattle.std.specs.Prelude.{IfOk, OnErr}
use Rattle.jiff.specs.Words.{civil_nanos}
use Rattle.user_agent.specs.Agent.{HandedAsks}
use Rattle.user_agent.specs.CrossAnswers.{TakesHandedFrom}
use Rattle.user_agent.proofs.taking.take_handed.Goals as goal

pub returns-in-Ok-parse-clause-ok : goal.returns-in-Ok-parse-clause-ok
returns-in-Ok-parse-clause-ok c =
    subst (λ t. IfOk c.take_read.result (λ outcome. TakesHandedFrom c.args.rules.now c.args.across
    c.args.client.now.suffixes c.args.client.now.rows c.args.url.now (civil_nanos c.args.now) t outcome
    c.take_read.new.client.rows)) c.in-Ok.ensures.cases.0 c.take_read.ensures.ok

pub returns-in-Ok-parse-clause-err : goal.returns-in-Ok-parse-clause-err
returns-in-Ok-parse-clause-err c =
    subst (λ t. OnErr c.take_read.result ((c.take_read.new.client.rows ≡ c.args.client.now.rows)
    × HandedAsks c.args.rules.now c.args.url.now t)) c.in-Ok.ensures.cases.0 c.take_read.ensures.err
