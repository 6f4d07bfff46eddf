use Rattle.jiff.specs.Words.{civil_nanos}
use Rattle.user_agent.proofs.ChangeLemmas.{at_err}
use Rattle.user_agent.proofs.CrossAnswerLemmas.{own_asks, own_is_judged}
use Rattle.user_agent.proofs.agent.take_own.Goals as goal

pub returns-in_err-outcome-clause-err : goal.returns-in_err-outcome-clause-err
returns-in_err-outcome-clause-err c =
    let rules = c.args.rules.now in
    at_err c.from_residual.result _ (
      c.in_err-outcome.ensures.err.0,
      own_asks rules c.of_no_request-own.result c.of_no_request-own.ensures c.args.client.now.suffixes
          c.args.client.now.rows c.take.new.client.rows c.args.url.now (civil_nanos c.args.now) c.args.line.now
          c.in_err-outcome.ensures.err.1,
    )

pub returns-clause-ok : goal.returns-clause-ok
returns-clause-ok c =
    own_is_judged c.args.rules.now c.of_no_request-own.result c.of_no_request-own.ensures c.args.client.now.suffixes
    c.args.client.now.rows c.take.new.client.rows c.args.url.now (civil_nanos c.args.now) c.args.line.now
    c.in_ok-outcome.field-0.0 c.in-Judged.outcome c.in-Judged.is c.in_ok-outcome.ensures.ok
