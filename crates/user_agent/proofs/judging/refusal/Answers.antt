use Rattle.jiff.specs.Words.{civil_nanos}
use Rattle.user_agent.proofs.JudgingLemmas.{asked_of, judged}
use Rattle.user_agent.proofs.judging.refusal.Goals as goal

pub returns-clause-found : goal.returns-clause-found
returns-clause-found c =
    judged c.one_outcome.ensures.plain c.args.rules.now c.args.store.now.rows c.args.url.now (civil_nanos c.args.now)
    c.args.line.now c.args.cookie.now c.utf8.line c.requires.read c.cookie_refusal.result c.cookie_refusal.ensures.found

pub returns-clause-err : goal.returns-clause-err
returns-clause-err c =
    asked_of c.cookie_refusal.result c.args.rules.now c.args.url.now c.args.line.now c.args.cookie.now c.utf8.line
    c.requires.read c.cookie_refusal.ensures.err
