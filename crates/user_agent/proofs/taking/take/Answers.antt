use Rattle.std.proofs.Common.{subst}
use Rattle.std.proofs.lemmas.Bool.{both_ways}
use Rattle.jiff.specs.Words.{civil_nanos}
use Rattle.user_agent.specs.Agent.{HandedAsks}
use Rattle.user_agent.specs.CrossAnswers.{TakesHandedFrom}
use Rattle.user_agent.proofs.ChangeLemmas.{at_err, told_asks, told_from}
use Rattle.user_agent.proofs.CrossAnswerLemmas.{places_from}
use Rattle.user_agent.proofs.taking.take.Goals as goal

pub returns-in_err-outcome-clause-err : goal.returns-in_err-outcome-clause-err
returns-in_err-outcome-clause-err c =
    at_err c.from_residual-in_err-outcome.result _ (
      c.in_err-outcome.ensures.err.0,
      told_asks c.args.rules.now c.args.url.now (civil_nanos c.args.now) c.args.line.now _ c.in_ok-made.made.changes
          (λ stopped. both_ways _ c.if-is_stopped.false (c.is_stopped.ensures.1 stopped)) c.in_ok-made.ensures.made
          (subst (HandedAsks c.args.rules.now c.args.url.now) c.left_of-left.ensures c.in_err-outcome.ensures.err.1),
    )

pub returns-clause-ok : goal.returns-clause-ok
returns-clause-ok c =
    let now = civil_nanos c.args.now in
    let new = c.take_handed.new.client.rows in
    let outcome = c.in_ok-outcome.outcome in
    told_from c.args.rules.now c.args.across c.args.client.now.suffixes c.args.client.now.rows new c.args.url.now now
    c.args.line.now _ c.in_ok-made.made.changes outcome
    (λ stopped. both_ways _ c.if-is_stopped.false (c.is_stopped.ensures.1 stopped)) c.in_ok-made.ensures.made
    (subst (λ l. TakesHandedFrom c.args.rules.now c.args.across c.args.client.now.suffixes c.args.client.now.rows
    c.args.url.now now l outcome new) c.left_of-left.ensures c.in_ok-outcome.ensures.ok)

pub returns-clause-places : goal.returns-clause-places
returns-clause-places c h =
    let now = civil_nanos c.args.now in
    let new = c.take_handed.new.client.rows in
    let outcome = c.in_ok-outcome.outcome in
    places_from c.args.secure.now c.args.rules.now c.args.across c.args.client.now.suffixes c.args.client.now.rows new
    c.args.url.now now c.args.line.now outcome h
    (told_from c.args.rules.now c.args.across c.args.client.now.suffixes c.args.client.now.rows new c.args.url.now now
    c.args.line.now _ c.in_ok-made.made.changes outcome
    (λ stopped. both_ways _ c.if-is_stopped.false (c.is_stopped.ensures.1 stopped)) c.in_ok-made.ensures.made
    (subst (λ l. TakesHandedFrom c.args.rules.now c.args.across c.args.client.now.suffixes c.args.client.now.rows
    c.args.url.now now l outcome new) c.left_of-left.ensures c.in_ok-outcome.ensures.ok))
