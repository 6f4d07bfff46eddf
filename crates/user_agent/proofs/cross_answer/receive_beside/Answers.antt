use Rattle.std.proofs.Common.{rules, inr}
use Rattle.jiff.specs.Words.{civil_nanos}
use Rattle.user_agent.proofs.CrossAnswerLemmas.{next_from, places_from, stopped_from}
use Rattle.user_agent.proofs.cross_answer.receive_beside.Goals as goal

pub loop-i-preserved : goal.loop-i-preserved
loop-i-preserved c = record {
  all = next_from (λ line. line.now) c.args.rules.now c.args.across c.args.client.now.suffixes c.args.client.now.rows
      c.loop-i.client.rows c.take.new.client.rows c.loop-i.outcomes.items c.push.new.self.items
      c.in-Ok-take.outcome c.args.url.now (civil_nanos c.args.now) c.args.lines.now c.loop-i.i _
      c.loop-i-test.true c.loop-i.invariant.all c.loop-i.client.suffixes c.loop-i.invariant.list
      c.in-Ok-take.ensures.ok c.in-Ok-push.ensures.items;
  places = places_from c.args.secure.now c.args.rules.now c.args.across c.loop-i.client.suffixes c.loop-i.client.rows
      c.take.new.client.rows c.args.url.now (civil_nanos c.args.now) _ c.in-Ok-take.outcome
      c.loop-i.invariant.places c.in-Ok-take.ensures.ok;
  list = search rules;
  count = search rules;
  room = search rules;
}

pub returns-in-Err-clause-stopped : goal.returns-in-Err-clause-stopped
returns-in-Err-clause-stopped c =
    inr (stopped_from (λ line. line.now) c.args.rules.now c.args.across c.args.client.now.suffixes
    c.args.client.now.rows c.loop-i.client.rows c.take.new.client.rows c.loop-i.outcomes.items c.args.url.now
    (civil_nanos c.args.now) c.args.lines.now c.loop-i.i _ c.loop-i-test.true c.loop-i.invariant.all
    c.in-Err.ensures.err.0 c.in-Err.ensures.err.1)
