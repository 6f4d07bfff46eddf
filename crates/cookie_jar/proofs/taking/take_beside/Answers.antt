use Rattle.std.proofs.Common.{rules, inr}
use Rattle.jiff.specs.Words.{civil_nanos}
use Rattle.cookie_jar.proofs.TakeLemmas.{next_line, stopped_line}
use Rattle.cookie_jar.proofs.taking.take_beside.Goals as goal

pub loop-i-preserved : goal.loop-i-preserved
loop-i-preserved c = record {
  all = next_line (λ line. line.now) c.args.form c.args.rules.now c.args.across c.args.client.now.suffixes
      c.args.client.now.rows
      c.loop-i.client.rows c.take_line.new.client.rows c.loop-i.ends.items c.push.new.self.items c.in-Ok-take_line.end
      c.args.url.now (civil_nanos c.args.now) c.args.lines.now c.loop-i.i _ c.loop-i-test.true c.loop-i.invariant.all
      c.loop-i.client.suffixes c.loop-i.invariant.list c.in-Ok-take_line.ensures.ok
      c.in-Ok-push.ensures.items;
  places = c.in-Ok-take_line.ensures.places;
  list = search rules;
  count = search rules;
  room = search rules;
}

pub returns-in-Err-clause-stopped : goal.returns-in-Err-clause-stopped
returns-in-Err-clause-stopped c =
    inr (stopped_line (λ line. line.now) c.args.form c.args.rules.now c.args.across c.args.client.now.suffixes
    c.args.client.now.rows
    c.loop-i.client.rows c.take_line.new.client.rows c.loop-i.ends.items c.args.url.now (civil_nanos c.args.now)
    c.args.lines.now c.loop-i.i _ c.loop-i-test.true c.loop-i.invariant.all c.in-Err.ensures.err.0
    c.in-Err.ensures.err.1)
