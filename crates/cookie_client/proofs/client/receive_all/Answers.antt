use Rattle.std.proofs.Common.{rules, inr}
use Rattle.jiff.specs.Words.{civil_nanos}
use Rattle.cookie_client.proofs.Receiving.{next_line, stopped_line}
use Rattle.cookie_client.proofs.client.receive_all.Goals as goal

pub loop-i-preserved : goal.loop-i-preserved
loop-i-preserved c = record {
  all = next_line (λ line. line.now) c.args.store.now.suffixes c.args.store.now.rows c.loop-i.store.rows
      c.accept_line.new.store.rows c.loop-i.ends.items c.push.new.self.items c.in-Ok-accept_line.end c.args.url.now
      (civil_nanos c.args.now) c.args.lines.now c.loop-i.i _ c.loop-i-test.true c.loop-i.invariant.all
      c.loop-i.store.suffixes c.loop-i.invariant.list c.in-Ok-accept_line.ensures.ok
      c.in-Ok-push.ensures.items;
  list = search rules;
  count = search rules;
  room = search rules;
}

pub returns-in-Err-clause-stopped : goal.returns-in-Err-clause-stopped
returns-in-Err-clause-stopped c =
    inr (stopped_line (λ line. line.now) c.args.store.now.suffixes c.args.store.now.rows c.loop-i.store.rows
    c.accept_line.new.store.rows c.loop-i.ends.items c.args.url.now (civil_nanos c.args.now) c.args.lines.now c.loop-i.i
    _ c.loop-i-test.true c.loop-i.invariant.all c.in-Err.ensures.err.0 c.in-Err.ensures.err.1)
