use Rattle.std.proofs.Common.{map}
use Rattle.jiff.specs.Words.{civil_nanos}
use Rattle.cookie_jar.proofs.TakeLemmas.{received_kept}
use Rattle.cookie_jar.proofs.jar.Jar.receive.Goals as goal

pub invariant_of-self : goal.invariant_of-self
invariant_of-self c =
    received_kept c.host_rows_are_held_rightly.ensures.answers c.no_control_comes.ensures.stay
    c.no_control_comes.ensures.read c.args.form c.args.rules.now c.self.inside.client.suffixes c.args.url.now
    c.path-path.ensures.valid (civil_nanos c.args.now) c.args.initiator.now c.take_all.result (λ ends. ends.items)
    (λ stopped. stopped.0) (map (λ line. line.now) c.args.lines.now) c.self.inside.client.rows
    c.take_all.new.client.rows c.self.invariant c.take_all.ensures.all c.take_all.ensures.stopped

pub returns-clause-kept : goal.returns-clause-kept
returns-clause-kept c =
    received_kept c.host_rows_are_held_rightly.ensures.answers c.no_control_comes.ensures.stay
    c.no_control_comes.ensures.read c.args.form c.args.rules.now c.self.inside.client.suffixes c.args.url.now
    c.path-path.ensures.valid (civil_nanos c.args.now) c.args.initiator.now c.take_all.result (λ ends. ends.items)
    (λ stopped. stopped.0) (map (λ line. line.now) c.args.lines.now) c.self.inside.client.rows
    c.take_all.new.client.rows c.self.invariant c.take_all.ensures.all c.take_all.ensures.stopped
