use Rattle.std.proofs.Common.{map}
use Rattle.jiff.specs.Words.{civil_nanos}
use Rattle.cookie_client.proofs.ClientRows.{however_pairs}
use Rattle.cookie_client.proofs.HostRows.{however_held}
use Rattle.cookie_client.proofs.client.Client.receive.Goals as goal

pub invariant_of-self : goal.invariant_of-self
invariant_of-self c =
    let lines = map (λ line. line.now) c.args.lines.now in
    let now = civil_nanos c.args.now in (
      however_pairs c.receive_all.result (λ ends. ends.items) (λ stopped. stopped.0) c.self.inside.store.suffixes
          c.args.url.now now lines c.self.inside.store.rows c.receive_all.new.store.rows c.self.invariant.0
          c.receive_all.ensures.all c.receive_all.ensures.stopped,
      however_held c.receive_all.result (λ ends. ends.items) (λ stopped. stopped.0) c.self.inside.store.suffixes
          c.args.url.now now lines c.self.inside.store.rows c.receive_all.new.store.rows c.self.invariant.1
          c.receive_all.ensures.all c.receive_all.ensures.stopped,
    )

pub returns-clause-held : goal.returns-clause-held
returns-clause-held c =
    however_held c.receive_all.result (λ ends. ends.items) (λ stopped. stopped.0) c.self.inside.store.suffixes
    c.args.url.now (civil_nanos c.args.now) (map (λ line. line.now) c.args.lines.now) c.self.inside.store.rows
    c.receive_all.new.store.rows c.self.invariant.1 c.receive_all.ensures.all c.receive_all.ensures.stopped
