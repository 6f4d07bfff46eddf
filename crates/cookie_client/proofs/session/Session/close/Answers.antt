use Rattle.std.proofs.Common.{subst}
use Rattle.std.specs.Prelude.{map, string_bytes}
use Rattle.cookie_text.specs.Normal.{IsReadable}
use Rattle.cookie_client.specs.Jar.{ClosesWith, IsSent, Keyed}
use Rattle.cookie_client.proofs.Sessions.{delta_each}
use Rattle.cookie_client.proofs.session.Session.close.Goals as goal

pub lines_of-requires : goal.lines_of-requires
lines_of-requires c = delta_each IsReadable c.self.inside.jar c.delta.result
    (λ q change is. (c.self.invariant q change is).readable) c.delta.ensures

pub returns-in-Ok-clause-lines : goal.returns-in-Ok-clause-lines
returns-in-Ok-clause-lines c =
    subst (λ (k : Keyed). ClosesWith k.jar (map string_bytes c.in-Ok.lines.items)) c.self.view_is (record {
      cookies = c.delta.result;
      lists = c.delta.ensures;
      are_sent = delta_each IsSent c.self.inside.jar c.delta.result c.self.invariant c.delta.ensures;
      read_back = c.in-Ok.ensures.read_back;
      printed = c.in-Ok.ensures.lines;
    })
