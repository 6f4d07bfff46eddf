use Rattle.std.proofs.Common.{subst, sym}
use Rattle.cookie_store.specs.Rows.{Store}
use Rattle.cookie_client.specs.HostPrefix.{IsHeldRightly, AreHeldRightly}
use Rattle.cookie_client.specs.Keeping.{HasReadPair, HaveReadPairs}
use Rattle.cookie_client.proofs.ComingBack.{filter_all}
use Rattle.cookie_client.proofs.client.Client.remove.Goals as goal

pub invariant_of-self : goal.invariant_of-self
invariant_of-self c =
    let rows = c.self.inside.store.rows in
    subst (λ (s : Store). HaveReadPairs s.rows × AreHeldRightly s.rows) (sym c.remove.ensures.rest)
    (filter_all HasReadPair _ rows c.self.invariant.0, filter_all IsHeldRightly _ rows c.self.invariant.1)

pub returns-clause-held : goal.returns-clause-held
returns-clause-held c =
    subst (λ (s : Store). AreHeldRightly s.rows) (sym c.remove.ensures.rest)
    (filter_all IsHeldRightly _ c.self.inside.store.rows c.self.invariant.1)
