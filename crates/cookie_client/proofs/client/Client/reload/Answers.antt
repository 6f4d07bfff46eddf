use Rattle.std.proofs.Common.{sym, subst, pos}
use Rattle.cookie_store.specs.Rows.{Store}
use Rattle.cookie_client.specs.HostPrefix.{IsHeldRightly, AreHeldRightly}
use Rattle.cookie_client.specs.Keeping.{HasReadPair, HaveReadPairs}
use Rattle.cookie_client.proofs.ClientRows.{all_loaded_pairs}
use Rattle.cookie_client.proofs.HostRows.{picked_all, picked_keeps}
use Rattle.cookie_client.proofs.client.Client.reload.Goals as goal

pub invariant_of-self : goal.invariant_of-self
invariant_of-self g c =
    let (text, left, (all, shows, has)) = c.in_ok-store.ensures.ok in
    let rows = c.in_ok-store.store.rows in
    let picked = c.in-Ok.ensures in
    subst (λ (s : Store). HaveReadPairs s.rows × AreHeldRightly s.rows) (sym c.replace_rows.ensures) (
      picked_keeps IsHeldRightly HasReadPair rows c.in-Ok.store.rows picked
          (all_loaded_pairs (pos 0) all c.in_ok-store.store has),
      picked_all IsHeldRightly rows c.in-Ok.store.rows picked,
    )

pub returns-in-Ok-clause-held : goal.returns-in-Ok-clause-held
returns-in-Ok-clause-held g c =
    subst (λ (s : Store). AreHeldRightly s.rows) (sym c.replace_rows.ensures)
    (picked_all IsHeldRightly c.in_ok-store.store.rows c.in-Ok.store.rows c.in-Ok.ensures)
