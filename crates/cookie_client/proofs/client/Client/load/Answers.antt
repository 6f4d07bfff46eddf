use Rattle.std.proofs.Common.{sym, subst}
use Rattle.jiff.specs.Words.{civil_nanos}
use Rattle.cookie_store.specs.Rows.{Store}
use Rattle.cookie_client.specs.HostPrefix.{IsHeldRightly, AreHeldRightly}
use Rattle.cookie_client.specs.Keeping.{HasReadPair, HaveReadPairs}
use Rattle.cookie_client.proofs.ClientRows.{loaded_pairs}
use Rattle.cookie_client.proofs.HostRows.{picked_all, picked_keeps}
use Rattle.cookie_client.proofs.client.Client.load.Goals as goal

pub invariant_of-result : goal.invariant_of-result
invariant_of-result g c =
    let (text, left, (all, shows, has)) = c.in-Ok.ensures.ok in
    let rows = c.in-Ok.store.rows in
    let picked = c.in-Ok-only_held.ensures in
    subst (λ (s : Store). HaveReadPairs s.rows × AreHeldRightly s.rows) (sym c.with_suffix_list.ensures) (
      picked_keeps IsHeldRightly HasReadPair rows c.in-Ok-only_held.store.rows picked
          (loaded_pairs (civil_nanos c.args.now) all c.in-Ok.store has),
      picked_all IsHeldRightly rows c.in-Ok-only_held.store.rows picked,
    )

pub returns-in-Ok-only_held-clause-held : goal.returns-in-Ok-only_held-clause-held
returns-in-Ok-only_held-clause-held g c =
    subst (λ (s : Store). AreHeldRightly s.rows) (sym c.with_suffix_list.ensures)
    (picked_all IsHeldRightly c.in-Ok.store.rows c.in-Ok-only_held.store.rows c.in-Ok-only_held.ensures)
