use Rattle.std.proofs.Common.{◌∙◌, sym, subst}
use Rattle.cookie_store.specs.Rows.{Store}
use Rattle.cookie_jar.specs.Keeping.{AreKept, IsKept}
use Rattle.cookie_jar.proofs.KeepLemmas.{held_of, pairs_of}
use Rattle.cookie_jar.proofs.RowLemmas.{picked_all}
use Rattle.cookie_jar.proofs.jar.Jar.load.Goals as goal

pub of-requires-clause-pairs : goal.of-requires-clause-pairs
of-requires-clause-pairs c =
    pairs_of c.with_suffix_list.result.rows (subst (λ (s : Store). AreKept s.rows) (sym c.with_suffix_list.ensures)
    (picked_all IsKept c.in-Ok.store.rows c.in-Ok-only_kept.store.rows c.in-Ok-only_kept.ensures))

pub of-requires-clause-held : goal.of-requires-clause-held
of-requires-clause-held c =
    held_of c.with_suffix_list.result.rows (subst (λ (s : Store). AreKept s.rows) (sym c.with_suffix_list.ensures)
    (picked_all IsKept c.in-Ok.store.rows c.in-Ok-only_kept.store.rows c.in-Ok-only_kept.ensures))

pub invariant_of-result : goal.invariant_of-result
invariant_of-result c =
    subst (λ (s : Store). AreKept s.rows) (sym (c.of.ensures ∙ c.with_suffix_list.ensures))
    (picked_all IsKept c.in-Ok.store.rows c.in-Ok-only_kept.store.rows c.in-Ok-only_kept.ensures)

pub returns-in-Ok-only_kept-clause-kept : goal.returns-in-Ok-only_kept-clause-kept
returns-in-Ok-only_kept-clause-kept c =
    subst (λ (s : Store). AreKept s.rows) (sym (c.of.ensures ∙ c.with_suffix_list.ensures))
    (picked_all IsKept c.in-Ok.store.rows c.in-Ok-only_kept.store.rows c.in-Ok-only_kept.ensures)
