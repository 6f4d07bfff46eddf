use Rattle.std.proofs.Common.{◌∙◌, ap, subst, sym}
use Rattle.std.specs.FinMap as finmap
use Rattle.cookie.specs.ByName.{Lists, by_bytes}
use Rattle.cookie.proofs.JarLemmas.{with_all, written_whole}
use Rattle.cookie.proofs.jar.copied_changes.Goals as goal

pub loop-name-init : goal.loop-name-init
loop-name-init c =
    ap (λ m. with_all m (by_bytes c.into_iter-name-iterator.result)) c.new-copies.ensures
    ∙ written_whole c.args.changes.now (by_bytes c.into_iter-name-iterator.result)
    (subst (λ es. Lists (by_bytes es) (finmap.get c.args.changes.now))
    (sym c.into_iter-name-iterator.ensures.into_iter_gives) c.iter-name-items.ensures)
