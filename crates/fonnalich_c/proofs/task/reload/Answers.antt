use Rattle.std.proofs.Common.{◌∙◌, ap, pos, subst, true}
use Rattle.saved_text.specs.RonReading.{ShowsOnly}
use Rattle.cookie_store.specs.SavedTexts.{Loads}
use Rattle.fonnalich_c.specs.Tasks.{IsNoReload}
use Rattle.fonnalich_c.proofs.Refusals.{not_loaded}
use Rattle.fonnalich_c.proofs.task.reload.Goals as goal

pub returns-in-Ok-clause-ok : goal.returns-in-Ok-clause-ok
returns-in-Ok-clause-ok c =
    let loaded = c.in-Ok.ensures.ok in
    let same = loaded.1 ∙ ap (λ text. text.now) c.new.ensures.inner in (
      c.new-in-Ok.ensures.items,
      (
        c.in-Ok.ensures.list,
        (
          loaded.2.0,
          subst (λ text. Loads ShowsOnly true (pos 0) text loaded.2.0) same loaded.2.1,
          loaded.2.2,
        ),
      ),
    )

pub returns-in-Err-clause-err : goal.returns-in-Err-clause-err
returns-in-Err-clause-err c =
    subst (λ text. IsNoReload text c.unloaded.result) (ap (λ text. text.now) c.new.ensures.inner)
    (not_loaded _ c.in-Err.cause c.unloaded.result _ _ _ c.unloaded.ensures c.in-Err.ensures.err)
