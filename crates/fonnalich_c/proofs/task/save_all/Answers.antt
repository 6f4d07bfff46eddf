use Rattle.std.proofs.Common.{inr, refl, subst}
use Rattle.cookie_store.specs.Rows.{Store}
use Rattle.cookie_store.specs.SavedTexts.{IsAnyBeforeYears}
use Rattle.cookie_client.proofs.Loading.{year_only}
use Rattle.fonnalich_c.proofs.task.save_all.Goals as goal

pub returns-in-Err-Year-clause-err : goal.returns-in-Err-Year-clause-err
returns-in-Err-Year-clause-err c = inr (
  refl,
  subst (λ (s : Store). IsAnyBeforeYears s.rows) c.store.ensures.store
      (year_only _ _ _ _ c.in-Err-Year.field-0-is c.in-Err-Year.ensures.err),
)
