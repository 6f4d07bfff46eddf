use Rattle.std.proofs.Common.{◌≡◌, refl, subst, FitsSigned, w64}
use Rattle.std.proofs.lemmas.Int.{to_z-of_z}
use Rattle.jiff.specs.Words.{civil_nanos}
use Rattle.cookie_store.specs.Placing.{saved}
use Rattle.cookie_store.specs.SavedTexts.{IsAnyBeforeYears}
use Rattle.fonnalich_c.specs.Given.{nanos_of}
use Rattle.fonnalich_c.proofs.Faults.{is_moment, year_unsaved}
use Rattle.cookie_client.proofs.Loading.{year_only}
use Rattle.fonnalich_c.proofs.task.save.Goals as goal

pub returns-in-Err-Year-clause-err : goal.returns-in-Err-Year-clause-err
returns-in-Err-Year-clause-err c =
    let fits : FitsSigned w64 c.args.second = c.ranges.second in
    let moment : civil_nanos c.in_ok-now.now ≡ nanos_of c.args.second = simp to_z-of_z at c.in_ok-now.ensures.ok in
    year_unsaved c.args.second c.args.client.now.rows _ (is_moment c.in_ok-now.now c.args.second moment) (
      refl,
      subst (λ now. IsAnyBeforeYears (saved now c.args.client.now.rows)) moment
          (year_only _ _ _ _ c.in-Err-Year.field-0-is c.in-Err-Year.ensures.err),
    )
