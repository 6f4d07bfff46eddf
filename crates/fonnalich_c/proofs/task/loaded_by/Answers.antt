use Rattle.std.proofs.Common.{◌≡◌, ◌∙◌, ap, false, subst, sym, FitsSigned, w64}
use Rattle.std.proofs.lemmas.Int.{to_z-of_z}
use Rattle.jiff.specs.Words.{civil_nanos}
use Rattle.saved_text.specs.RonReading.{ShowsOnly}
use Rattle.cookie_store.specs.SavedTexts.{Loads}
use Rattle.fonnalich_c.specs.Given.{IsNoMoment, nanos_of}
use Rattle.fonnalich_c.specs.Tasks.{IsNoLoadBy}
use Rattle.fonnalich_c.specs.declared.refusal.Refusal.TheVariants.{Moment}
use Rattle.fonnalich_c.proofs.Exchanges.{err_gives}
use Rattle.fonnalich_c.proofs.Faults.{is_moment, moment_unloaded, saved_unloaded}
use Rattle.fonnalich_c.proofs.Refusals.{not_loaded}
use Rattle.fonnalich_c.proofs.task.loaded_by.Goals as goal

pub returns-in-Ok-clause-ok : goal.returns-in-Ok-clause-ok
returns-in-Ok-clause-ok c =
    let fits : FitsSigned w64 c.args.second = c.ranges.second in
    let moment : civil_nanos c.in_ok-now.now ≡ nanos_of c.args.second = simp to_z-of_z at c.in_ok-now.ensures.ok in
    let loaded = c.in-Ok.ensures.ok in
    let same = loaded.1 ∙ ap (λ text. text.now) c.new.ensures.inner in (
      c.in-Ok.ensures.suffixes,
      (
        loaded.2.0,
        subst (λ now. Loads ShowsOnly false now c.args.saved.now loaded.2.0) moment
            (subst (λ text. Loads ShowsOnly false (civil_nanos c.in_ok-now.now) text loaded.2.0) same loaded.2.1),
        loaded.2.2,
      ),
    )

pub returns-clause-err : goal.returns-clause-err
returns-clause-err c =
    let fits : FitsSigned w64 c.args.second = c.ranges.second in
    let moment : civil_nanos c.in_ok-now.now ≡ nanos_of c.args.second = simp to_z-of_z at c.in_ok-now.ensures.ok in
    subst (λ text. IsNoLoadBy c.args.second text c.unloaded.result)
    (ap (λ text. text.now) c.new.ensures.inner)
    (saved_unloaded c.args.second _ c.unloaded.result
    (is_moment c.in_ok-now.now c.args.second moment)
    (not_loaded _ c.in-Err.cause c.unloaded.result _ _ _ c.unloaded.ensures c.in-Err.ensures.err))

pub returns-in_err-now-clause-err : goal.returns-in_err-now-clause-err
returns-in_err-now-clause-err c =
    let fits : FitsSigned w64 c.args.second = c.ranges.second in
    let none : (c.in_err-now.field-0.0 ≡ Moment) × IsNoMoment c.args.second =
    simp to_z-of_z at c.in_err-now.ensures.err in
    err_gives c.from_residual.result _ _ c.from_residual.ensures (λ refused is.
    subst (IsNoLoadBy c.args.second c.args.saved.now) (sym is)
    (moment_unloaded c.args.second c.args.saved.now c.in_err-now.field-0.0 none))
