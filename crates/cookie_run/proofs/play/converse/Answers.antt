use Rattle.std.proofs.Common.{subst, sym, refl, inl, inr}
use Rattle.jiff.specs.Words.{civil_nanos}
use Rattle.std.proofs.lemmas.Result.{IfErr-weaker}
use Rattle.cookie_run.specs.Moments.{IsWrong}
use Rattle.cookie_run.proofs.DrawnRuns.{draws_all, draws_whole}
use Rattle.cookie_client.proofs.Outcomes.{err_gives}
use Rattle.cookie_run.proofs.Runs.{on_ok}
use Rattle.cookie_run.proofs.play.converse.Goals as goal

pub returns-in_err-obey_all-clause-err : goal.returns-in_err-obey_all-clause-err
returns-in_err-obey_all-clause-err g c =
    err_gives c.from_residual.result _ _ c.from_residual.ensures (λ kind e. (
      c.in_err-obey_all.ensures.err.0,
      c.in_err-obey_all.ensures.err.1,
      inl (e, c.in_err-obey_all.ensures.err.2),
    ))

pub returns-in-Lost-clause-rows : goal.returns-in-Lost-clause-rows
returns-in-Lost-clause-rows g c =
    let d = c.in_ok-obey_all.ensures.ok in
    rw c.in-Lost.is (d.0, d.1, (d.2.0, d.2.1, d.2.2, refl))

pub returns-in_err-come_to-in-At-clause-err : goal.returns-in_err-come_to-in-At-clause-err
returns-in_err-come_to-in-At-clause-err g c =
    err_gives c.from_residual-in_err-come_to-in-At.result _ _ c.from_residual-in_err-come_to-in-At.ensures
    (λ kind e.
    let d = c.in_ok-obey_all.ensures.ok in
    rw c.in-At.is (
      d.0,
      d.1,
      inr (
        subst (λ k. IsWrong k (civil_nanos c.args.last.now) (civil_nanos c.in-At.moment))
            (sym e) c.in_err-come_to-in-At.ensures.err.0,
        draws_all d.0 _ _ _ _ _ _ d.2,
      ),
    ))

pub returns-in_ok-come_to-in-At-clause-rows : goal.returns-in_ok-come_to-in-At-clause-rows
returns-in_ok-come_to-in-At-clause-rows g c =
    let told = c.in_ok-obey_all.ensures.ok in
    rw c.in-At.is (on_ok c.deliver.result _ _ (λ d. (told.0, told.1, (told.2.0, told.2.1, told.2.2, d)))
    c.deliver.ensures.rows)

pub returns-in_ok-come_to-in-At-clause-err : goal.returns-in_ok-come_to-in-At-clause-err
returns-in_ok-come_to-in-At-clause-err g c =
    let d = c.in_ok-obey_all.ensures.ok in
    IfErr-weaker c.deliver.result _ _ (λ kind e. (d.0, d.1, inl (e, draws_whole d.0 _ _ _ _ _ _ d.2)))
    c.deliver.ensures.err
