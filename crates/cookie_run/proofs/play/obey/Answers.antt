use Rattle.std.proofs.Common.{[], refl, inl}
use Rattle.cookie_client.proofs.Outcomes.{ok_gives}
use Rattle.cookie_run.proofs.Runs.{on_err_any}
use Rattle.cookie_run.proofs.play.obey.Goals as goal

pub returns-in-Set-clause-ok : goal.returns-in-Set-clause-ok
returns-in-Set-clause-ok g c = rw c.in-Set.is (c.set.ensures.ok)

pub returns-in-Set-clause-err : goal.returns-in-Set-clause-err
returns-in-Set-clause-err g c = rw c.in-Set.is (c.set.ensures.err)

pub returns-in-Remove-clause-ok : goal.returns-in-Remove-clause-ok
returns-in-Remove-clause-ok g c = rw c.in-Remove.is
    (ok_gives c.remove.result _ _ (λ reading tells. ([], refl, (tells, refl))) c.remove.ensures.ok)

pub returns-in-Remove-clause-err : goal.returns-in-Remove-clause-err
returns-in-Remove-clause-err g c = on_err_any c.remove.result _ ([], refl, inl refl)

pub returns-in-Get-clause-ok : goal.returns-in-Get-clause-ok
returns-in-Get-clause-ok g c = rw c.in-Get.is
    (ok_gives c.get.result _ _ (λ reading tells. ([], refl, ((tells, refl), refl))) c.get.ensures)

pub returns-in-Get-clause-err : goal.returns-in-Get-clause-err
returns-in-Get-clause-err g c = on_err_any c.get.result _ ([], refl, inl refl)
