use Rattle.std.proofs.Common.{[], refl, sym}
use Rattle.jiff.specs.Words.{civil_nanos}
use Rattle.cookie_run.proofs.Following.{if_ok, if_err}
use Rattle.cookie_run.proofs.script.visit.obey.Goals as goal

pub returns-in-Open-clause-ok : goal.returns-in-Open-clause-ok
returns-in-Open-clause-ok g c = rw c.in-Open.is
    (if_ok c.begin.result (λ text h. ([], refl, h)) c.begin.ensures.ok)

pub returns-in-Open-clause-err : goal.returns-in-Open-clause-err
returns-in-Open-clause-err g c = rw c.in-Open.is
    (if_err c.begin.result (λ cause h. ([], refl, h)) c.begin.ensures.err)

pub returns-in-Set-clause-ok : goal.returns-in-Set-clause-ok
returns-in-Set-clause-ok g c = rw c.in-Set.is
    (if_ok c.set.result (λ text h. (
      h.0,
      h.1,
      h.2 c.args.client.now.suffixes c.args.ring.now c.args.client.now.rows (civil_nanos c.args.last.now),
    )) c.set.ensures.ok)

pub returns-in-Set-clause-err : goal.returns-in-Set-clause-err
returns-in-Set-clause-err g c = rw c.in-Set.is
    (if_err c.set.result (λ cause h. (
      h.0,
      h.1,
      h.2 c.args.client.now.suffixes c.args.ring.now c.args.client.now.rows (civil_nanos c.args.last.now),
    )) c.set.ensures.err)

pub returns-in-Remove-clause-ok : goal.returns-in-Remove-clause-ok
returns-in-Remove-clause-ok g c = rw c.in-Remove.is
    (if_ok c.remove.result (λ text h. (
      [],
      refl,
      h c.args.client.now.suffixes c.args.ring.now c.args.client.now.rows (civil_nanos c.args.last.now),
    )) c.remove.ensures.ok)

pub returns-in-Remove-clause-err : goal.returns-in-Remove-clause-err
returns-in-Remove-clause-err g c = rw c.in-Remove.is
    (if_err c.remove.result (λ cause h. (
      [],
      refl,
      h c.args.client.now.suffixes c.args.ring.now c.args.client.now.rows (civil_nanos c.args.last.now),
    )) c.remove.ensures.err)

pub returns-in-Get-clause-ok : goal.returns-in-Get-clause-ok
returns-in-Get-clause-ok g c = rw c.in-Get.is
    (if_ok c.get.result (λ text h. (
      [],
      refl,
      h c.args.client.now.suffixes c.args.ring.now c.args.client.now.rows (civil_nanos c.args.last.now),
    )) c.get.ensures.ok)

pub returns-in-Get-clause-err : goal.returns-in-Get-clause-err
returns-in-Get-clause-err g c = rw c.in-Get.is
    (if_err c.get.result (λ cause h. (
      [],
      refl,
      h c.args.client.now.suffixes c.args.ring.now c.args.client.now.rows (civil_nanos c.args.last.now),
    )) c.get.ensures.err)

pub returns-in-Deliver-clause-ok : goal.returns-in-Deliver-clause-ok
returns-in-Deliver-clause-ok g c = rw c.in-Deliver.is
    (if_ok c.deliver.result (λ text h. ([], refl, h c.args.ring.now)) c.deliver.ensures.ok)

pub returns-in-Deliver-clause-err : goal.returns-in-Deliver-clause-err
returns-in-Deliver-clause-err g c = rw c.in-Deliver.is
    (if_err c.deliver.result (λ cause h. ([], refl, h c.args.ring.now)) c.deliver.ensures.err)

pub returns-in-Lose-clause-ok : goal.returns-in-Lose-clause-ok
returns-in-Lose-clause-ok g c = rw c.in-Lose.is
    (if_ok c.lose.result (λ text h. (
      [],
      refl,
      h c.args.client.now.suffixes c.args.ring.now c.args.client.now.rows (civil_nanos c.args.last.now),
    )) c.lose.ensures.ok)

pub returns-in-Lose-clause-err : goal.returns-in-Lose-clause-err
returns-in-Lose-clause-err g c = rw c.in-Lose.is
    (if_err c.lose.result (λ cause h. (
      [],
      refl,
      h c.args.client.now.suffixes c.args.ring.now c.args.client.now.rows (civil_nanos c.args.last.now),
    )) c.lose.ensures.err)

pub returns-in-Receive-clause-ok : goal.returns-in-Receive-clause-ok
returns-in-Receive-clause-ok g c = rw (c.in-Receive.is, sym c.deref.ensures.value)
    (if_ok c.receive.result (λ text h. ([], refl, h c.args.ring.now)) c.receive.ensures.ok)

pub returns-in-Receive-clause-err : goal.returns-in-Receive-clause-err
returns-in-Receive-clause-err g c = rw (c.in-Receive.is, sym c.deref.ensures.value)
    (if_err c.receive.result (λ cause h. ([], refl, h c.args.ring.now)) c.receive.ensures.err)

pub returns-in-Header-clause-ok : goal.returns-in-Header-clause-ok
returns-in-Header-clause-ok g c = rw c.in-Header.is
    (if_ok c.header.result (λ text h. ([], refl, h c.args.ring.now)) c.header.ensures.ok)

pub returns-in-Header-clause-err : goal.returns-in-Header-clause-err
returns-in-Header-clause-err g c = rw c.in-Header.is
    (if_err c.header.result (λ cause h. ([], refl, h c.args.ring.now)) c.header.ensures.err)

pub returns-in-Restart-clause-ok : goal.returns-in-Restart-clause-ok
returns-in-Restart-clause-ok g c = rw c.in-Restart.is
    (if_ok c.restart.result (λ text h. ([], refl, h c.args.ring.now)) c.restart.ensures.ok)

pub returns-in-Restart-clause-err : goal.returns-in-Restart-clause-err
returns-in-Restart-clause-err g c = rw c.in-Restart.is
    (if_err c.restart.result (λ cause h. ([], refl, h c.args.ring.now)) c.restart.ensures.err)

pub returns-in-SetUntil-clause-ok : goal.returns-in-SetUntil-clause-ok
returns-in-SetUntil-clause-ok g c = rw c.in-SetUntil.is
    (if_ok c.set_until.result (λ text h. (
      h.0,
      h.1,
      h.2 c.args.client.now.suffixes c.args.ring.now c.args.client.now.rows (civil_nanos c.args.last.now),
    )) c.set_until.ensures.ok)

pub returns-in-SetUntil-clause-err : goal.returns-in-SetUntil-clause-err
returns-in-SetUntil-clause-err g c = rw c.in-SetUntil.is
    (if_err c.set_until.result (λ cause h. (
      h.0,
      h.1,
      h.2 c.args.client.now.suffixes c.args.ring.now c.args.client.now.rows (civil_nanos c.args.last.now),
    )) c.set_until.ensures.err)

pub returns-in-GetUntil-clause-ok : goal.returns-in-GetUntil-clause-ok
returns-in-GetUntil-clause-ok g c = rw c.in-GetUntil.is
    (if_ok c.get_until.result (λ text h. (
      [],
      refl,
      h c.args.client.now.suffixes c.args.ring.now c.args.client.now.rows (civil_nanos c.args.last.now),
    )) c.get_until.ensures.ok)

pub returns-in-GetUntil-clause-err : goal.returns-in-GetUntil-clause-err
returns-in-GetUntil-clause-err g c = rw c.in-GetUntil.is
    (if_err c.get_until.result (λ cause h. (
      [],
      refl,
      h c.args.client.now.suffixes c.args.ring.now c.args.client.now.rows (civil_nanos c.args.last.now),
    )) c.get_until.ensures.err)

pub returns-in-Rotate-clause-ok : goal.returns-in-Rotate-clause-ok
returns-in-Rotate-clause-ok g c = rw c.in-Rotate.is
    (if_ok c.rotate.result (λ text h. ([], refl, h c.args.client.now.suffixes c.args.client.now.rows))
    c.rotate.ensures.ok)

pub returns-in-Rotate-clause-err : goal.returns-in-Rotate-clause-err
returns-in-Rotate-clause-err g c = rw c.in-Rotate.is
    (if_err c.rotate.result (λ cause h. ([], refl, h c.args.client.now.suffixes c.args.client.now.rows))
    c.rotate.ensures.err)
