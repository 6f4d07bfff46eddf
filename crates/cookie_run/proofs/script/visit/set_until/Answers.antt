use Rattle.std.proofs.Common.{◌≡◌, ◌⊎◌, Some, None, Result, Err, [], ap, false, inl, inr, refl}
use Rattle.std.specs.Prelude.{IsErrOf, string_bytes, is_none}
use Rattle.cookie_run.specs.RingPlay.{SetUntil}
use Rattle.cookie_client.specs.declared.ending.EndingWay.{EndingWay}
use Rattle.cookie_client.specs.declared.ending.EndingWay.TheVariants.{Signed}
use Rattle.cookie_run.specs.declared.script.visit.Visit.{Visit}
use Rattle.cookie_client.specs.declared.outcome.SessionError.{SessionError}
use Rattle.cookie_client.specs.declared.outcome.SessionError.TheVariants.{EmptyName, Year, TooLong}
use Rattle.cookie_run.proofs.Halting.{closed_command, until_halts}
use Rattle.cookie_run.proofs.RingDrawnRuns.{until_drawn}
use Rattle.cookie_run.proofs.Standings.{sets_until}
use Rattle.cookie_run.proofs.script.visit.set_until.Goals as goal

-- the same of the result
as_result : {A : Type 0} (way : EndingWay) (error : SessionError)
    → ((way ≡ Signed) ⊎ (error ≡ EmptyName)) ⊎ ((error ≡ Year) ⊎ (error ≡ TooLong))
    → (let r : Result A SessionError = Err error in ((way ≡ Signed) ⊎ IsErrOf r EmptyName)
    ⊎ (IsErrOf r Year ⊎ IsErrOf r TooLong))
as_result way error (inl (inl signed)) = inl (inl signed)
as_result way error (inl (inr e)) = inl (inr (ap Err e))
as_result way error (inr (inl e)) = inr (inl (ap Err e))
as_result way error (inr (inr e)) = inr (inr (ap Err e))

pub returns-in-Ok-clause-ok : goal.returns-in-Ok-clause-ok
returns-in-Ok-clause-ok g c =
    let old_visit = c.in-Some.field-0 in
    let new_visit : Visit = record { url = old_visit.url; at = old_visit.at; session = c.set_until-end.new.self } in
    let d = until_drawn g.G.TryRng.may_fill g.row.G-Error.Denot c.args.rng.now c.set_until-end.new.rng
    old_visit.session c.args.way c.args.cookie c.args.until c.set_until-end.new.self c.in-Ok.ensures.ok
    (λ signed. c.set_until-end.ensures.unasked (inl (inl signed))) in (
      d.0,
      d.1,
      λ list ring rows last first start r output drawn s.
          sets_until drawn d.0 list first start ring rows r last c.args.visit.now old_visit new_visit output
          (string_bytes c.new.result) c.args.way c.args.cookie c.args.until s (cc) refl refl d.2 c.new.ensures.bytes,
    )

pub returns-in-Err-clause-err : goal.returns-in-Err-clause-err
returns-in-Err-clause-err g c =
    let opened : c.args.visit.now ≡ Some c.in-Some.field-0 = cc in
    let some : is_none c.args.visit.now ≡ false = ap is_none opened in
    let error = c.in-Err.error in
    until_halts g.G.TryRng.may_fill g.row.G-Error.Denot c.args.rng.now c.set_until-end.new.rng c.args.visit.now
    c.args.way c.args.cookie c.args.until error c.refused.result some c.in-Err.ensures.err
    (λ e. c.in-Err.ensures.failed (ap Err e)) (λ why. c.in-Err.ensures.unasked (as_result c.args.way error why))
    (λ e. c.in-Err.ensures.asked (ap Err e)) c.refused.ensures

pub returns-in_default-clause-err : goal.returns-in_default-clause-err
returns-in_default-clause-err g c =
    let none : c.args.visit.now ≡ None = cc in (
      [],
      refl,
      λ list ring rows last first start r output drawn s.
          closed_command drawn list first start ring rows r last c.args.visit.now output
          (SetUntil c.args.way c.args.cookie c.args.until) s none,
    )
