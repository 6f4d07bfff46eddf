use Rattle.std.proofs.Common.{◌≡◌, ◌⊎◌, Some, None, ap, false, refl, subst}
use Rattle.std.specs.Prelude.{string_bytes, is_none}
use Rattle.cookie_client.specs.Jar.{IsRemovalRefusal, TakesOut}
use Rattle.cookie_client.specs.RingSession.{keyed}
use Rattle.cookie_run.specs.declared.script.visit.Visit.{Visit}
use Rattle.cookie_client.specs.declared.outcome.SessionError.TheVariants.{OutOfMemory}
use Rattle.cookie_run.proofs.Halting.{remove_halts}
use Rattle.cookie_run.proofs.Standings.{removes}
use Rattle.cookie_run.proofs.script.visit.remove.Goals as goal

pub returns-in-Ok-clause-ok : goal.returns-in-Ok-clause-ok
returns-in-Ok-clause-ok c =
    let old_visit = c.in-Some.field-0 in
    let new_visit : Visit = record { url = old_visit.url; at = old_visit.at; session = c.remove-end.new.self } in
    λ list ring rows last first start r output drawn s.
    removes drawn list first start ring rows r last c.args.visit.now old_visit new_visit output (string_bytes
    c.new.result)
    c.args.way c.args.name.now s (cc) refl refl c.remove-end.ensures.ring
    (subst (λ name. TakesOut (keyed old_visit.session) c.args.way name old_visit.at.date (keyed c.remove-end.new.self))
    c.as_str.ensures.value c.in-Ok.ensures.ok) c.new.ensures.bytes

pub returns-in-Err-clause-err : goal.returns-in-Err-clause-err
returns-in-Err-clause-err c =
    let old_visit = c.in-Some.field-0 in
    let opened : c.args.visit.now ≡ Some old_visit = cc in
    let some : is_none c.args.visit.now ≡ false = ap is_none opened in
    let error = c.in-Err.error in
    λ list ring rows last. remove_halts list ring error c.refused.result rows last c.args.visit.now c.args.way
    c.args.name.now old_visit.at.date some old_visit.at.from
    (subst (λ name. IsRemovalRefusal name old_visit.at.date (Some error)
    ⊎ ((error ≡ OutOfMemory) × IsRemovalRefusal name old_visit.at.date None)) c.as_str.ensures.value
    c.in-Err.ensures.err) c.refused.ensures
