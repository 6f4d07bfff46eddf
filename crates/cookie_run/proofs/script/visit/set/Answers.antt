use Rattle.std.proofs.Common.{◌≡◌, Some, None, Err, [], ap, false, refl}
use Rattle.std.specs.Prelude.{string_bytes, is_none}
use Rattle.cookie_run.specs.declared.script.visit.Visit.{Visit}
use Rattle.cookie_run.specs.RingPlay.{Set}
use Rattle.cookie_run.proofs.RingDrawnRuns.{ring_set_drawn}
use Rattle.cookie_run.proofs.Halting.{closed_command, set_halts}
use Rattle.cookie_run.proofs.Standings.{sets}
use Rattle.cookie_run.proofs.script.visit.set.Goals as goal

pub returns-in-Ok-clause-ok : goal.returns-in-Ok-clause-ok
returns-in-Ok-clause-ok g c =
    let old_visit = c.in-Some.field-0 in
    let new_visit : Visit = record { url = old_visit.url; at = old_visit.at; session = c.set-end.new.self } in
    let d = ring_set_drawn g.G.TryRng.may_fill g.row.G-Error.Denot c.args.rng.now c.set-end.new.rng old_visit.session
    c.args.way c.args.cookie c.set-end.new.self c.in-Ok.ensures.ok c.set-end.ensures.ring c.set-end.ensures.unasked in (
      d.0,
      d.1,
      λ list ring rows last first start r output drawn s.
          sets drawn d.0 list first start ring rows r last c.args.visit.now old_visit new_visit output
          (string_bytes c.new.result) c.args.way c.args.cookie s (cc) refl refl d.2 c.new.ensures.bytes,
    )

pub returns-in-Err-clause-err : goal.returns-in-Err-clause-err
returns-in-Err-clause-err g c =
    let opened : c.args.visit.now ≡ Some c.in-Some.field-0 = cc in
    let some : is_none c.args.visit.now ≡ false = ap is_none opened in
    let error = c.in-Err.error in
    set_halts g.G.TryRng.may_fill g.row.G-Error.Denot c.args.rng.now c.set-end.new.rng c.args.visit.now c.args.way
    c.args.cookie error c.refused.result some c.in-Err.ensures.err (λ e. c.in-Err.ensures.failed (ap Err e))
    c.set-end.ensures.unasked (λ sealed memory. c.in-Err.ensures.asked (sealed, ap Err memory)) c.refused.ensures

pub returns-in_default-clause-err : goal.returns-in_default-clause-err
returns-in_default-clause-err g c =
    let none : c.args.visit.now ≡ None = cc in (
      [],
      refl,
      λ list ring rows last first start r output drawn s.
          closed_command drawn list first start ring rows r last c.args.visit.now output (Set c.args.way c.args.cookie)
          s none,
    )
