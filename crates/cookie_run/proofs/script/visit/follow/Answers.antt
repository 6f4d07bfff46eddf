use Rattle.std.proofs.Common.{[], refl, sym}
use Rattle.std.specs.Prelude.{string_bytes}
use Rattle.jiff.specs.Words.{civil_nanos}
use Rattle.cookie_run.proofs.Following.{passes_over, misreads, comes_back, goes_on, halts_there, if_ok, if_err}
use Rattle.cookie_run.proofs.Following.{no_bytes, some_bytes}
use Rattle.cookie_run.proofs.script.visit.follow.Goals as goal

pub returns-then-is_empty-clause-ok : goal.returns-then-is_empty-clause-ok
returns-then-is_empty-clause-ok g c = (
  [],
  refl,
  passes_over c.args.client.now.suffixes c.args.line.now c.args.ring.now c.args.client.now.rows
      (civil_nanos c.args.last.now) c.args.visit.now (string_bytes c.new.result)
      (no_bytes c.args.line.now c.if-is_empty.ensures) c.new.ensures.bytes,
)

pub returns-in-Err-clause-err : goal.returns-in-Err-clause-err
returns-in-Err-clause-err g c = (
  [],
  refl,
  misreads c.args.client.now.suffixes c.args.line.now c.args.ring.now c.args.client.now.rows
      (civil_nanos c.args.last.now) c.args.visit.now c.in-Err.cause
      (some_bytes c.args.line.now c.if-is_empty.ensures) c.in-Err.ensures,
)

pub returns-then-goes_back-clause-err : goal.returns-then-goes_back-clause-err
returns-then-goes_back-clause-err g c = (
  [],
  refl,
  comes_back c.args.client.now.suffixes c.args.line.now c.args.ring.now c.args.client.now.rows
      (civil_nanos c.args.last.now) c.args.visit.now c.in-Ok.asked
      (some_bytes c.args.line.now c.if-is_empty.ensures) c.in-Ok.ensures (sym c.if-goes_back.ensures),
)

pub returns-clause-ok : goal.returns-clause-ok
returns-clause-ok g c = if_ok c.obey.result (λ text h. (
  h.0,
  h.1,
  goes_on h.0 c.args.client.now.suffixes c.args.line.now c.args.ring.now c.obey.new.ring c.args.client.now.rows
      c.obey.new.client.rows (civil_nanos c.args.last.now) (civil_nanos c.obey.new.last) c.args.visit.now
      c.obey.new.visit c.in-Ok.asked (string_bytes text) (some_bytes c.args.line.now c.if-is_empty.ensures)
      c.in-Ok.ensures (sym c.if-goes_back.ensures) h.2,
)) c.obey.ensures.ok

pub returns-clause-err : goal.returns-clause-err
returns-clause-err g c = if_err c.obey.result (λ cause h. (
  h.0,
  h.1,
  halts_there h.0 c.args.client.now.suffixes c.args.line.now c.args.ring.now c.args.client.now.rows
      c.obey.new.client.rows (civil_nanos c.args.last.now) c.args.visit.now c.in-Ok.asked cause
      (some_bytes c.args.line.now c.if-is_empty.ensures) c.in-Ok.ensures (sym c.if-goes_back.ensures) h.2,
)) c.obey.ensures.err
