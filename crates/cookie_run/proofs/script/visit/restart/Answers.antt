use Rattle.std.proofs.Common.{◌≢◌, rules, sym, refl}
use Rattle.std.specs.Prelude.{string_bytes}
use Rattle.jiff.specs.Words.{civil_nanos}
use Rattle.store_parts.specs.declared.error.Error.TheVariants.{OutOfMemory}
use Rattle.cookie_run.proofs.FromLines.{only_memory}
use Rattle.cookie_run.proofs.Standings.{restarts}
use Rattle.cookie_run.specs.ScriptLine as spec
use Rattle.cookie_run.proofs.Halting.{open_already, open_restart}
use Rattle.cookie_run.proofs.script.visit.restart.Goals as goal

pub returns-in-Ok-clause-ok : goal.returns-in-Ok-clause-ok
returns-in-Ok-clause-ok c =
    let at = civil_nanos c.args.at.date in
    λ ring first start r output drawn s.
    restarts drawn c.args.client.now.suffixes first start ring c.args.client.now.rows c.restart.new.self.rows r
    (civil_nanos c.args.last.now) c.args.visit.now output (string_bytes c.new.result) at at s
    (sym c.if-is_some.ensures) c.in-Ok.ensures.ok c.new.ensures.bytes refl

pub returns-in-Err-clause-err : goal.returns-in-Err-clause-err
returns-in-Err-clause-err c =
    let other : c.in-Err.field-0 ≢ OutOfMemory = search rules in
    absurd (other (only_memory (civil_nanos c.args.at.date) c.args.client.now.rows c.in-Err.field-0 c.args.at.from
    c.in-Err.ensures.err))

pub returns-then-is_some-clause-err : goal.returns-then-is_some-clause-err
returns-then-is_some-clause-err c = λ ring first start r output drawn s.
    open_already drawn c.args.client.now.suffixes first start ring c.args.client.now.rows r (civil_nanos
    c.args.last.now)
    c.args.visit.now output (spec.Restarts (civil_nanos c.args.at.date)) s (c.if-is_some.ensures)
    (open_restart r (civil_nanos c.args.at.date))
