use Rattle.std.proofs.Common.{sym}
use Rattle.std.specs.Prelude.{string_bytes}
use Rattle.cookie_run.proofs.Standings.{loses}
use Rattle.cookie_run.proofs.script.visit.lose.Goals as goal

pub returns-clause-ok : goal.returns-clause-ok
returns-clause-ok c = λ list ring rows last first start r output drawn s.
    loses drawn list first start ring rows r last c.args.visit.now
    output (string_bytes c.new.result) s (sym c.if-is_none.ensures) c.new.ensures.bytes
