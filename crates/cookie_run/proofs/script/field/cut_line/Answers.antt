use Rattle.std.proofs.Common.{sym}
use Rattle.text_lines.proofs.LineLemmas.{cut_some}
use Rattle.cookie_run.proofs.ScriptLines.{cut_none}
use Rattle.cookie_run.proofs.script.field.cut_line.Goals as goal

pub returns-in-Some-clause-line : goal.returns-in-Some-clause-line
returns-in-Some-clause-line c =
    (cut_some c.args.text.now c.without_return.result.now c.in-Some.i (sym c.in-Some.ensures)
    c.without_return.ensures).0

pub returns-in-None-clause-line : goal.returns-in-None-clause-line
returns-in-None-clause-line c = cut_none c.args.text.now (sym c.in-None.ensures) c.requires
