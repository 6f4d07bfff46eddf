use Rattle.std.proofs.Common.{◌∙◌, sym}
use Rattle.text_lines.proofs.LineLemmas.{cut_some}
use Rattle.text_lines.proofs.cut.first_line.Goals as goal

pub returns-in-Some : goal.returns-in-Some
returns-in-Some c = cut_some c.args.text.now c.without_return.result.now c.in-Some.end
    (sym c.line_end.ensures ∙ c.in-Some.is) c.without_return.ensures
