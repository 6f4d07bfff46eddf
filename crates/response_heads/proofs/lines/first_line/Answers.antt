use Rattle.std.proofs.Common.{◌∙◌, sym}
use Rattle.response_heads.proofs.TextLemmas.{cut_some, cut_none}
use Rattle.response_heads.proofs.lines.first_line.Goals as goal

pub returns-in_err-end : goal.returns-in_err-end
returns-in_err-end c =
    rw c.from_residual.ensures (cut_none c.args.text.now (sym c.line_end.ensures ∙ c.in_err-end.was))

pub returns : goal.returns
returns c = cut_some c.args.text.now c.without_return.result.now c.in_ok-end.end
    (sym c.line_end.ensures ∙ c.in_ok-end.was) c.without_return.ensures
