use Rattle.std.proofs.Common.{◌∙◌, sym}
use Rattle.response_heads.proofs.StatusLemmas.{words_cut, words_one}
use Rattle.response_heads.proofs.status.cut.Goals as goal

pub returns-in_err-at : goal.returns-in_err-at
returns-in_err-at c =
    let text = c.args.text.now in
    rw c.from_residual.ensures (words_one text (sym c.space_in.ensures ∙ c.in_err-at.was))

pub returns : goal.returns
returns c = words_cut c.args.text.now c.in_ok-at.at (sym c.space_in.ensures ∙ c.in_ok-at.was)
