use Rattle.std.proofs.Common.{◌∙◌, sym}
use Rattle.text_lines.proofs.LineLemmas.{only_cut}
use Rattle.text_lines.proofs.cut.only_line.Goals as goal

pub returns : goal.returns
returns c = only_cut c.args.text.now c.split_at.result.0.now c.split_at.result.1.now c.requires
    (sym c.is_empty.ensures ∙ c.if-is_empty.false) c.split_at.ensures.by_index.0 c.split_at.ensures.back_len
