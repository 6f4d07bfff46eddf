use Rattle.std.proofs.Common.{◌∙◌, ◌-◌, ap, drop, length, map, sym, take}
use Rattle.response_heads.specs.Read.{field_text, joined, unfolded}
use Rattle.response_heads.proofs.FoldLemmas.{unfolded_more}
use Rattle.response_heads.proofs.folds.unfolded.Goals as goal

pub loop-left-preserved : goal.loop-left-preserved
loop-left-preserved c =
    let line = c.loop-left.line.items in
    let left = c.loop-left.left.now in
    ap (λ text. unfolded text (map field_text (take (length left - 1) (drop 1 left))))
    (c.in_ok-push_fold.ensures ∙ ap (joined line) c.trimmed.ensures)
    ∙ unfolded_more line left _ c.in-len1-up.len_at_least (sym c.is_fold.ensures ∙ c.if-is_fold.true)
    ∙ c.loop-left.invariant
