use Rattle.std.proofs.Common.{◌∙◌, ◌++◌, ap, arith, map, sym}
use Rattle.std.specs.Prelude.{codes}
use Rattle.std.proofs.lemmas.List.{append-nil}
use Rattle.response_heads.specs.Read.{set_cookie_lines}
use Rattle.response_heads.proofs.FoldLemmas.{lines_none}
use Rattle.response_heads.proofs.head.Head.set_cookie_lines.Goals as goal

pub returns : goal.returns
unfolding set_cookie_lines
returns c =
    let lines = map (λ line. line.items) c.loop-left.lines.items in
    sym (ap (λ rest. lines ++ rest)
    (lines_none (codes "set-cookie") c.loop-left.left.now (omega (arith, c.in_default.len_below))) ∙ append-nil lines)
    ∙ c.loop-left.invariant
