use Rattle.std.proofs.Common.{◌≡◌, ◌++◌, length, map}
use Rattle.std.specs.Prelude.{codes}
use Rattle.response_heads.proofs.FoldLemmas.{lines_in}
use Rattle.response_heads.proofs.head.Head.set_cookie_lines.Given as goal

abbrev pub invariant-loop-left : goal.invariant-loop-left
invariant-loop-left l =
    map (λ line. line.items) l.lines.items ++ lines_in (codes "set-cookie") l.left
    ≡ lines_in (codes "set-cookie") l.fn.self.fields.items

abbrev pub decreases-loop-left : goal.decreases-loop-left
decreases-loop-left l = length l.left
