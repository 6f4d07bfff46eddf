use Rattle.std.proofs.Common.{◌+◌, ◌<◌, ◌≤◌, length, ◌++◌, ◌∙◌, sym, ap, subst, arith, take, drop, max}
use Rattle.std.proofs.lemmas.Grind.{common_steps}
use Rattle.std.proofs.lemmas.List.{length-set}
use Rattle.std.specs.List.{list_any}
use Rattle.place_index.specs.Found.{AscendFrom, is_in}
use Rattle.place_index.proofs.OrderLemmas.{merged, merged_ascend, merged_same, merged_keeps, merged_passes, merged_end}
use Rattle.place_index.proofs.order.merge.Goals.{then-start-end, else-start-end}
use Rattle.place_index.proofs.order.merge.Goals as goal

pub loop-i-preserved : goal.loop-i-preserved
loop-i-preserved c =
    let old = c.loop-i.parts.items in
    let span = c.index.result.now in
    let low = c.loop-i.invariant.low in
    let len = c.loop-i.invariant.len in
    let l : c.loop-i.i < length old = grind (arith, common_steps) in
    let start = c.max-start.ensures ∙ ap (λ s. max s.0 c.loop-i.done) c.index.ensures in
    let end = ap (λ s. s.1) c.index.ensures in
    elim c.if-start-end.branch [
      | then-start-end w ↦
          let more = w.kept-is in
          record {
            low = omega (arith, low, more);
            len = ap (λ parts. length parts.items) w.parts-is ∙ length-set old c.loop-i.kept _ ∙ len;
            left = (λ j. take (w.kept-is j) (w.parts-is j).items
                ++ merged (w.done-is j) (drop (c.loop-i.i + 1) (w.parts-is j).items))
                ∙ merged_keeps old _ c.loop-i.kept c.loop-i.i c.loop-i.done c.max-start.result span.1 span low l
                start end w.if-start-end.true c.loop-i.invariant.left;
          }
      | else-start-end w ↦
          let same = w.kept-is in
          let over = w.if-start-end.false in
          record {
            low = omega (arith, low, same);
            len = ap (λ parts. length parts.items) w.parts-is ∙ len;
            left = (λ j. take (w.kept-is j) (w.parts-is j).items
                ++ merged (w.done-is j) (drop (c.loop-i.i + 1) (w.parts-is j).items))
                ∙ ap (λ rest. take c.loop-i.kept old ++ rest)
                (sym (merged_passes old c.loop-i.i c.loop-i.done c.max-start.result span l start
                (omega (arith, over, end))))
                ∙ c.loop-i.invariant.left;
          }
    ]

pub returns-clause-ascend : goal.returns-clause-ascend
returns-clause-ascend c =
    let over : length c.loop-i.parts.items ≤ c.loop-i.i = grind (arith, common_steps) in
    subst (AscendFrom 0)
    (sym (c.truncate.ensures.items
    ∙ merged_end c.loop-i.parts.items _ c.loop-i.kept c.loop-i.i c.loop-i.done over c.loop-i.invariant.left))
    (merged_ascend 0 c.args.parts.now.items)

pub returns-clause-same : goal.returns-clause-same
returns-clause-same c i =
    let over : length c.loop-i.parts.items ≤ c.loop-i.i = grind (arith, common_steps) in
    ap (list_any (is_in i))
    (c.truncate.ensures.items
    ∙ merged_end c.loop-i.parts.items _ c.loop-i.kept c.loop-i.i c.loop-i.done over c.loop-i.invariant.left)
    ∙ merged_same i 0 c.args.parts.now.items c.requires (omega arith)
