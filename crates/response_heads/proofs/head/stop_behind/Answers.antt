use Rattle.std.proofs.Common.{◌∙◌, ◌+◌, Some, None, sym, ap}
use Rattle.std.specs.Prelude.{if◌then◌else◌}
use Rattle.response_heads.specs.Lines.{begins_head}
use Rattle.response_heads.specs.declared.error.StopFault.TheVariants.{Between}
use Rattle.response_heads.proofs.HeadLemmas.{stops_here, stops_more, stops_nowhere}
use Rattle.response_heads.proofs.head.stop_behind.Goals as goal

pub returns-then-begins_head : goal.returns-then-begins_head
returns-then-begins_head c =
    let next = c.in-Some.ensures.line in
    stops_here c.args.lines.now.taken c.args.lines.now.rest.now c.loop-line.lines.rest.now c.loop-line.lines.taken
    c.in-Some.line.now c.next.new.self.rest.now c.next.new.self.taken c.loop-line.invariant next.0 next.2
    (sym c.begins_head.ensures ∙ c.if-begins_head.true)

pub loop-line-preserved : goal.loop-line-preserved
loop-line-preserved c =
    let next = c.in-Some.ensures.line in
    stops_more c.args.lines.now.taken c.args.lines.now.rest.now c.loop-line.lines.rest.now c.loop-line.lines.taken
    c.in-Some.line.now c.next.new.self.rest.now c.next.new.self.taken c.loop-line.invariant next.0 next.1 next.2
    (sym c.begins_head.ensures ∙ c.if-begins_head.false)

pub returns : goal.returns
returns c =
    let none = c.in_default.ensures.line in
    stops_nowhere c.args.lines.now.taken c.args.lines.now.rest.now c.loop-line.lines.rest.now c.loop-line.lines.taken
    c.stop_at_end.result c.loop-line.invariant none.0 none.1
    (c.stop_at_end.ensures
    ∙ ap (λ lines. if begins_head lines.rest.now then Some (lines.taken + 1, Between) else None) none.2)
