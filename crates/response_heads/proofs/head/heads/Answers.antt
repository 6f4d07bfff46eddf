use Rattle.std.proofs.Common.{◌∙◌, ◌+◌, Some, None, map, sym, ap, subst}
use Rattle.std.specs.Prelude.{MatchOption, if◌then◌else◌}
use Rattle.response_heads.specs.Heads.{Ends, IsUnended}
use Rattle.response_heads.specs.Lines.{begins_head, whole_lines}
use Rattle.response_heads.specs.Read.{field_text, head_text}
use Rattle.response_heads.specs.declared.error.StopFault.TheVariants.{Status}
use Rattle.response_heads.proofs.HeadLemmas.{heads_behind, heads_none, heads_odd, heads_unended}
use Rattle.response_heads.proofs.head.heads.Goals as goal

pub returns-then-not-begins_head : goal.returns-then-not-begins_head
returns-then-not-begins_head c =
    let next = c.in-Some.ensures.line in
    heads_behind c.args.text.now c.loop-line.lines.rest.now c.loop-line.lines.taken
    (map head_text c.loop-line.heads.items) c.in-Some.line.now c.next.new.self.rest.now c.next.new.self.taken
    c.stop_behind.result c.loop-line.invariant next.0 next.1 next.2
    (sym c.begins_head.ensures ∙ c.if-not-begins_head.true) c.stop_behind.ensures

pub returns-in_default-status_of : goal.returns-in_default-status_of
returns-in_default-status_of c =
    let next = c.in-Some.ensures.line in
    heads_odd c.args.text.now c.loop-line.lines.rest.now c.loop-line.lines.taken
    (map head_text c.loop-line.heads.items) c.in-Some.line.now c.next.new.self.rest.now c.next.new.self.taken
    c.loop-line.invariant next.0 next.2 (sym c.begins_head.ensures ∙ c.if-not-begins_head.false)
    (sym c.status_of.ensures ∙ c.in_default-status_of.is)

pub returns-in_default-2 : goal.returns-in_default-2
returns-in_default-2 c =
    let next = c.in-Some.ensures.line in
    let behind = c.next.new.self in
    let left = c.read_fields.new.lines in
    let unended : IsUnended (whole_lines behind.rest.now) =
    subst (λ read. MatchOption read (IsUnended (whole_lines behind.rest.now))
    (λ fields. Ends behind.taken (whole_lines behind.rest.now) (map field_text fields.items) left.taken
    (whole_lines left.rest.now))) c.in_default-2.is c.in_ok-fields.ensures.ok in
    heads_unended c.args.text.now c.loop-line.lines.rest.now c.loop-line.lines.taken
    (map head_text c.loop-line.heads.items) c.in-Some.line.now c.next.new.self.rest.now c.next.new.self.taken
    c.in-Some-status_of.status c.loop-line.invariant next.0 next.2
    (sym c.begins_head.ensures ∙ c.if-not-begins_head.false) (sym c.status_of.ensures ∙ c.in-Some-status_of.is)
    unended

pub returns : goal.returns
returns c =
    let none = c.in_default.ensures.line in
    heads_none c.args.text.now c.loop-line.lines.rest.now c.loop-line.lines.taken
    (map head_text c.loop-line.heads.items) c.stop_at_end.result c.loop-line.invariant none.0 none.1
    (c.stop_at_end.ensures
    ∙ ap (λ lines. if begins_head lines.rest.now then Some (lines.taken + 1, Status) else None) none.2)
