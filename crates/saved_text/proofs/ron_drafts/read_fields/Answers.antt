use Rattle.std.proofs.Common.{rules, sym}
use Rattle.std.proofs.lemmas.Result.{err_from_is_err_and}
use Rattle.saved_text.proofs.DraftLemmas.{
  drafted_start,
  drafted_more,
  drafted_next,
  comma_stops,
  field_stops,
  fields_read,
  field_shorter,
}
use Rattle.saved_text.proofs.ron_drafts.read_fields.Goals as goal

pub loop-next-init : goal.loop-next-init
loop-next-init c = (search rules, drafted_start c.args.text.now c.bare-draft.result c.bare-draft.ensures)

pub returns-in_err-next : goal.returns-in_err-next
returns-in_err-next c =
    let p = err_from_is_err_and c.from_residual.result c.from_residual.ensures.1 in
    rw (p.1, p.2) (field_stops c.args.text.now c.loop-next.rest.now c.loop-next.draft c.loop-next.unread _
    c.loop-next.invariant.1.0 c.in_err-next.ensures)

pub returns-then-not-lacks_field : goal.returns-then-not-lacks_field
returns-then-not-lacks_field c =
    let m = drafted_more c.args.text.now c.loop-next.rest.now c.in_ok-next.behind.now c.loop-next.draft
    c.in_ok-next.next c.loop-next.unread c.in_ok-next.other c.earlier-unread.result c.loop-next.invariant.1.0
    c.in_ok-next.ensures c.earlier-unread.ensures in
    fields_read c.args.text.now c.in_ok-next.behind.now c.in_ok-next.next c.earlier-unread.result m
    (sym c.if-not-lacks_field.ensures)

pub returns-in_err-behind : goal.returns-in_err-behind
returns-in_err-behind c =
    let m = drafted_more c.args.text.now c.loop-next.rest.now c.in_ok-next.behind.now c.loop-next.draft
    c.in_ok-next.next c.loop-next.unread c.in_ok-next.other c.earlier-unread.result c.loop-next.invariant.1.0
    c.in_ok-next.ensures c.earlier-unread.ensures in
    let p = err_from_is_err_and c.from_residual-in_err-behind.result c.from_residual-in_err-behind.ensures.1 in
    rw (p.1, p.2) (comma_stops c.args.text.now c.in_ok-next.behind.now c.gap-comma.result.now c.in_ok-next.next
    c.earlier-unread.result _ m (sym c.if-not-lacks_field.ensures) c.gap-comma.ensures c.in_err-behind.ensures)

pub loop-next-smaller : goal.loop-next-smaller
loop-next-smaller c = field_shorter c.loop-next.draft c.in_ok-next.next c.loop-next.rest.now c.in_ok-next.behind.now
    c.gap-comma.result.now c.in_ok-behind.behind.now c.gap-rest.result.now c.in_ok-next.other c.in_ok-next.ensures
    c.gap-comma.ensures c.in_ok-behind.ensures c.gap-rest.ensures

pub loop-next-preserved : goal.loop-next-preserved
loop-next-preserved c =
    let m = drafted_more c.args.text.now c.loop-next.rest.now c.in_ok-next.behind.now c.loop-next.draft
    c.in_ok-next.next c.loop-next.unread c.in_ok-next.other c.earlier-unread.result c.loop-next.invariant.1.0
    c.in_ok-next.ensures c.earlier-unread.ensures in (
      search rules,
      (
        drafted_next c.args.text.now c.in_ok-next.behind.now c.gap-comma.result.now
            c.in_ok-behind.behind.now c.gap-rest.result.now c.in_ok-next.next c.earlier-unread.result m
            (sym c.if-not-lacks_field.ensures) c.gap-comma.ensures c.in_ok-behind.ensures c.gap-rest.ensures,
        sym c.if-not-lacks_field.ensures,
      ),
    )
