use Rattle.std.proofs.Common.{length, sym}
use Rattle.std.proofs.lemmas.Result.{err_from_is_err_and}
use Rattle.std.proofs.lemmas.Bool.{eqb-true, eqb-false}
use Rattle.saved_text.proofs.TextLemmas.{list_stops, text_read, text_stops}
use Rattle.saved_text.proofs.ron_read.read_text.Goals as goal

pub returns-in_err-unread : goal.returns-in_err-unread
returns-in_err-unread c =
    let p = err_from_is_err_and c.from_residual.result c.from_residual.ensures.1 in
    rw (p.1, p.2) (list_stops c.args.text.now c.gap-start.result.now _ c.gap-start.ensures c.in_err-unread.ensures)

pub returns-then-is_empty : goal.returns-then-is_empty
returns-then-is_empty c = text_read c.args.text.now c.gap-start.result.now c.in_ok-unread.rest.now
    c.gap-end.result.now c.read_list.new.rows.items c.in_ok-unread.unread c.gap-start.ensures c.in_ok-unread.ensures
    c.gap-end.ensures (eqb-true (length c.gap-end.result.now) 0 (sym c.if-is_empty.ensures))

pub returns : goal.returns
returns c = text_stops c.args.text.now c.gap-start.result.now c.in_ok-unread.rest.now c.gap-end.result.now
    c.read_list.new.rows.items c.in_ok-unread.unread c.gap-start.ensures c.in_ok-unread.ensures c.gap-end.ensures
    (eqb-false (length c.gap-end.result.now) 0 (sym c.if-is_empty.ensures))
