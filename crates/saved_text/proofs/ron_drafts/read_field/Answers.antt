use Rattle.std.proofs.lemmas.Result.{err_from_is_err_and}
use Rattle.saved_text.proofs.PickLemmas.{none_picked}
use Rattle.saved_text.proofs.DraftLemmas.{
  raw_stops,
  path_stops,
  domain_stops,
  expires_stops,
  adds_raw,
  adds_path,
  adds_domain,
  adds_expires,
}
use Rattle.saved_text.proofs.ron_drafts.read_field.Goals as goal

pub returns-in_err-value : goal.returns-in_err-value
returns-in_err-value c =
    let p = err_from_is_err_and c.from_residual.result c.from_residual.ensures.1 in
    rw (p.1, p.2) (raw_stops c.args.draft c.args.text.now _ c.if-is_next.ensures c.in_err-value.ensures)

pub returns-then-is_next : goal.returns-then-is_next
returns-then-is_next c = adds_raw c.args.draft c.args.text.now c.in_ok-value.rest.now c.in_ok-value.value
    c.in_ok-value.unread c.if-is_next.ensures c.in_ok-value.ensures

pub returns-in_err-value-2 : goal.returns-in_err-value-2
returns-in_err-value-2 c =
    let p = err_from_is_err_and c.from_residual-in_err-value-2.result c.from_residual-in_err-value-2.ensures.1 in
    rw (p.1, p.2) (path_stops c.args.draft c.args.text.now _ c.if-is_next-2.ensures c.in_err-value-2.ensures)

pub returns-then-is_next-2 : goal.returns-then-is_next-2
returns-then-is_next-2 c = adds_path c.args.draft c.args.text.now c.in_ok-value-2.rest.now c.in_ok-value-2.value
    c.in_ok-value-2.flag c.if-is_next-2.ensures c.in_ok-value-2.ensures

pub returns-in_err-value-3 : goal.returns-in_err-value-3
returns-in_err-value-3 c =
    let p = err_from_is_err_and c.from_residual-in_err-value-3.result c.from_residual-in_err-value-3.ensures.1 in
    rw (p.1, p.2) (domain_stops c.args.draft c.args.text.now _ c.if-is_next-3.ensures c.in_err-value-3.ensures)

pub returns-then-is_next-3 : goal.returns-then-is_next-3
returns-then-is_next-3 c = adds_domain c.args.draft c.args.text.now c.in_ok-value-3.rest.now c.in_ok-value-3.value
    c.if-is_next-3.ensures c.in_ok-value-3.ensures

pub returns-in_err-date : goal.returns-in_err-date
returns-in_err-date c =
    let p = err_from_is_err_and c.from_residual-in_err-date.result c.from_residual-in_err-date.ensures.1 in
    rw (p.1, p.2) (expires_stops c.args.draft c.args.text.now _ c.if-is_next-4.ensures c.in_err-date.ensures)

pub returns-then-is_next-4 : goal.returns-then-is_next-4
returns-then-is_next-4 c = adds_expires c.args.draft c.args.text.now c.in_ok-date.rest.now c.in_ok-date.date
    c.in_ok-date.unread c.if-is_next-4.ensures c.in_ok-date.ensures

pub returns : goal.returns
returns c = none_picked c.args.draft.lacks_raw_cookie c.args.draft.lacks_path c.args.draft.lacks_domain
    c.args.draft.lacks_expires c.args.text.now c.requires c.if-is_next.ensures c.if-is_next-2.ensures
    c.if-is_next-3.ensures c.if-is_next-4.ensures
