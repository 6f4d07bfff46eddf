use Rattle.std.proofs.Common.{◌∷◌, [], rules}
use Rattle.std.proofs.lemmas.Result.{err_from_is_err_and}
use Rattle.saved_text.specs.Grammar.Grammar.{sign, seq, space, either, nothing, many}
use Rattle.saved_text.specs.Ron.{row, comma, optional, ◌▹◌, ◌·◌}
use Rattle.saved_text.proofs.ListLemmas.{end}
use Rattle.saved_text.proofs.RonLemmas.{StopsAs-first}
use Rattle.saved_text.proofs.RowsLemmas.{
  list_empty,
  list_begins,
  list_ends,
  list_ends_behind_comma,
  list_goes_on,
  listed_more,
  row_stops,
  comma_stops,
  row_shorter,
}
use Rattle.saved_text.proofs.ron_list.read_list.Goals as goal

pub returns-in_err-rest : goal.returns-in_err-rest
returns-in_err-rest c =
    let p = err_from_is_err_and c.from_residual.result c.from_residual.ensures.1 in
    rw (p.1, p.2) (StopsAs-first (sign (91 ∷ []))
    (seq space (seq (either (row ▹ many (comma ▹ row · space) · optional (comma · space)) nothing) end))
    c.args.text.now _ c.in_err-rest.ensures)

pub returns-in-Some : goal.returns-in-Some
returns-in-Some c = list_empty c.args.text.now c.in_ok-rest.rest.now c.gap-rest.result.now c.in-Some.behind.now
    c.args.rows.now.items c.requires c.in_ok-rest.ensures c.gap-rest.ensures c.in-Some.ensures.some

pub loop-draft-init : goal.loop-draft-init
loop-draft-init c = (
  search rules,
  list_begins c.args.text.now c.in_ok-rest.rest.now c.gap-rest.result.now
      c.args.rows.now.items c.requires c.in_ok-rest.ensures c.gap-rest.ensures c.in_default.ensures.none,
)

pub returns-in_err-draft : goal.returns-in_err-draft
returns-in_err-draft c =
    let p = err_from_is_err_and c.from_residual-in_err-draft.result c.from_residual-in_err-draft.ensures.1 in
    rw (p.1, p.2) (row_stops c.args.text.now c.loop-draft.rest.now c.loop-draft.rows.items c.loop-draft.unread _
    c.loop-draft.invariant.1 c.in_err-draft.ensures)

pub returns-in-Some-cut : goal.returns-in-Some-cut
returns-in-Some-cut c =
    let m = listed_more c.args.text.now c.loop-draft.rest.now c.in_ok-draft.behind.now c.gap-next.result.now
    c.loop-draft.rows.items c.push.new.self.items c.row_of.result c.loop-draft.unread c.in_ok-draft.other
    c.earlier-unread.result c.in_ok-draft.draft c.loop-draft.invariant.1 c.in_ok-draft.ensures c.gap-next.ensures
    c.earlier-unread.ensures c.row_of.ensures c.in_ok-push.ensures.items in
    list_ends c.args.text.now c.gap-next.result.now c.in-Some-cut.behind.now c.push.new.self.items
    c.earlier-unread.result m c.in-Some-cut.ensures.some

pub returns-in_err-behind : goal.returns-in_err-behind
returns-in_err-behind c =
    let m = listed_more c.args.text.now c.loop-draft.rest.now c.in_ok-draft.behind.now c.gap-next.result.now
    c.loop-draft.rows.items c.push.new.self.items c.row_of.result c.loop-draft.unread c.in_ok-draft.other
    c.earlier-unread.result c.in_ok-draft.draft c.loop-draft.invariant.1 c.in_ok-draft.ensures c.gap-next.ensures
    c.earlier-unread.ensures c.row_of.ensures c.in_ok-push.ensures.items in
    let p = err_from_is_err_and c.from_residual-in_err-behind.result c.from_residual-in_err-behind.ensures.1 in
    rw (p.1, p.2) (comma_stops c.args.text.now c.gap-next.result.now c.push.new.self.items c.earlier-unread.result _ m
    c.in_default-cut.ensures.none c.in_err-behind.ensures)

pub returns-in-Some-cut-2 : goal.returns-in-Some-cut-2
returns-in-Some-cut-2 c =
    let m = listed_more c.args.text.now c.loop-draft.rest.now c.in_ok-draft.behind.now c.gap-next.result.now
    c.loop-draft.rows.items c.push.new.self.items c.row_of.result c.loop-draft.unread c.in_ok-draft.other
    c.earlier-unread.result c.in_ok-draft.draft c.loop-draft.invariant.1 c.in_ok-draft.ensures c.gap-next.ensures
    c.earlier-unread.ensures c.row_of.ensures c.in_ok-push.ensures.items in
    list_ends_behind_comma c.args.text.now c.gap-next.result.now c.in_ok-behind.behind.now
    c.gap-rest-in-loop-draft.result.now c.in-Some-cut-2.behind.now c.push.new.self.items c.earlier-unread.result m
    c.in_default-cut.ensures.none c.in_ok-behind.ensures c.gap-rest-in-loop-draft.ensures
    c.in-Some-cut-2.ensures.some

pub loop-draft-smaller : goal.loop-draft-smaller
loop-draft-smaller c = row_shorter c.loop-draft.rest.now c.in_ok-draft.behind.now c.gap-next.result.now
    c.in_ok-behind.behind.now c.gap-rest-in-loop-draft.result.now c.in_ok-draft.draft c.in_ok-draft.other
    c.in_ok-draft.ensures c.gap-next.ensures c.in_ok-behind.ensures c.gap-rest-in-loop-draft.ensures

pub loop-draft-preserved : goal.loop-draft-preserved
loop-draft-preserved c =
    let m = listed_more c.args.text.now c.loop-draft.rest.now c.in_ok-draft.behind.now c.gap-next.result.now
    c.loop-draft.rows.items c.push.new.self.items c.row_of.result c.loop-draft.unread c.in_ok-draft.other
    c.earlier-unread.result c.in_ok-draft.draft c.loop-draft.invariant.1 c.in_ok-draft.ensures c.gap-next.ensures
    c.earlier-unread.ensures c.row_of.ensures c.in_ok-push.ensures.items in (
      search rules,
      list_goes_on c.args.text.now c.gap-next.result.now c.in_ok-behind.behind.now
          c.gap-rest-in-loop-draft.result.now c.push.new.self.items c.earlier-unread.result m
          c.in_default-cut.ensures.none c.in_ok-behind.ensures c.gap-rest-in-loop-draft.ensures
          c.in_default-cut-2.ensures.none,
    )
