use Rattle.std.proofs.Common.{◌∷◌, []}
use Rattle.std.proofs.lemmas.Result.{err_from_is_err_and}
use Rattle.saved_text.specs.Ron.{row, fields}
use Rattle.saved_text.specs.Faults.{closing}
use Rattle.saved_text.specs.Grammar.Grammar.{sign, seq, space}
use Rattle.saved_text.proofs.RonLemmas.{StopsAs-first, StopsAs-behind}
use Rattle.saved_text.proofs.FieldLemmas.{StopsAs-within}
use Rattle.saved_text.proofs.DraftLemmas.{row_opens, row_holds, row_read}
use Rattle.saved_text.proofs.ron_drafts.read_row.Goals as goal

pub returns-in_err-rest : goal.returns-in_err-rest
returns-in_err-rest c =
    let p = err_from_is_err_and c.from_residual.result c.from_residual.ensures.1 in
    rw (p.1, p.2) (StopsAs-first (sign (40 ∷ [])) (seq space (seq fields (seq space closing))) c.args.text.now _
    c.in_err-rest.ensures)

pub returns-in_err-draft : goal.returns-in_err-draft
returns-in_err-draft c =
    let o = row_opens c.args.text.now c.in_ok-rest.rest.now c.gap-rest.result.now c.in_ok-rest.ensures
    c.gap-rest.ensures in
    let p = err_from_is_err_and c.from_residual-in_err-draft.result c.from_residual-in_err-draft.ensures.1 in
    rw (p.1, p.2) (StopsAs-within row fields (seq space closing) c.args.text.now c.gap-rest.result.now [] _ o
    c.in_err-draft.ensures)

pub returns-in_err-rest-2 : goal.returns-in_err-rest-2
returns-in_err-rest-2 c =
    let o = row_opens c.args.text.now c.in_ok-rest.rest.now c.gap-rest.result.now c.in_ok-rest.ensures
    c.gap-rest.ensures in
    let p2 = row_holds c.args.text.now c.gap-rest.result.now c.in_ok-draft.rest.now c.gap-rest-2.result.now
    c.in_ok-draft.draft c.in_ok-draft.unread o c.in_ok-draft.ensures c.gap-rest-2.ensures in
    let p = err_from_is_err_and c.from_residual-in_err-rest-2.result c.from_residual-in_err-rest-2.ensures.1 in
    rw (p.1, p.2) (StopsAs-behind row closing c.args.text.now c.gap-rest-2.result.now c.in_ok-draft.ensures.said _ p2
    c.in_err-rest-2.ensures)

pub returns : goal.returns
returns c =
    let o = row_opens c.args.text.now c.in_ok-rest.rest.now c.gap-rest.result.now c.in_ok-rest.ensures
    c.gap-rest.ensures in
    row_read c.args.text.now c.gap-rest.result.now c.in_ok-draft.rest.now c.gap-rest-2.result.now
    c.in_ok-rest-2.rest.now c.in_ok-draft.draft c.in_ok-draft.unread o c.in_ok-draft.ensures c.gap-rest-2.ensures
    c.in_ok-rest-2.ensures
