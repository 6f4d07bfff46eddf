use Rattle.std.proofs.Common.{◌≡◌, ◌++◌, ◌∷◌, [], sym, subst}
use Rattle.std.proofs.lemmas.Result.{err_from_is_err_and}
use Rattle.serde_json.specs.Data.{item}
use Rattle.serde_json.specs.View.{view, items_view}
use Rattle.saved_text.specs.JsonReading.{IsNoRow, AreNoRows}
use Rattle.saved_text.proofs.JsonReadLemmas.{RowsSoFar, rows_more, rows_ended, rows_stop, fault_of}
use Rattle.saved_text.proofs.json_read.rows_from_value.Goals as goal

pub returns-in_err-from_value-clause-err : goal.returns-in_err-from_value-clause-err
returns-in_err-from_value-clause-err c =
    let p = err_from_is_err_and c.from_residual.result c.from_residual.ensures.1 in
    let e : c.loop-item.rest.now ≡ c.in-Some-split_first.item.now ∷ c.in-Some-split_first.tail.now =
    c.in-Some-split_first.ensures.cases.0 in
    let d = view c.args.value.now in
    let x = view c.in-Some-split_first.item.now in
    let more = items_view c.in-Some-split_first.tail.now in
    let far : RowsSoFar d c.loop-item.rows.items (item x more) =
    subst (λ z. RowsSoFar d c.loop-item.rows.items (items_view z)) e c.loop-item.invariant in
    rw (p.1, p.2) (fault_of (IsNoRow x) (AreNoRows d) _ (rows_stop d c.loop-item.rows.items x more far)
    c.in_err-from_value.ensures.err)

pub loop-item-preserved : goal.loop-item-preserved
loop-item-preserved c =
    let e : c.loop-item.rest.now ≡ c.in-Some-split_first.item.now ∷ c.in-Some-split_first.tail.now =
    c.in-Some-split_first.ensures.cases.0 in
    let d = view c.args.value.now in
    let x = view c.in-Some-split_first.item.now in
    let more = items_view c.in-Some-split_first.tail.now in
    let far : RowsSoFar d c.loop-item.rows.items (item x more) =
    subst (λ z. RowsSoFar d c.loop-item.rows.items (items_view z)) e c.loop-item.invariant in
    let new : c.push.new.self.items ≡ c.loop-item.rows.items ++ c.in_ok-from_value.field-0 ∷ [] =
    c.in_ok-push.ensures.items in
    subst (λ z. RowsSoFar d z more) (sym new) (rows_more d c.loop-item.rows.items x more c.in_ok-from_value.field-0 far
    c.in_ok-from_value.ensures.ok)

pub returns-clause-ok : goal.returns-clause-ok
returns-clause-ok c = rows_ended (view c.args.value.now) c.loop-item.rows.items c.loop-item.rest.now
    c.loop-item.invariant c.in_default.ensures.cases
