use Rattle.std.proofs.Common.{◌≡◌, ◌∷◌, ◌++◌, [], map, ap, sym, subst, ◌∙◌}
use Rattle.std.specs.Prelude.{option_map}
use Rattle.std.proofs.lemmas.List.{map-append}
use Rattle.std.proofs.lemmas.Result.{err_from_is_err_and}
use Rattle.jiff.specs.Words.{civil_nanos}
use Rattle.saved_text.specs.Saved.{shown}
use Rattle.cookie_store.specs.Given as given
use Rattle.cookie_store.specs.Steps.{wanted}
use Rattle.cookie_store.proofs.SavedLemmas.{SavesSoFar, saves_more, saves_stop, wanted_in}
use Rattle.cookie_store.proofs.saved_rows.saved_list.Goals as goal

pub returns-in_err-saved_of-clause-err : goal.returns-in_err-saved_of-clause-err
returns-in_err-saved_of-clause-err c =
    let p = err_from_is_err_and c.from_residual.result c.from_residual.ensures.1 in
    let at = option_map civil_nanos c.args.now in
    let all = wanted at c.args.cookies in
    let done = map shown c.loop-cookie.rows.items in
    let row = given.lent_row c.in-Some.cookie in
    let rest = c.next.new.self in
    let far : SavesSoFar all done (row ∷ wanted at rest) =
    subst (SavesSoFar all done) (ap (wanted at) c.in-Some.ensures.steps
    ∙ wanted_in at row rest (sym c.is_wanted.ensures ∙ c.if-is_wanted.true)) c.loop-cookie.invariant in
    rw (p.1, p.2) (saves_stop all done row (wanted at rest) _ far c.in_err-saved_of.ensures.err)

pub loop-cookie-preserved-in_ok-push : goal.loop-cookie-preserved-in_ok-push
loop-cookie-preserved-in_ok-push c =
    let at = option_map civil_nanos c.args.now in
    let all = wanted at c.args.cookies in
    let done = map shown c.loop-cookie.rows.items in
    let row = given.lent_row c.in-Some.cookie in
    let rest = c.next.new.self in
    let far : SavesSoFar all done (row ∷ wanted at rest) =
    subst (SavesSoFar all done) (ap (wanted at) c.in-Some.ensures.steps
    ∙ wanted_in at row rest (sym c.is_wanted.ensures ∙ c.if-is_wanted.true)) c.loop-cookie.invariant in
    let new : map shown c.push.new.self.items ≡ done ++ shown c.in_ok-saved_of.field-0 ∷ [] =
    ap (map shown) c.in_ok-push.ensures.items
    ∙ map-append shown c.loop-cookie.rows.items (c.in_ok-saved_of.field-0 ∷ []) in
    subst (λ ts. SavesSoFar all ts (wanted at rest)) (sym new)
    (saves_more all done row (wanted at rest) (shown c.in_ok-saved_of.field-0) far c.in_ok-saved_of.ensures.ok)
