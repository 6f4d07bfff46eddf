use Rattle.std.proofs.Common.{rules, ◌≡◌, ◌∷◌, ◌++◌, [], ◌∙◌, sym, subst}
use Rattle.json.specs.Token.{end_array}
use Rattle.saved_text.specs.JsonTokens.{tokens_of_row}
use Rattle.saved_text.specs.Parts.{row_view}
use Rattle.saved_text.specs.Saved.{IsShown}
use Rattle.saved_text.proofs.TokenLemmas.{Ordered, ordered_more, ordered_end, after_bracket}
use Rattle.saved_text.proofs.json_tokens.rows_in_order.Goals as goal

pub loop-alloc-preserved : goal.loop-alloc-preserved
loop-alloc-preserved c =
    let t = row_view c.in-Some.parts in
    let rest = c.parts_of.new.reader in
    let same : c.take_end_array.new.self ≡ c.loop-alloc.reader = search rules in
    let e : c.loop-alloc.reader ≡ tokens_of_row t ++ rest = sym same ∙ c.in-Some.ensures in
    let s : IsShown t c.in-Some-2.row = search rules in
    subst (λ z. Ordered c.args.text.now z rest) (sym c.in_ok-push.ensures.items)
    (ordered_more c.args.text.now c.loop-alloc.rows.items t c.in-Some-2.row c.loop-alloc.reader rest
    c.loop-alloc.invariant e s)

pub returns-clause-ok : goal.returns-clause-ok
returns-clause-ok c =
    let rest = c.take_end_array.new.self in
    let e : c.loop-alloc.reader ≡ end_array ∷ rest = search (rules, after_bracket) in
    let end : rest ≡ [] = search rules in
    ordered_end c.args.text.now c.loop-alloc.rows.items c.loop-alloc.reader rest c.loop-alloc.invariant e end
