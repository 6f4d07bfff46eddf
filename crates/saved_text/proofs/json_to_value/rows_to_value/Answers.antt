use Rattle.std.proofs.Common.{
  ◌≡◌,
  ◌++◌,
  ◌∷◌,
  [],
  List,
  ap,
  sym,
  refl,
  ◌∙◌,
  append_assoc,
  append-nil,
  length,
  arith,
  rules,
}
use Rattle.std.specs.Prelude.{map}
use Rattle.std.proofs.lemmas.List.{map-append}
use Rattle.serde_json.specs.Data.{Data, array, item}
use Rattle.serde_json.specs.View.{view, items_of, items_view}
use Rattle.serde_json.specs.declared.value.Value.{Array, the_lemmas}
use Rattle.saved_text.specs.Json.{row_value, rows_items}
use Rattle.saved_text.specs.Row.{Shown}
use Rattle.saved_text.specs.Saved.{shown}
use Rattle.saved_text.specs.declared.row.SavedRow.{SavedRow}
use Rattle.saved_text.proofs.json_to_value.rows_to_value.Goals as goal

items_are : (rs : List Shown) → items_of (map row_value rs) ≡ rows_items rs
items_are [] = refl
items_are (r ∷ rs) = ap (item (row_value r)) (items_are rs)

pub loop-row-preserved : goal.loop-row-preserved
loop-row-preserved c =
    let e : c.loop-row.rest.now ≡ c.in-Some.row.now ∷ c.in-Some.tail.now = c.in-Some.ensures.cases.0 in
    let old = c.loop-row.items.items in
    let more = map row_value (map shown c.in-Some.tail.now) in
    ap (λ q. map view q ++ more) c.in_ok-push.ensures.items
    ∙ ap (λ q. q ++ more) (map-append view old (c.in_ok-to_value.field-0 ∷ []))
    ∙ append_assoc (map view old) (view c.in_ok-to_value.field-0 ∷ []) more
    ∙ ap (λ v. map view old ++ v ∷ more) c.in_ok-to_value.ensures
    ∙ ap (λ q. map view old ++ map row_value (map shown q)) (sym e)
    ∙ c.loop-row.invariant

nothing_left : (vs : List Data) (rest : List SavedRow) (all : List Data) → length rest ≡ 0
    → vs ++ map row_value (map shown rest) ≡ all → vs ≡ all
nothing_left vs [] all h e = sym (append-nil vs) ∙ e
nothing_left vs (r ∷ rest) all h e = absurd (omega (arith, h))

pub returns : goal.returns
returns c =
    let all = map shown c.args.rows.now in
    let step : view (Array c.loop-row.items) ≡ array (items_view c.loop-row.items.items) = search (rules, the_lemmas) in
    step ∙ ap (λ ds. array (items_of ds)) (nothing_left (map view c.loop-row.items.items) c.loop-row.rest.now
    (map row_value all) c.in_default.ensures.cases c.loop-row.invariant)
    ∙ ap array (items_are all)
