use Rattle.std.proofs.Common.{◌≡◌, ℕ, ◌+◌, ◌<◌, true, false, List, [], ◌∷◌, length, take, get_or}
use Rattle.std.proofs.Common.{ap, inl, subst, sym, ◌∙◌}
use Rattle.std.specs.Prelude.{map, ◌&&◌}
use Rattle.std.specs.List.{list_all}
use Rattle.std.specs.Str.{is_utf8}
use Rattle.std.proofs.lemmas.List.{take_more, map-append}
use Rattle.std.proofs.lemmas.List.Folds.{list_all-append}
use Rattle.cookie_run.proofs.MappedSteps.{map_more}
use Rattle.cookie_run.proofs.ScriptLines.{one_not_text}
use Rattle.cookie_run.proofs.script.field.texts_of.Goals as goal

one_text_more : {A : Type 0} (view : A → List ℕ) (all : List A) (i : ℕ) (y : A) → i < length all → y ≡ get_or all i y
    → is_utf8 (view y) ≡ true → list_all is_utf8 (map view (take i all)) ≡ true
    → list_all is_utf8 (map view (take (i + 1) all)) ≡ true
one_text_more view all i y less is one before =
    ap (λ ys. list_all is_utf8 (map view ys)) (take_more all i y less)
    ∙ (ap (list_all is_utf8) (map-append view (take i all) (get_or all i y ∷ []))
    ∙ (list_all-append is_utf8 (map view (take i all)) (view (get_or all i y) ∷ [])
    ∙ ((λ j. before j && (is_utf8 (view (sym is j)) && true)) ∙ (λ j. true && (one j && true)))))

pub loop-field-preserved : goal.loop-field-preserved
loop-field-preserved c = record {
  texts = map_more (λ text. text.now) (λ field. field.items) c.loop-field.texts.items c.push.new.self.items c.in-Ok.text
      c.args.fields.now c.loop-field.field-index c.field-item.result c.in_ok-push-in-Ok.ensures.items
      c.loop-field-test.true c.field-item.is (c.in-Ok.ensures.text ∙ c.deref.ensures.value)
      c.loop-field.invariant.texts;
  utf8 = one_text_more (λ field. field.items) c.args.fields.now c.loop-field.field-index c.field-item.result
      c.loop-field-test.true c.field-item.is
      (subst (λ bs. is_utf8 bs ≡ true) c.deref.ensures.value c.in-Ok.ensures.utf8) c.loop-field.invariant.utf8;
}

pub returns-in-Err-clause-err : goal.returns-in-Err-clause-err
returns-in-Err-clause-err c =
    inl (
      c.in-Err.ensures.err.0,
      one_not_text (λ field. field.items) c.args.fields.now c.loop-field.field-index c.field-item.result
          c.loop-field-test.true c.field-item.is
          (subst (λ bs. is_utf8 bs ≡ false) c.deref.ensures.value c.in-Err.ensures.err.1),
    )
