use Rattle.std.proofs.Common.{◌≡◌, ◌∙◌, false, not, length, rules, tests, sym, ap}
use Rattle.std.specs.Prelude.{◌==◌, ◌&&◌}
use Rattle.std.specs.List.{list_all}
use Rattle.std.proofs.lemmas.Iterator.{YieldsList-from_slice}
use Rattle.std.proofs.lemmas.Iterator.Search.{all_from_yields_List}
use Rattle.response_heads.specs.Lines.{is_token_byte}
use Rattle.response_heads.proofs.field.is_token.Goals as goal

pub returns-then-not-is_empty : goal.returns-then-not-is_empty
returns-then-not-is_empty c =
    let text = c.args.text.now in
    let all = all_from_yields_List is_token_byte _ _ c.all.result c.all.ensures.ran
    (YieldsList-from_slice _ c.iter.ensures.rest) (λ x b q k. search (rules, tests)) in
    let some : (length text == 0) ≡ false = cc in
    all ∙ sym (ap (λ b. not b && list_all is_token_byte text) some)
