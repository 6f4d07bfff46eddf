use Rattle.std.proofs.Common.{◌<◌, length, rules, arith, tests, sym, ◌∙◌}
use Rattle.std.proofs.lemmas.Bool.Decides.{nat_tests}
use Rattle.std.proofs.lemmas.Iterator.Search.{all_from_yields_List}
use Rattle.std.proofs.lemmas.Iterator.Adapters.{YieldsList-from_bytes}
use Rattle.std.specs.Char.{is_ascii_digit}
use Rattle.cookie_text.proofs.attribute.are_digits.Goals as goal

pub returns-then-not-is_empty : goal.returns-then-not-is_empty
returns-then-not-is_empty c =
    let all = all_from_yields_List is_ascii_digit _ _ c.all.result c.all.ensures.ran
    (YieldsList-from_bytes c.args.text.now c.bytes.ensures.rest) (λ x b q k. search (rules, tests)) in
    let some : 0 < length c.args.text.now = grind (arith, nat_tests) in
    (λ e. (some, sym all ∙ e), λ h. all ∙ h.1)
