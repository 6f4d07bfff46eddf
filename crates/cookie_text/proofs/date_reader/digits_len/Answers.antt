use Rattle.std.proofs.Common.{◌≡◌, not, nat_lt, cond, length, rules, arith, tests, Some, None}
use Rattle.std.specs.Char.{is_ascii_digit}
use Rattle.std.proofs.lemmas.Bool.Decides.{nat_tests}
use Rattle.std.proofs.lemmas.Iterator.{YieldsList-from_slice}
use Rattle.std.proofs.lemmas.Iterator.Search.{position_from_yields_List}
use Rattle.std.proofs.lemmas.List.Sums.{prefix_len-le-length}
use Rattle.cookie_text.specs.DateReader.{digits_len}
use Rattle.cookie_text.proofs.date_reader.digits_len.Goals as goal

pub returns-clause-value : goal.returns-clause-value
returns-clause-value c =
    let text = c.args.text.now in
    let found : c.position.result ≡ cond (nat_lt (digits_len text) (length text))
    (Some (digits_len text)) None = position_from_yields_List
    (λ b. not (is_ascii_digit b)) _ _ c.position.result c.position.ensures.ran
    (YieldsList-from_slice _ c.iter.ensures.rest) (λ x b q k. search (rules, tests)) in
    let within = prefix_len-le-length (λ b. not (not (is_ascii_digit b))) text in
    grind (arith, nat_tests, found, within)
