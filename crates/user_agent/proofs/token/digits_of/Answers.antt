use Rattle.std.proofs.Common.{◌≡◌, not, nat_lt, cond, length, rules, arith, tests, Some, None, take, sym, ap}
use Rattle.std.proofs.Common.{subst, ◌∙◌, IsTrue}
use Rattle.std.specs.Char.{is_ascii_digit}
use Rattle.std.specs.List.{list_all, position_or_len}
use Rattle.std.proofs.lemmas.Bool.Decides.{nat_tests}
use Rattle.std.proofs.lemmas.Iterator.{YieldsList-from_slice}
use Rattle.std.proofs.lemmas.Iterator.Search.{position_from_yields_List}
use Rattle.std.proofs.lemmas.List.Sums.{prefix_len-le-length}
use Rattle.user_agent.proofs.TokenLemmas.{digits_in_front}
use Rattle.user_agent.proofs.token.digits_of.Goals as goal

pub returns-clause-value : goal.returns-clause-value
returns-clause-value c =
    let text = c.args.text.now in
    let n = position_or_len (λ b. not (is_ascii_digit b)) text in
    let found : c.position.result ≡ cond (nat_lt n (length text)) (Some n) None = position_from_yields_List
    (λ b. not (is_ascii_digit b)) _ _ c.position.result c.position.ensures.ran
    (YieldsList-from_slice _ c.iter.ensures.rest) (λ x b q k. search (rules, tests)) in
    let within = prefix_len-le-length (λ b. not (not (is_ascii_digit b))) text in
    let len : c.unwrap_or-len.result ≡ n = grind (arith, nat_tests, found, within) in
    c.split_at.ensures.front ∙ ap (λ k. take k text) len

pub returns-clause-digits : goal.returns-clause-digits
returns-clause-digits c =
    let text = c.args.text.now in
    let n = position_or_len (λ b. not (is_ascii_digit b)) text in
    let found : c.position.result ≡ cond (nat_lt n (length text)) (Some n) None = position_from_yields_List
    (λ b. not (is_ascii_digit b)) _ _ c.position.result c.position.ensures.ran
    (YieldsList-from_slice _ c.iter.ensures.rest) (λ x b q k. search (rules, tests)) in
    let within = prefix_len-le-length (λ b. not (not (is_ascii_digit b))) text in
    let len : c.unwrap_or-len.result ≡ n = grind (arith, nat_tests, found, within) in
    let front = c.split_at.ensures.front ∙ ap (λ k. take k text) len in
    subst (λ ds. IsTrue (list_all is_ascii_digit ds)) (sym front) (digits_in_front text)
