use Rattle.std.proofs.Common.{◌≡◌, not, nat_lt, cond, length, rules, arith, tests, Some, None, drop, ap, ◌∙◌}
use Rattle.std.specs.Prelude.{◌==◌, ◌||◌}
use Rattle.std.specs.List.{position_or_len}
use Rattle.std.proofs.lemmas.Bool.Decides.{nat_tests}
use Rattle.std.proofs.lemmas.Iterator.{YieldsList-from_slice}
use Rattle.std.proofs.lemmas.Iterator.Search.{position_from_yields_List}
use Rattle.std.proofs.lemmas.List.Sums.{prefix_len-le-length}
use Rattle.cookie_client.proofs.reading.unindented.Goals as goal

pub returns : goal.returns
returns c =
    let piece = c.args.piece.now in
    let n = position_or_len (λ b. not (b == 32 || b == 9)) piece in
    let found : c.position.result ≡ cond (nat_lt n (length piece)) (Some n) None = position_from_yields_List
    (λ b. not (b == 32 || b == 9)) _ _ c.position.result c.position.ensures.ran
    (YieldsList-from_slice _ c.iter.ensures.rest) (λ x b q k. search (rules, tests)) in
    let within = prefix_len-le-length (λ b. not (not (b == 32 || b == 9))) piece in
    let at : c.unwrap_or-at.result ≡ n = grind (arith, nat_tests, found, within) in
    c.split_at.ensures.back ∙ ap (λ k. drop k piece) at
