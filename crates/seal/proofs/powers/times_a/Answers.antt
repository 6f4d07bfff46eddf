use Rattle.std.proofs.Common.{◌≡◌, ℕ, ◌/◌, arith, ap, sym, ◌∙◌, bit_xor}
use Rattle.std.proofs.lemmas.Nat.Bits.{bit_at_lowest}
use Rattle.std.proofs.lemmas.Nat.{and_mask}
use Rattle.std.specs.Int.{bit_at}
use Rattle.std.specs.Int.Bits.{xor_zero_r}
use Rattle.seal.specs.Ghash.{times_a, scale, reduced}
use Rattle.seal.proofs.powers.times_a.Goals as goal

pub returns-then-x-eq1 : goal.returns-then-x-eq1
unfolding times_a
returns-then-x-eq1 c =
    let low : 1 ≡ bit_at c.args.x 0 = omega (arith, bit_at_lowest c.args.x, and_mask c.args.x 1) in
    ap (λ (b : ℕ). bit_xor (c.args.x / 2) (scale b reduced)) low

pub returns-else-x-eq1 : goal.returns-else-x-eq1
unfolding times_a
returns-else-x-eq1 c =
    let low : 0 ≡ bit_at c.args.x 0 = omega (arith, bit_at_lowest c.args.x, and_mask c.args.x 1) in
    sym (xor_zero_r (c.args.x / 2)) ∙ ap (λ (b : ℕ). bit_xor (c.args.x / 2) (scale b reduced)) low
