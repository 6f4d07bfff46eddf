use Rattle.std.proofs.Common.{◌≡◌, ℕ, ◌*◌, ◌/◌, ◌%◌, ◌^◌, ◌<◌, refl, arith, ap, sym, ◌∙◌, bit_xor, bit_and, get_or}
use Rattle.std.proofs.lemmas.Nat.{and_mask}
use Rattle.seal.specs.Ghash.{times_a, times_power}
use Rattle.seal.specs.declared.powers.TheConstants.{TIMES_POWER_8}
use Rattle.seal.proofs.ByteFacts.{equal_below}
use Rattle.seal.proofs.PowerLemmas.{power_by_parts}
use Rattle.seal.proofs.powers.times_power_8.Goals as goal

entry : (n : ℕ) → n < 256 → get_or TIMES_POWER_8 n 0 * 2 ^ 112 % 2 ^ 128 ≡ times_power 8 n
unfolding times_a times_power
entry n h = equal_below (λ i. get_or TIMES_POWER_8 i 0 * 2 ^ 112 % 2 ^ 128) (times_power 8) 256 n refl h

pub returns : goal.returns
returns c =
    let x : ℕ = c.args.x in
    let low : bit_and x 255 ≡ x % 256 = and_mask x 8 in
    ap (λ (n : ℕ). bit_xor (x / 256) (get_or TIMES_POWER_8 n 0 * 2 ^ 112 % 2 ^ 128)) low
    ∙ ap (bit_xor (x / 256)) (entry (x % 256) (omega arith)) ∙ sym (power_by_parts 8 x)
