use Rattle.std.proofs.Common.{◌≡◌, ℕ, ◌*◌, ◌/◌, ◌%◌, ◌^◌, ◌<◌, refl, arith, ap, sym, ◌∙◌, bit_xor}
use Rattle.seal.specs.Ghash.{times_a, times_power}
use Rattle.seal.proofs.ByteFacts.{equal_below}
use Rattle.seal.proofs.PowerLemmas.{power_by_parts, spread}
use Rattle.seal.proofs.hash_subkey.times_a.Goals as goal

abbrev added : ℕ → ℕ
added past = spread past (past / 2) (past / 2 ^ 2) (past / 2 ^ 7)

added_is : (r : ℕ) → r < 2 → added (r * 2 ^ 127) ≡ times_power 1 r
unfolding times_a times_power
added_is r h = equal_below (λ k. added (k * 2 ^ 127)) (times_power 1) 2 r refl h

once : (x : ℕ) → times_power 1 x ≡ times_a x
unfolding times_power
once x = refl

pub returns : goal.returns
returns c =
    let x : ℕ = c.args.x in
    let past : x * 2 ^ 127 % 2 ^ 128 ≡ x % 2 * 2 ^ 127 = omega arith in
    ap (λ (p : ℕ). bit_xor (x / 2) (added p)) past
    ∙ ap (bit_xor (x / 2)) (added_is (x % 2) (omega arith)) ∙ sym (power_by_parts 1 x) ∙ once x
