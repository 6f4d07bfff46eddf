use Rattle.std.proofs.Common.{◌≡◌, ℕ, ◌*◌, ◌/◌, ◌%◌, ◌^◌, ◌<◌, bit_xor, arith, ap, ◌∙◌}
use Rattle.std.specs.Int.Bits.{xor_shifted}
use Rattle.std.specs.Simd.Lanes.{number_l}
use Rattle.seal.proofs.SubkeyLemmas.{number-lt}
use Rattle.seal.proofs.hash_subkey.number_of_lanes.Goals as goal

pub returns : goal.returns
returns c =
    let n : ℕ = number_l 256 c.args.v in
    let small : n < 2 ^ 128 = number-lt c.args.v c.fits-v in
    let high : n / 2 ^ 64 % 2 ^ 64 * 2 ^ 64 % 2 ^ 128 ≡ n / 2 ^ 64 * 2 ^ 64 = omega arith in
    ap (λ (q : ℕ). bit_xor q (n % 2 ^ 64)) high
    ∙ xor_shifted (n / 2 ^ 64) 64 (n % 2 ^ 64) (omega arith) ∙ omega arith
