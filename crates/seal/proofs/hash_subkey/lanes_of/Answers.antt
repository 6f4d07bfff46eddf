use Rattle.std.proofs.Common.{◌≡◌, ℕ, ◌+◌, ◌*◌, ◌/◌, ◌%◌, ◌^◌, bit_and, arith, ap}
use Rattle.std.proofs.lemmas.Nat.{and_mask}
use Rattle.std.specs.Simd.Lanes.{digits_l}
use Rattle.seal.proofs.hash_subkey.lanes_of.Goals as goal

pub returns : goal.returns
returns c =
    let x : ℕ = c.args.x in
    let low : bit_and x 0xFFFFFFFFFFFFFFFF ≡ x % 2 ^ 64 = and_mask x 64 in
    let whole : bit_and x 0xFFFFFFFFFFFFFFFF + 2 ^ 64 * (x / 2 ^ 64 + 0) ≡ x = omega (arith, low) in
    ap (digits_l 256 16) whole
