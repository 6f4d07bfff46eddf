use Rattle.std.proofs.Common.{◌≡◌, ℕ, ◌*◌, ◌/◌, ◌%◌, ◌^◌, ◌<◌, List, map, take, drop, ◌-◌, bit_xor, bit_and, ap, ◌∙◌}
use Rattle.std.proofs.Common.{arith}
use Rattle.std.proofs.lemmas.Nat.{and_mask}
use Rattle.std.proofs.lemmas.Simd.{zip2_splat, zip2_of_maps}
use lib.Lanes.{chunk}
use Rattle.std.specs.Int.{byte_at}
use Rattle.seal.specs.Ghash.{product_low, times_power}
use Rattle.seal.specs.Registers.{looked_up}
use Rattle.seal.proofs.LaneLemmas.{picked, map_same}
use Rattle.seal.proofs.RegisterLemmas.{looked_up-below}
use Rattle.seal.proofs.SubkeyLemmas.{picked_byte, byte_of_both, row_read}
use Rattle.seal.proofs.hash_subkey.HashSubkey.bytes_at.Goals as goal

abbrev row_of : List ℕ → ℕ → List ℕ
row_of xs t = chunk 0 16 (take (256 - 16 * t) (drop (16 * t) xs))

pub returns : goal.returns
returns c =
    let x : List ℕ = c.args.x in
    let h : ℕ = c.args.self.now in
    let t : ℕ = c.args.t in
    let n = c.fits-x.0 in
    let near_row : List ℕ = row_of c.self.inside.near t in
    let far_row : List ℕ = row_of c.self.inside.far t in
    let high : ℕ → ℕ = λ b. b / 2 ^ 4 in
    let low : ℕ → ℕ = λ b. bit_and b 15 in
    let near : c.shuffled.result ≡ map (λ b. looked_up near_row (high b)) x =
    picked near_row high x _ _ (zip2_splat (λ a b. a / 2 ^ b) x 16 4 n) c.shuffled.ensures in
    let far : c.shuffled-2.result ≡ map (λ b. looked_up far_row (low b)) x =
    picked far_row low x _ _ (zip2_splat bit_and x 16 15 n) c.shuffled-2.ensures in
    let of_h : c.self.inside.number ≡ h = cc in
    let near_is : (b : ℕ) → b < 256 → looked_up near_row (high b) ≡ byte_at t (product_low 4 (b / 16) h) = λ b fits.
    looked_up-below near_row (b / 16) (omega arith)
    ∙ row_read c.self.inside.near (16 * t) (b / 16) (omega arith) (omega arith) (omega arith)
    ∙ c.self.invariant.0 t (b / 16) (omega arith) (omega arith)
    ∙ ap (λ (q : ℕ). byte_at t (product_low 4 (b / 16) q)) of_h in
    let far_is : (b : ℕ) → b < 256 → looked_up far_row (low b) ≡ byte_at t (product_low 4 (b % 16) (times_power 4 h)) =
    λ b fits.
    ap (looked_up far_row) (and_mask b 4) ∙ looked_up-below far_row (b % 16) (omega arith)
    ∙ row_read c.self.inside.far (16 * t) (b % 16) (omega arith) (omega arith) (omega arith)
    ∙ c.self.invariant.1 t (b % 16) (omega arith) (omega arith)
    ∙ ap (λ (q : ℕ). byte_at t (product_low 4 (b % 16) (times_power 4 q))) of_h in
    zip2_of_maps bit_xor (λ b. looked_up near_row (high b)) (λ b. looked_up far_row (low b)) x near far
    ∙ map_same (λ b. bit_xor (looked_up near_row (high b)) (looked_up far_row (low b))) (picked_byte h t) x
    (λ b fits. (λ i. bit_xor (near_is b fits i) (far_is b fits i)) ∙ byte_of_both h t b) c.fits-x.1
