use Rattle.std.proofs.Common.{◌≡◌, ℕ, map, ap, ◌∙◌, arith, bit_xor}
use Rattle.std.specs.Simd.Lanes.{number_l}
use Rattle.seal.specs.Ghash.{times_power}
use Rattle.seal.proofs.SubkeyLemmas.{horner, number_at, picked_byte, horner_is_product, put_off-none, put_off-more}
use Rattle.seal.proofs.SubkeyLemmas.{times_power-add}
use Rattle.seal.proofs.hash_subkey.HashSubkey.times.Goals as goal

pub loop-t-init : goal.loop-t-init
loop-t-init c = put_off-none (number_at c.args.self.now c.args.x)

pub loop-t-preserved : goal.loop-t-preserved
loop-t-preserved c =
    let h : ℕ = c.args.self.now in
    let t : ℕ = c.loop-t.t in
    let next : c.number_of_lanes.result ≡ number_at h c.args.x t =
    c.number_of_lanes.ensures ∙ ap (number_l 256) (c.bytes_at.ensures
    ∙ ap (map (picked_byte h t)) c.lanes_of-bytes.ensures) in
    put_off-more (number_at h c.args.x) t c.loop-t.sum c.loop-t.past c.number_of_lanes.result (omega arith)
    c.loop-t.invariant next

pub returns : goal.returns
returns c =
    let h : ℕ = c.args.self.now in
    let past : ℕ = c.loop-t.past in
    let done : c.loop-t.t ≡ 16 = omega arith in
    let reduced : c.times_power_64-2.result ≡ times_power 128 past =
    c.times_power_64-2.ensures ∙ ap (times_power 64) c.times_power_64.ensures ∙ times_power-add 64 64 past in
    ap (bit_xor c.loop-t.sum) reduced ∙ c.loop-t.invariant.value ∙ ap (horner (number_at h c.args.x)) done
    ∙ horner_is_product h c.args.x (omega (arith, c.self.invariant)) (omega arith)
