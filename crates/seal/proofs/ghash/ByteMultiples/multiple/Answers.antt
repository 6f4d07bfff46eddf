use Rattle.std.proofs.Common.{◌≡◌, ℕ, ◌/◌, bit_xor, ap, sym, ◌∙◌}
use Rattle.seal.specs.Ghash.{product_low, times_power}
use Rattle.seal.proofs.GhashLemmas.{product_low-add, product_low_power}
use Rattle.seal.proofs.ghash.ByteMultiples.multiple.Goals as goal

pub returns : goal.returns
returns c =
    let x : ℕ = c.args.x in
    let h : ℕ = c.args.self.now in
    let near : c.self.inside.near ≡ h = cc in
    let first : c.multiple.result ≡ product_low 4 (x / 16) h =
    c.multiple.ensures ∙ ap (product_low 4 (x / 16)) near in
    let second : c.multiple-2.result ≡ times_power 4 (product_low 4 x h) =
    c.multiple-2.ensures ∙ ap (product_low 4 x) (c.self.invariant.0 ∙ ap (times_power 4) near)
    ∙ product_low_power 4 x 4 h in
    (λ i. bit_xor (first i) (second i)) ∙ sym (product_low-add 4 4 x h)
