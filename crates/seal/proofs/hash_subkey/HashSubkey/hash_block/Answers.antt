use Rattle.std.proofs.Common.{ℕ, arith, sym, ◌∙◌, bit_xor}
use Rattle.seal.specs.Ghash.{block_product, number_of}
use Rattle.seal.proofs.GhashLaws.{ghash-push}
use Rattle.seal.proofs.hash_subkey.HashSubkey.hash_block.Goals as goal

pub returns : goal.returns
unfolding number_of
returns c bs so_far =
    let h : ℕ = c.args.self.now in
    c.times.ensures
    ∙ (λ i. block_product (bit_xor (so_far i) (c.from_be_bytes.ensures i)) h)
    ∙ sym (ghash-push h bs (number_of c.args.block.now) (omega (arith, c.self.invariant)))
