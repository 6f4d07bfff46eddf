use Rattle.std.proofs.Common.{ap, ◌∙◌, bit_xor}
use Rattle.std.specs.Int.{w128, to_be_bytes}
use Rattle.seal.specs.Ghash.{block_product, number_of}
use Rattle.seal.proofs.hash_subkey.HashSubkey.step.Goals as goal

pub returns : goal.returns
unfolding number_of
returns c =
    c.to_be_bytes.ensures ∙ ap (to_be_bytes w128) (c.times.ensures
    ∙ (λ i. block_product (bit_xor (c.from_be_bytes.ensures i) (c.from_be_bytes-2.ensures i)) c.args.self.now))
