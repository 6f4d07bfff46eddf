use Rattle.std.proofs.Common.{◌≡◌, ℕ, List, ap, ◌∙◌}
use Rattle.std.specs.Int.{w128, to_be_bytes}
use Rattle.seal.specs.Bytes.{xor_bytes}
use Rattle.seal.specs.Aes.{aes}
use Rattle.seal.specs.Ghash.{ghash, blocks_of, number_of}
use Rattle.seal.specs.Gcm.{tag, first_counter, hash_key, hashed}
use Rattle.seal.proofs.register_gcm.tag_of.Goals as goal

pub returns : goal.returns
unfolding tag number_of
returns c = λ key is.
    let all : List ℕ = hashed c.args.aad.now c.args.ciphertext.now in
    let h : c.new-subkey.result ≡ hash_key key = c.new-subkey.ensures ∙ ap number_of (c.encipher.ensures key is) in
    let mask : c.encipher-2.result ≡ aes key (first_counter c.args.nonce.now) =
    c.encipher-2.ensures key is ∙ ap (aes key) c.first_counter.ensures in
    let bytes : c.to_be_bytes.result ≡ to_be_bytes w128 (ghash (hash_key key) (blocks_of all)) =
    c.to_be_bytes.ensures
    ∙ ap (to_be_bytes w128) (c.hash_of-hash.ensures ∙ ap (λ (k : ℕ). ghash k (blocks_of all)) h) in
    c.sum_of_blocks.ensures ∙ (λ i. xor_bytes (mask i) (bytes i))
