use Rattle.std.proofs.Common.{◌≡◌, ℕ, List, ◌*◌, ◌++◌, ◌∷◌, [], length, refl, ap, sym, ◌∙◌}
use Rattle.std.specs.Int.{w64, to_be_bytes}
use Rattle.seal.specs.Ghash.{ghash, blocks, number_of}
use Rattle.seal.specs.Gcm.{whole_blocks, blocks_begun}
use Rattle.seal.proofs.TagLemmas.{blocks_of_parts, length-whole_blocks}
use Rattle.seal.proofs.register_gcm.hash_of.Goals as goal

none : (h : ℕ) → 0 ≡ ghash h []
unfolding ghash
none h = refl

pub returns : goal.returns
returns c =
    let h : ℕ = c.args.subkey.now in
    let a : List ℕ = c.args.aad.now in
    let t : List ℕ = c.args.ciphertext.now in
    let m : ℕ = blocks_begun (length a) in
    let n : ℕ = blocks_begun (length t) in
    let lengths : List ℕ = to_be_bytes w64 (length a * 8) ++ to_be_bytes w64 (length t * 8) in
    c.hash_block.ensures (blocks m (whole_blocks a) ++ blocks n (whole_blocks t))
    (c.hash_text-sum-2.ensures (blocks m (whole_blocks a)) (c.hash_text-sum.ensures [] (none h)))
    ∙ ap (λ (q : List ℕ).
    ghash h ((blocks m (whole_blocks a) ++ blocks n (whole_blocks t)) ++ number_of q ∷ [])) c.length_block.ensures
    ∙ ap (ghash h) (sym (blocks_of_parts m n (whole_blocks a) (whole_blocks t) lengths (length-whole_blocks a)
    (length-whole_blocks t) refl))
