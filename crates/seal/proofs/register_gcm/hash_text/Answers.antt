use Rattle.std.proofs.Common.{◌≡◌, ℕ, List, ◌++◌, length, arith, ap, sym, ◌∙◌, append-nil}
use Rattle.seal.specs.Ghash.{ghash, blocks}
use Rattle.seal.specs.Gcm.{whole_blocks, blocks_begun}
use Rattle.seal.proofs.TagLemmas.{blocks_more}
use Rattle.seal.proofs.register_gcm.hash_text.Goals as goal

pub loop-n-init : goal.loop-n-init
unfolding blocks
loop-n-init c = λ bs is. is ∙ ap (ghash c.args.subkey.now) (sym (append-nil bs))

pub loop-n-preserved : goal.loop-n-preserved
loop-n-preserved c = λ bs is.
    let text : List ℕ = whole_blocks c.args.text.now in
    let n : ℕ = c.loop-n.n in
    c.hash_block-next.ensures (bs ++ blocks n text) (c.loop-n.invariant bs is)
    ∙ ap (ghash c.args.subkey.now) (blocks_more bs n text c.whole_block.result c.whole_block.ensures)

pub returns : goal.returns
returns c = λ bs is.
    let text : List ℕ = c.args.text.now in
    let done : c.loop-n.n ≡ blocks_begun (length text) = omega arith in
    c.loop-n.invariant bs is ∙ ap (λ (k : ℕ). ghash c.args.subkey.now (bs ++ blocks k (whole_blocks text))) done
