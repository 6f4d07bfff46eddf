use Rattle.std.proofs.Common.{◌≡◌, ℕ, List, ◌+◌, ◌++◌, refl, ap, sym, ◌∙◌, arith}
use Rattle.seal.specs.Bytes.{xored_front}
use Rattle.seal.specs.Aes.{aes}
use Rattle.seal.specs.Gcm.{counter, key_stream, inc32}
use Rattle.seal.proofs.ByteLists.{xored_front-none}
use Rattle.seal.proofs.GcmLemmas.{length-key_stream}
use Rattle.seal.proofs.StreamLemmas.{counter-more, key_stream-more, ciphered_whole}
use Rattle.seal.proofs.register_gcm.cipher.Goals as goal

pub loop-n-init : goal.loop-n-init
unfolding counter key_stream
loop-n-init c = (c.first_counter-block.ensures, refl, λ key long is. sym (xored_front-none c.args.text.now))

pub loop-n-preserved : goal.loop-n-preserved
loop-n-preserved c =
    let nonce : List ℕ = c.args.nonce.now in
    let old : List ℕ = c.args.text.now in
    let n : ℕ = c.loop-n.n in
    let next : List ℕ = c.next_counter-next.result in
    let counted : next ≡ counter nonce (n + 1) =
    c.next_counter-next.ensures.next ∙ ap inc32 c.loop-n.invariant.0 ∙ counter-more nonce n in (
      counted,
      omega arith,
      λ key long is.
          c.add_block.ensures old (key_stream key nonce n) (sym c.loop-n.invariant.1)
          (length-key_stream key nonce n long) (c.loop-n.invariant.2 key long is)
          ∙ ap (λ (q : List ℕ). xored_front old (key_stream key nonce n ++ q))
          (c.encipher.ensures key is ∙ ap (aes key) counted)
          ∙ ap (xored_front old) (key_stream-more key nonce n),
    )

pub returns : goal.returns
returns c = λ key long is.
    c.loop-n.invariant.2 key long is
    ∙ ciphered_whole key c.args.nonce.now c.args.text.now c.loop-n.n long (omega arith)
