-- The key stream, block by block.
use Rattle.std.proofs.Common.{◌≡◌, ℕ, List, ◌+◌, ◌++◌, length, ap, sym, ◌∙◌, arith, add-one}
use Rattle.seal.specs.Bytes.{xored_front}
use Rattle.seal.specs.Aes.{aes}
use Rattle.seal.specs.Gcm.{counter, key_stream, inc32, ciphered, blocks_begun}
use Rattle.seal.proofs.ByteLists.{front_all}
use Rattle.seal.proofs.GcmLemmas.{length-key_stream}

pub counter-more : (nonce : List ℕ) (n : ℕ) → inc32 (counter nonce n) ≡ counter nonce (n + 1)
unfolding counter
counter-more nonce n = ap (counter nonce) (sym (add-one n))

pub key_stream-more : (key nonce : List ℕ) (n : ℕ)
    → key_stream key nonce n ++ aes key (counter nonce (n + 1)) ≡ key_stream key nonce (n + 1)
unfolding key_stream
key_stream-more key nonce n =
    ap (λ (k : ℕ). key_stream key nonce n ++ aes key (counter nonce k)) (add-one n)
    ∙ ap (key_stream key nonce) (sym (add-one n))

-- all of it is added
pub ciphered_whole : (key nonce text : List ℕ) (n : ℕ) → length key ≡ 32 → n ≡ blocks_begun (length text)
    → xored_front text (key_stream key nonce n) ≡ ciphered key nonce text
unfolding ciphered
ciphered_whole key nonce text n long e =
    ap (λ (k : ℕ). xored_front text (key_stream key nonce k)) e
    ∙ front_all text (key_stream key nonce (blocks_begun (length text)))
    (omega (arith, length-key_stream key nonce (blocks_begun (length text)) long))
