use Rattle.std.proofs.Common.{◌≡◌, ℕ, List, length}
use Rattle.seal.specs.Bytes.{xored_front}
use Rattle.seal.specs.Aes.{schedule}
use Rattle.seal.specs.Gcm.{key_stream, counter}
use Rattle.seal.proofs.register_gcm.cipher.Given as goal

abbrev pub invariant-loop-n : goal.invariant-loop-n
invariant-loop-n l = (l.block ≡ counter l.nonce l.n) × (length l.text ≡ length l.fn.text)
    × ((key : List ℕ) → length key ≡ 32 → l.w ≡ schedule key 52 → l.text
    ≡ xored_front l.fn.text (key_stream key l.nonce l.n))
