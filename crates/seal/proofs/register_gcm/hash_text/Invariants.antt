use Rattle.std.proofs.Common.{◌≡◌, ℕ, List, ◌++◌}
use Rattle.seal.specs.Ghash.{ghash, blocks}
use Rattle.seal.specs.Gcm.{whole_blocks}
use Rattle.seal.proofs.register_gcm.hash_text.Given as goal

abbrev pub invariant-loop-n : goal.invariant-loop-n
invariant-loop-n l =
    (bs : List ℕ) → l.fn.before ≡ ghash l.subkey bs → l.sum ≡ ghash l.subkey (bs ++ blocks l.n (whole_blocks l.text))
