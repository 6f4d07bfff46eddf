use Rattle.std.proofs.Common.{◌≡◌, ℕ, ◌+◌, ◌*◌, ◌<◌, slice_index}
use Rattle.std.specs.Int.{byte_at}
use Rattle.seal.specs.Ghash.{product_low}
use Rattle.seal.proofs.hash_subkey.rows_of.Given as goal

abbrev pub invariant-loop-t : goal.invariant-loop-t
invariant-loop-t l =
    (t n : ℕ) → t < l.t → n < 16 → slice_index l.rows (16 * t + n) ≡ byte_at t (product_low 4 n l.h)
