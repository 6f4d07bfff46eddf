use Rattle.std.proofs.Common.{◌≡◌, ℕ, ◌+◌, ◌*◌, ◌<◌, ◌≤◌, List, get_or, inl, inr, bit_xor, ap, sym, ◌∙◌, arith}
use Rattle.std.proofs.lemmas.Bool.{cases_lt}
use Rattle.std.specs.Int.{bit_at, byte_at}
use Rattle.std.specs.Simd.Lanes.{digits_l}
use Rattle.seal.specs.Ghash.{scale, product_low}
use Rattle.seal.proofs.SubkeyLemmas.{with_row, row_before, row_there, digit_is, byte_of_multiple}
use Rattle.seal.proofs.hash_subkey.rows_of.Goals as goal

pub loop-t-preserved : goal.loop-t-preserved
loop-t-preserved c s n before within =
    let t : ℕ = c.loop-t.t in
    let h : ℕ = c.args.h in
    let xs : List ℕ = c.loop-t.rows in
    let row : List ℕ = c.row-next.result in
    let kept : s < t → get_or (with_row xs row (16 * t)) (16 * s + n) 0 ≡ byte_at s (product_low 4 n h) = λ l.
    row_before xs row (16 * t) (16 * s + n) c.row-next.array_long (omega arith) (omega arith)
    ∙ c.loop-t.invariant s n l within in
    let byte : (lanes : List ℕ) (x : ℕ) → lanes ≡ digits_l 256 16 x → get_or lanes t 0 ≡ byte_at t x = λ lanes x is.
    ap (λ (l : List ℕ). get_or l t 0) is ∙ digit_is 16 x t (omega arith) in
    let third : get_or c.lanes_of-in-loop-t-3.result t 0 ≡ byte_at t h =
    byte _ h c.lanes_of-in-loop-t-3.ensures in
    let second : get_or c.lanes_of-in-loop-t-2.result t 0 ≡ byte_at t c.times_a-second.result =
    byte _ _ c.lanes_of-in-loop-t-2.ensures in
    let first : get_or c.lanes_of-in-loop-t.result t 0 ≡ byte_at t c.times_a-first.result =
    byte _ _ c.lanes_of-in-loop-t.ensures in
    let zeroth : get_or c.lanes_of.result t 0 ≡ byte_at t c.times_a-zeroth.result = byte _ _ c.lanes_of.ensures in
    let bit : ℕ → ℕ → ℕ = λ (k m : ℕ). scale (bit_at n k) m in
    let there : get_or (with_row xs row (16 * t)) (16 * t + n) 0 ≡ byte_at t (product_low 4 n h) =
    row_there xs row (16 * t) n c.row-next.array_long (omega arith) (omega arith) within
    ∙ c.row-next.ensures n within
    ∙ (λ i. bit_xor (bit 3 (third i)) (bit_xor (bit 2 (second i)) (bit_xor (bit 1 (first i)) (bit 0 (zeroth i)))))
    ∙ byte_of_multiple n h _ _ _ t c.times_a-second.ensures c.times_a-first.ensures c.times_a-zeroth.ensures in
    let same : t ≤ s → s ≡ t = λ l. omega arith in
    elim (cases_lt s t) [
      | inl l ↦ kept l
      | inr l ↦ ap (λ (k : ℕ). get_or (with_row xs row (16 * t)) (16 * k + n) 0) (same l) ∙ there
          ∙ ap (λ (k : ℕ). byte_at k (product_low 4 n h)) (sym (same l))
    ]
