use Rattle.std.proofs.Common.{◌≡◌, ℕ, ap, arith, ◌∙◌}
use Rattle.std.specs.Int.{byte_at}
use Rattle.seal.specs.Ghash.{number_of, product_low, times_a, times_power}
use Rattle.seal.proofs.hash_subkey.HashSubkey.new.Goals as goal

four_times : (x p q r s : ℕ) → p ≡ times_a x → q ≡ times_a p → r ≡ times_a q → s ≡ times_a r → s ≡ times_power 4 x
unfolding times_power
four_times x p q r s ep eq er es = es ∙ ap times_a (er ∙ ap times_a (eq ∙ ap times_a ep))

pub invariant_of-result : goal.invariant_of-result
invariant_of-result c =
    let h : ℕ = c.from_be_bytes-number.result in
    let next : c.times_a-next.result ≡ times_power 4 h =
    four_times h _ _ _ _ c.times_a.ensures c.times_a-2.ensures c.times_a-3.ensures c.times_a-next.ensures in (
      c.rows_of.ensures,
      λ t n before within. c.rows_of-2.ensures t n before within ∙ ap (λ (q : ℕ). byte_at t (product_low 4 n q)) next,
      omega arith,
    )

pub returns : goal.returns
unfolding number_of
returns c = c.from_be_bytes-number.ensures
