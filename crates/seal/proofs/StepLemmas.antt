-- A product with H by the halves of its first factor, some bits a step.
use Rattle.std.proofs.Common.{◌≡◌, ℕ, ◌+◌, ◌/◌, ◌^◌, bit_xor, ap, sym, ◌∙◌, shr-shr, add_comm}
use Rattle.seal.specs.Ghash.{times_power, product_low, block_product}
use Rattle.seal.proofs.GhashLemmas.{product_low-more, product_low-mod}
use Rattle.seal.proofs.GhashLaws.{product_is}

-- both halves of x have these bits and those of a step more worked off, and rest is x without these bits
pub record WorkedOff (step bits x h low high rest : ℕ) : Type 0 where
  pub low_is : low ≡ product_low (bits + step) x h
  pub high_is : high ≡ product_low (bits + step) (x / 2 ^ 64) h
  pub rest_is : rest ≡ x / 2 ^ bits

-- a half with the bits of a step more, by the multiple that they pick
one_more : (step n x h low p a : ℕ) → low ≡ product_low n x h → p ≡ times_power step low
    → a ≡ product_low step (x / 2 ^ n) h → bit_xor p a ≡ product_low (n + step) x h
one_more step n x h low p a is moved picked =
    (λ i. bit_xor ((moved ∙ ap (times_power step) is) i) (picked i))
    ∙ ap (bit_xor (times_power step (product_low n x h))) (sym (product_low-mod step (x / 2 ^ n) h))
    ∙ sym (product_low-more step n x h)

pub worked_off-more : (step bits n x h low high rest p q a b : ℕ) → n ≡ bits + step
    → WorkedOff step bits x h low high rest
    → p ≡ times_power step low → q ≡ times_power step high → a ≡ product_low step (rest / 2 ^ step) h
    → b ≡ product_low step (rest / 2 ^ step / 2 ^ 64) h
    → WorkedOff step n x h (bit_xor p a) (bit_xor q b) (rest / 2 ^ step)
worked_off-more step bits n x h low high rest p q a b e off hp hq ha hb =
    let low_is : low ≡ product_low n x h = off.low_is ∙ ap (λ (k : ℕ). product_low k x h) (sym e) in
    let high_is : high ≡ product_low n (x / 2 ^ 64) h =
    off.high_is ∙ ap (λ (k : ℕ). product_low k (x / 2 ^ 64) h) (sym e) in
    let next : rest / 2 ^ step ≡ x / 2 ^ n = ap (λ (r : ℕ). r / 2 ^ step) off.rest_is ∙ shr-shr x bits step
    ∙ ap (λ (k : ℕ). x / 2 ^ k) (sym e) in
    let high_next : rest / 2 ^ step / 2 ^ 64 ≡ x / 2 ^ 64 / 2 ^ n =
    ap (λ (r : ℕ). r / 2 ^ 64) next ∙ shr-shr x n 64 ∙ ap (λ (k : ℕ). x / 2 ^ k) (add_comm n 64)
    ∙ sym (shr-shr x 64 n) in
    record {
      low_is = one_more step n x h low p a low_is hp (ha ∙ ap (λ (r : ℕ). product_low step r h) next);
      high_is = one_more step n (x / 2 ^ 64) h high q b high_is hq
          (hb ∙ ap (λ (r : ℕ). product_low step r h) high_next);
      rest_is = next;
    }

-- both halves, the low one moved past the high one
pub together : (x h : ℕ)
    → bit_xor (times_power 64 (product_low 64 x h)) (product_low 64 (x / 2 ^ 64) h) ≡ block_product x h
together x h =
    ap (bit_xor (times_power 64 (product_low 64 x h))) (sym (product_low-mod 64 (x / 2 ^ 64) h))
    ∙ sym (product_low-more 64 64 x h) ∙ sym (product_is x h)
