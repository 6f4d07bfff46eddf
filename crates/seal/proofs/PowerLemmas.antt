-- Products with a^n, by the part of x that stays below a^128 and the part that goes past it.
use Rattle.std.proofs.Common.{◌≡◌, ℕ, zero, suc, ◌*◌, ◌/◌, ◌%◌, ◌^◌, ◌<◌, refl, sym, ap, ◌∙◌, arith, bit_xor, bit_and}
use Rattle.std.proofs.Common.{mod-lt}
use Rattle.std.proofs.Common.{pow_pos}
use Rattle.std.proofs.Math.Nat.{pow-suc}
use Rattle.std.proofs.lemmas.Nat.{shr_split, and_mask}
use Rattle.std.specs.Int.Bits.{xor_shifted}
use Rattle.seal.specs.Ghash.{one, times_a, times_power, product_low}
use Rattle.seal.proofs.GhashLemmas.{times_a_even, times_power_xor, product_low_power, product_low-xor_right}
use Rattle.seal.proofs.GhashLemmas.{product_low-one}

-- coefficients that only move on
pub power_even : (n q : ℕ) → times_power n (q * 2 ^ n) ≡ q
unfolding times_power
power_even zero q = omega arith
power_even (suc n) q =
    let moved : q * 2 ^ suc n ≡ q * 2 * 2 ^ n = ap (λ (k : ℕ). q * k) (pow-suc 2 n) ∙ omega arith in
    ap times_a (ap (times_power n) moved ∙ power_even n (q * 2)) ∙ times_a_even q

pub power_by_parts : (n x : ℕ) → times_power n x ≡ bit_xor (x / 2 ^ n) (times_power n (x % 2 ^ n))
power_by_parts n x =
    let q : ℕ = x / 2 ^ n in
    let r : ℕ = x % 2 ^ n in
    ap (times_power n) (sym (shr_split x n) ∙ sym (xor_shifted q n r (mod-lt x (pow_pos n))))
    ∙ times_power_xor n (q * 2 ^ n) r
    ∙ ap (λ (k : ℕ). bit_xor k (times_power n r)) (power_even n q)

abbrev pub spread : ℕ → ℕ → ℕ → ℕ → ℕ
spread p q r s = bit_xor (bit_xor (bit_xor p q) r) s

a_128 : times_power 64 (times_power 64 one)
    ≡ spread one (times_power 1 one) (times_power 2 one) (times_power 7 one)
unfolding times_power times_a
a_128 = refl

-- the coefficients of a^64 to a^127 are those of a^128 to a^191, and a^128 is 1 + a + a^2 + a^7
pub power_64_low : (r : ℕ) → r < 2 ^ 64
    → times_power 64 r ≡ spread (r * 2 ^ 64) (r * 2 ^ 63) (r * 2 ^ 62) (r * 2 ^ 57)
power_64_low r h =
    let p : ℕ → ℕ = product_low 64 r in
    let top : p one ≡ r * 2 ^ 64 = product_low-one 64 64 r refl ∙ omega arith in
    let back : r ≡ times_power 64 (p one) = sym (power_even 64 r) ∙ ap (times_power 64) (sym top) in
    let moved : (k : ℕ) → p (times_power k one) ≡ times_power k (r * 2 ^ 64) =
    λ k. product_low_power 64 r k one ∙ ap (times_power k) top in
    let m1 : p (times_power 1 one) ≡ r * 2 ^ 63 =
    moved 1 ∙ ap (times_power 1) (omega arith) ∙ power_even 1 (r * 2 ^ 63) in
    let m2 : p (times_power 2 one) ≡ r * 2 ^ 62 =
    moved 2 ∙ ap (times_power 2) (omega arith) ∙ power_even 2 (r * 2 ^ 62) in
    let m7 : p (times_power 7 one) ≡ r * 2 ^ 57 =
    moved 7 ∙ ap (times_power 7) (omega arith) ∙ power_even 7 (r * 2 ^ 57) in
    ap (times_power 64) back
    ∙ ap (times_power 64) (sym (product_low_power 64 r 64 one))
    ∙ sym (product_low_power 64 r 64 (times_power 64 one))
    ∙ ap p a_128
    ∙ product_low-xor_right 64 r (bit_xor (bit_xor one (times_power 1 one)) (times_power 2 one)) (times_power 7 one)
    ∙ ap (λ (k : ℕ). bit_xor k (p (times_power 7 one)))
    (product_low-xor_right 64 r (bit_xor one (times_power 1 one)) (times_power 2 one)
    ∙ ap (λ (k : ℕ). bit_xor k (p (times_power 2 one))) (product_low-xor_right 64 r one (times_power 1 one)))
    ∙ (λ i. spread (top i) (m1 i) (m2 i) (m7 i))

-- .. as shifts of a block's lower half
pub power_64_shifted : (x : ℕ) → bit_xor (x / 2 ^ 64)
    (spread (bit_and x 0xFFFFFFFFFFFFFFFF * 2 ^ 64 % 2 ^ 128) (bit_and x 0xFFFFFFFFFFFFFFFF * 2 ^ 63 % 2 ^ 128)
    (bit_and x 0xFFFFFFFFFFFFFFFF * 2 ^ 62 % 2 ^ 128) (bit_and x 0xFFFFFFFFFFFFFFFF * 2 ^ 57 % 2 ^ 128))
    ≡ times_power 64 x
power_64_shifted x =
    let low : bit_and x 0xFFFFFFFFFFFFFFFF ≡ x % 2 ^ 64 = and_mask x 64 in
    let r : ℕ = x % 2 ^ 64 in
    let shifted : (r : ℕ) → r < 2 ^ 64
    → spread (r * 2 ^ 64 % 2 ^ 128) (r * 2 ^ 63 % 2 ^ 128) (r * 2 ^ 62 % 2 ^ 128) (r * 2 ^ 57 % 2 ^ 128)
    ≡ spread (r * 2 ^ 64) (r * 2 ^ 63) (r * 2 ^ 62) (r * 2 ^ 57) = λ r h.
    let e0 : r * 2 ^ 64 % 2 ^ 128 ≡ r * 2 ^ 64 = omega arith in
    let e1 : r * 2 ^ 63 % 2 ^ 128 ≡ r * 2 ^ 63 = omega arith in
    let e2 : r * 2 ^ 62 % 2 ^ 128 ≡ r * 2 ^ 62 = omega arith in
    let e3 : r * 2 ^ 57 % 2 ^ 128 ≡ r * 2 ^ 57 = omega arith in
    λ i. spread (e0 i) (e1 i) (e2 i) (e3 i) in
    ap (λ (n : ℕ). bit_xor (x / 2 ^ 64)
    (spread (n * 2 ^ 64 % 2 ^ 128) (n * 2 ^ 63 % 2 ^ 128) (n * 2 ^ 62 % 2 ^ 128) (n * 2 ^ 57 % 2 ^ 128))) low
    ∙ ap (bit_xor (x / 2 ^ 64)) (shifted r (omega arith) ∙ sym (power_64_low r (omega arith)))
    ∙ sym (power_by_parts 64 x)
