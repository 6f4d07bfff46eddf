-- The sixteen multiples of a block, and the product with a^4 by a table.
use Rattle.std.proofs.Common.{◌≡◌, ℕ, suc, ◌<◌, List, [], ◌∷◌, map, get_or, refl, sym, ap, ◌∙◌, arith, bit_xor}
use Rattle.std.proofs.lemmas.List.FromFn.{get_or-map-range_with_len}
use Rattle.std.specs.List.{range_with_len}
use Rattle.std.specs.Int.{bit_at}
use Rattle.std.specs.Int.Bits.{xor_zero_r}
use Rattle.seal.specs.Ghash.{scale, times_a, product_low}
use Rattle.seal.proofs.GhashLemmas.{times_a-zero, times_a_scale, times_a_xor}

product_low-suc : (n x y : ℕ) → product_low (suc n) x y ≡ bit_xor (scale (bit_at x n) y) (times_a (product_low n x y))
unfolding product_low
product_low-suc n x y = refl

product_low-first : (x y : ℕ) → product_low 1 x y ≡ scale (bit_at x 0) y
unfolding product_low
product_low-first x y = ap (bit_xor (scale (bit_at x 0) y)) times_a-zero ∙ xor_zero_r (scale (bit_at x 0) y)

-- ---- the sixteen multiples, from y and its products with a, a^2 and a^3

-- each is the sum that its four bits pick
pub product_low-four : (n y : ℕ) → product_low 4 n y
    ≡ bit_xor (scale (bit_at n 3) y) (bit_xor (scale (bit_at n 2) (times_a y))
    (bit_xor (scale (bit_at n 1) (times_a (times_a y))) (scale (bit_at n 0) (times_a (times_a (times_a y))))))
product_low-four n y =
    let b : ℕ → ℕ → ℕ = λ (i v : ℕ). scale (bit_at n i) v in
    let one_more : (v : ℕ) (i : ℕ) → times_a (scale (bit_at n i) v) ≡ scale (bit_at n i) (times_a v) =
    λ v i. times_a_scale (bit_at n i) v in
    let p1 : product_low 1 n y ≡ b 0 y = product_low-first n y in
    let p2 : product_low 2 n y ≡ bit_xor (b 1 y) (b 0 (times_a y)) =
    product_low-suc 1 n y ∙ ap (bit_xor (b 1 y)) (ap times_a p1 ∙ one_more y 0) in
    let p3 : product_low 3 n y ≡ bit_xor (b 2 y) (bit_xor (b 1 (times_a y)) (b 0 (times_a (times_a y)))) =
    product_low-suc 2 n y
    ∙ ap (bit_xor (b 2 y))
    (ap times_a p2 ∙ times_a_xor (b 1 y) (b 0 (times_a y))
    ∙ (λ i. bit_xor (one_more y 1 i) (one_more (times_a y) 0 i))) in
    product_low-suc 3 n y
    ∙ ap (bit_xor (b 3 y)) (ap times_a p3 ∙ times_a_xor (b 2 y) (bit_xor (b 1 (times_a y)) (b 0 (times_a (times_a y))))
    ∙ (λ i. bit_xor (one_more y 2 i) (times_a_xor (b 1 (times_a y)) (b 0 (times_a (times_a y))) i))
    ∙ (λ i. bit_xor (b 2 (times_a y)) (bit_xor (one_more (times_a y) 1 i) (one_more (times_a (times_a y)) 0 i))))

-- the table of them, from h, a * h, a^2 * h and a^3 * h
abbrev pub multiples_of : ℕ → ℕ → ℕ → ℕ → List ℕ
multiples_of h p q r =
    0 ∷ r ∷ q ∷ bit_xor q r ∷ p ∷ bit_xor p r ∷ bit_xor p q ∷ bit_xor p (bit_xor q r) ∷ h ∷ bit_xor h r ∷ bit_xor h q
    ∷ bit_xor h (bit_xor q r) ∷ bit_xor h p ∷ bit_xor h (bit_xor p r) ∷ bit_xor h (bit_xor p q)
    ∷ bit_xor h (bit_xor p (bit_xor q r)) ∷ []

abbrev pub multiples : ℕ → List ℕ
multiples h = multiples_of h (times_a h) (times_a (times_a h)) (times_a (times_a (times_a h)))

pub multiples_is : (h : ℕ) → multiples h ≡ map (λ n. product_low 4 n h) (range_with_len 0 16)
multiples_is h =
    let back : map (λ n. product_low 4 n h) (range_with_len 0 16) ≡ multiples h = simp (product_low-four, xor_zero_r) in
    sym back

pub multiples_filled : (h n : ℕ) → n < 16 → get_or (multiples h) n 0 ≡ product_low 4 n h
multiples_filled h n within =
    ap (λ (l : List ℕ). get_or l n 0) (multiples_is h)
    ∙ get_or-map-range_with_len (λ n. product_low 4 n h) 0 16 n n 0 within (omega arith)

pub multiples_of_filled : (h p q r : ℕ) → p ≡ times_a h → q ≡ times_a p → r ≡ times_a q → (n : ℕ) → n < 16
    → get_or (multiples_of h p q r) n 0 ≡ product_low 4 n h
multiples_of_filled h p q r ep eq er n within =
    let eq2 : q ≡ times_a (times_a h) = eq ∙ ap times_a ep in
    let er2 : r ≡ times_a (times_a (times_a h)) = er ∙ ap times_a eq2 in
    (λ i. get_or (multiples_of h (ep i) (eq2 i) (er2 i)) n 0) ∙ multiples_filled h n within
