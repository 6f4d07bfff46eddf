-- Bytes are the same where the OR of their sums is 0.
use Rattle.std.proofs.Common.{◌≡◌, ℕ, ◌+◌, List, take, get_or, sym, ap, ◌∙◌, arith, bit_xor, bit_or}
use Rattle.std.proofs.lemmas.List.{take-take, get_or-take}
use Rattle.std.proofs.lemmas.Nat.{le_or_l, le_or_r}
use Rattle.std.specs.Int.Bits.{xor_assoc, xor_zero_r, xor_zero_l, xor_self, or_zero_l}

pub or_none_left : (a b : ℕ) → bit_or a b ≡ 0 → a ≡ 0
or_none_left a b e = omega (arith, le_or_l a b)

pub or_none_right : (a b : ℕ) → bit_or a b ≡ 0 → b ≡ 0
or_none_right a b e = omega (arith, le_or_r a b)

pub or_of_none : (a b : ℕ) → a ≡ 0 → b ≡ 0 → bit_or a b ≡ 0
or_of_none a b ea eb = (λ i. bit_or (ea i) (eb i)) ∙ or_zero_l 0

pub same_from_xor : (a b : ℕ) → bit_xor a b ≡ 0 → a ≡ b
same_from_xor a b e =
    sym (xor_zero_r a) ∙ ap (bit_xor a) (sym (xor_self b)) ∙ sym (xor_assoc a b b) ∙ ap (λ (q : ℕ). bit_xor q b) e
    ∙ xor_zero_l b

pub xor_from_same : (a b : ℕ) → a ≡ b → bit_xor a b ≡ 0
xor_from_same a b e = ap (λ (q : ℕ). bit_xor q b) e ∙ xor_self b

-- what is the same up to i + 1 is the same up to i, and at i
pub shorter_same : (xs ys : List ℕ) (i : ℕ) → take (i + 1) xs ≡ take (i + 1) ys → take i xs ≡ take i ys
shorter_same xs ys i e =
    sym (take-take i (i + 1) xs (omega arith)) ∙ ap (take i) e ∙ take-take i (i + 1) ys (omega arith)

pub last_same : (xs ys : List ℕ) (i : ℕ) → take (i + 1) xs ≡ take (i + 1) ys → get_or xs i 0 ≡ get_or ys i 0
last_same xs ys i e =
    sym (get_or-take (i + 1) xs i 0 (omega arith)) ∙ ap (λ (l : List ℕ). get_or l i 0) e
    ∙ get_or-take (i + 1) ys i 0 (omega arith)
