-- The steps of AES on one byte, by look-ups within registers.
use Rattle.std.proofs.Common.{◌≡◌, ℕ, suc, ◌+◌, ◌/◌, ◌%◌, ◌^◌, ◌<◌, List, bit_and, bit_xor, refl, ap, ◌∙◌, arith}
use Rattle.std.specs.Int.Bits.{xor_assoc}
use Rattle.seal.specs.Aes.{sub_bytes, shift_rows, mix_columns, round_key, rounds}
use Rattle.seal.specs.Bytes.{sum_below, xor_bytes}
use Rattle.seal.specs.Field.{times_x, times_x_power, byte_product, inverse_below, inverse, byte_of, s_box}
use Rattle.seal.specs.Registers.{looked_up}
use Rattle.seal.specs.declared.register_aes.TheConstants.{INTO_LOW, INTO_HIGH, INVERSE, SCALED, OUT_HIGH, OUT_LOW}
use Rattle.seal.specs.declared.register_aes.TheConstants.{CARRIED}
use Rattle.seal.proofs.ByteFacts.{equal_below}
use Rattle.seal.proofs.FieldLaws.{product_xor_right}

-- ---- the S-box

abbrev pub down : ℕ → ℕ → ℕ
down a b = a / 2 ^ b

abbrev pub basis : ℕ → ℕ
basis b = bit_xor (looked_up INTO_LOW (bit_and b 15)) (looked_up INTO_HIGH (down b 4))

abbrev pub high : ℕ → ℕ
high b = down (basis b) 4

abbrev pub low : ℕ → ℕ
low b = bit_and (basis b) 15

abbrev pub both : ℕ → ℕ
both b = bit_xor (high b) (low b)

abbrev pub scaled : ℕ → ℕ
scaled b = looked_up SCALED (low b)

abbrev pub first : ℕ → ℕ
first b = looked_up INVERSE (bit_xor (looked_up INVERSE (high b)) (scaled b))

abbrev pub second : ℕ → ℕ
second b = looked_up INVERSE (bit_xor (looked_up INVERSE (both b)) (scaled b))

abbrev pub out : ℕ → ℕ
out b = bit_xor
    (bit_xor (looked_up OUT_HIGH (bit_xor (first b) (both b))) (looked_up OUT_LOW (bit_xor (second b) (high b)))) 99

-- at all 256 bytes
pub out_is : (b : ℕ) → b < 256 → out b ≡ s_box b
unfolding sum_below times_x times_x_power byte_product inverse_below inverse byte_of s_box
out_is b h = equal_below out s_box 256 b refl h

-- ---- MixColumns

abbrev pub plus : ℕ → ℕ → ℕ
plus a b = (a + b) % 256

pub double_is : (b : ℕ) → b < 256 → bit_xor (plus b b) (looked_up CARRIED (down b 4)) ≡ byte_product 2 b
unfolding sum_below times_x times_x_power byte_product
double_is b h = equal_below (λ b. bit_xor (plus b b) (looked_up CARRIED (down b 4))) (byte_product 2) 256 b refl h

triple_is : (b : ℕ) → b < 256 → bit_xor (byte_product 2 b) b ≡ byte_product 3 b
unfolding sum_below times_x times_x_power byte_product
triple_is b h = equal_below (λ b. bit_xor (byte_product 2 b) b) (byte_product 3) 256 b refl h

-- 2a + 3b is 2(a + b) + b
pub mixed_lane : (a b rest : ℕ) → a < 256 → b < 256
    → bit_xor (bit_xor (byte_product 2 (bit_xor a b)) b) rest
    ≡ bit_xor (bit_xor (byte_product 2 a) (byte_product 3 b)) rest
mixed_lane a b rest ha hb =
    ap (λ (q : ℕ). bit_xor q rest)
    (ap (λ (q : ℕ). bit_xor q b) (product_xor_right 2 a b ha hb)
    ∙ xor_assoc (byte_product 2 a) (byte_product 2 b) b ∙ ap (bit_xor (byte_product 2 a)) (triple_is b hb))

-- ---- rounds

pub rounds-first : (w s : List ℕ) → xor_bytes s (round_key w 0) ≡ rounds w s 0
unfolding rounds
rounds-first w s = refl

rounds-suc : (w s : List ℕ) (r : ℕ)
    → xor_bytes (mix_columns (shift_rows (sub_bytes (rounds w s r)))) (round_key w (r + 1)) ≡ rounds w s (suc r)
unfolding rounds
rounds-suc w s r = refl

pub rounds-more : (w s : List ℕ) (r : ℕ)
    → xor_bytes (mix_columns (shift_rows (sub_bytes (rounds w s r)))) (round_key w (r + 1)) ≡ rounds w s (r + 1)
rounds-more w s r =
    let next : suc r ≡ r + 1 = omega arith in
    rounds-suc w s r ∙ ap (rounds w s) next
