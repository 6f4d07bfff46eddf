-- A product with H by the bytes of its multiples: byte t of those that the bytes of x pick is a number of its own.
use Rattle.std.proofs.Common.{◌≡◌, ℕ, zero, suc, ◌+◌, ◌-◌, ◌*◌, ◌/◌, ◌%◌, ◌^◌, ◌<◌, List, [], ◌∷◌, map, length, refl}
use Rattle.std.proofs.Common.{sym}
use Rattle.std.proofs.Common.{w8, Fits, ◌≤◌, ◌++◌, take, drop, length-drop, bit_and, ap, subst, ◌∙◌, arith, bit_xor}
use Rattle.std.proofs.Common.{mod-lt, pow_pos, pow-add, shr-shr, get_or, add-one}
use Rattle.std.proofs.Math.Nat.{zero-mul, mul-mod_left, mul_assoc, mul_comm, pow-suc, add-mul, mul-lt-mul_of_pos_right}
use Rattle.std.proofs.Math.Nat.{mod-eq_of_lt}
use Rattle.std.proofs.lemmas.Nat.{xor_comm, xor_shr, xor_mod, mod-pow-add}
use Rattle.std.specs.Int.{bit_at, byte_at}
use Rattle.std.specs.Int.Bits.{xor_assoc, xor_shifted}
use Rattle.std.specs.Simd.Lanes.{digits_l, number_l}
use Rattle.seal.specs.Ghash.{scale, times_a, times_power, product_low, block_product}
use lib.Lanes.{Each1, chunk, put_chunk}
use borrow.Rule.Slice.PartMut.{put_mid, post_of}
use Rattle.std.proofs.lemmas.List.{get_or_append_left, get_or-append_right, get_or-take, get_or-drop, length-take-le}
use Rattle.std.proofs.lemmas.Simd.{get_or-chunk, get_or-put_chunk_at, length-put_chunk}
use Rattle.seal.proofs.RegisterLemmas.{IsBlock}
use Rattle.seal.proofs.Sums.{xor_swap}
use Rattle.seal.proofs.GhashLaws.{product_is}
use Rattle.seal.proofs.GhashLemmas.{times_power_xor, product_low-add, product_low-mod, product_low-lt}
use Rattle.seal.proofs.GhashLemmas.{product_low_power}
use Rattle.seal.proofs.PowerLemmas.{power_even, power_by_parts}
use Rattle.seal.proofs.ByteFacts.{equal_below}
use Rattle.seal.proofs.TableLemmas.{product_low-four}

-- ---- bytes of a number

pow_256 : (t : ℕ) → 256 ^ t ≡ 2 ^ (8 * t)
pow_256 zero = refl
pow_256 (suc t) =
    let more : 8 * suc t ≡ 8 * t + 8 = omega arith in
    pow-suc 256 t ∙ ap (λ (q : ℕ). q * 256) (pow_256 t) ∙ sym (pow-add 2 (8 * t) 8)
    ∙ ap (λ (k : ℕ). 2 ^ k) (sym more)

pub byte_is : (t m : ℕ) → byte_at t m ≡ m / 2 ^ (8 * t) % 256
byte_is zero m = omega arith
byte_is (suc t) m = ap (λ (q : ℕ). m / q % 256) (pow_256 (suc t))

pub byte_xor : (t m n : ℕ) → byte_at t (bit_xor m n) ≡ bit_xor (byte_at t m) (byte_at t n)
byte_xor t m n =
    byte_is t (bit_xor m n) ∙ ap (λ (q : ℕ). q % 256) (xor_shr m n (8 * t))
    ∙ xor_mod (m / 2 ^ (8 * t)) (n / 2 ^ (8 * t)) 8
    ∙ sym (λ i. bit_xor (byte_is t m i) (byte_is t n i))

byte_next : (t x : ℕ) → byte_at t (x / 256) ≡ byte_at (suc t) x
byte_next t x =
    let more : 8 + 8 * t ≡ 8 * suc t = omega arith in
    byte_is t (x / 256) ∙ ap (λ (q : ℕ). q % 256) (shr-shr x 8 (8 * t))
    ∙ ap (λ (k : ℕ). x / 2 ^ k % 256) more ∙ sym (byte_is (suc t) x)

pub digit_is : (n x t : ℕ) → t < n → get_or (digits_l 256 n x) t 0 ≡ byte_at t x
digit_is zero x t h = absurd (omega arith)
digit_is (suc n) x zero h = refl
digit_is (suc n) x (suc t) h = digit_is n (x / 256) t (omega arith) ∙ byte_next t x

pub number_of_digits : (n x : ℕ) → x < 2 ^ (8 * n) → number_l 256 (digits_l 256 n x) ≡ x
number_of_digits zero x h = omega arith
number_of_digits (suc n) x h =
    let more : 8 * suc n ≡ 8 * n + 8 = omega arith in
    let wide : 2 ^ (8 * suc n) ≡ 2 ^ (8 * n) * 256 = ap (λ (k : ℕ). 2 ^ k) more ∙ pow-add 2 (8 * n) 8 in
    let fits : x / 256 < 2 ^ (8 * n) = omega (arith, wide) in
    ap (λ (q : ℕ). x % 256 + 256 * q) (number_of_digits n (x / 256) fits) ∙ omega arith

-- ---- Horner's rule, a byte a step: f 0 is worked off first

unfoldable pub horner : (ℕ → ℕ) → ℕ → ℕ
horner f zero = 0
horner f (suc t) = bit_xor (times_power 8 (horner f t)) (f t)

pub horner-none : (f : ℕ → ℕ) → 0 ≡ horner f 0
unfolding horner
horner-none f = refl

pub horner-more : (f : ℕ → ℕ) (t : ℕ) → bit_xor (times_power 8 (horner f t)) (f t) ≡ horner f (t + 1)
unfolding horner
horner-more f t = ap (horner f) (sym (add-one t))

horner-same : (f g : ℕ → ℕ) (n : ℕ) → ((t : ℕ) → f t ≡ g t) → horner f n ≡ horner g n
unfolding horner
horner-same f g zero same = refl
horner-same f g (suc n) same = λ i. bit_xor (times_power 8 (horner-same f g n same i)) (same n i)

horner-xor : (f g : ℕ → ℕ) (n : ℕ) → horner (λ t. bit_xor (f t) (g t)) n ≡ bit_xor (horner f n) (horner g n)
unfolding horner
horner-xor f g zero = refl
horner-xor f g (suc n) =
    ap (λ (q : ℕ). bit_xor (times_power 8 q) (bit_xor (f n) (g n))) (horner-xor f g n)
    ∙ ap (λ (q : ℕ). bit_xor q (bit_xor (f n) (g n))) (times_power_xor 8 (horner f n) (horner g n))
    ∙ xor_swap (times_power 8 (horner f n)) (times_power 8 (horner g n)) (f n) (g n)

pub times_power-add : (m n x : ℕ) → times_power m (times_power n x) ≡ times_power (m + n) x
unfolding times_power
times_power-add zero n x = ap (λ (k : ℕ). times_power k x) (omega arith)
times_power-add (suc m) n x =
    let more : suc (m + n) ≡ suc m + n = omega arith in
    ap times_a (times_power-add m n x) ∙ ap (λ (k : ℕ). times_power k x) more

power_8-zero : times_power 8 0 ≡ 0
unfolding times_power times_a
power_8-zero = refl

power_0 : (x : ℕ) → times_power 0 x ≡ x
unfolding times_power
power_0 x = refl

-- ---- what goes past a^127 is put off

power_128-zero : times_power 128 0 ≡ 0
unfolding times_power times_a
power_128-zero = refl

-- after t bytes: sum, and past, whose a^0 is a^128, of which the last 16 - t bytes are 0
pub record PutOff (f : ℕ → ℕ) (t sum past : ℕ) : Type 0 where
  pub value : bit_xor sum (times_power 128 past) ≡ horner f t
  pub room : past % 2 ^ (8 * (16 - t)) ≡ 0

pub put_off-none : (f : ℕ → ℕ) → PutOff f 0 0 0
put_off-none f = record {
  value = ap (bit_xor 0) power_128-zero ∙ horner-none f;
  room = omega arith;
}

-- the terms of a step, in another order
turned : (a v p b : ℕ) → bit_xor (bit_xor a v) (bit_xor p b) ≡ bit_xor (bit_xor (bit_xor a b) p) v
turned a v p b =
    ap (bit_xor (bit_xor a v)) (xor_comm p b) ∙ xor_swap a v b p ∙ ap (bit_xor (bit_xor a b)) (xor_comm v p)
    ∙ sym (xor_assoc (bit_xor a b) p v)

-- a byte more is past a^127
step_value : (f : ℕ → ℕ) (t s p v : ℕ) → bit_xor s (times_power 128 p) ≡ horner f t → p % 256 ≡ 0 → v ≡ f t
    → bit_xor (bit_xor (s / 256) v) (times_power 128 (bit_xor (p / 256) (s % 256 * 2 ^ 120))) ≡ horner f (t + 1)
step_value f t s p v so_far none is =
    let whole : p ≡ p / 256 * 2 ^ 8 = omega arith in
    let kept : p / 256 ≡ times_power 8 p = sym (ap (times_power 8) whole ∙ power_even 8 (p / 256)) in
    let before : times_power 128 (p / 256) ≡ times_power 8 (times_power 128 p) =
    ap (times_power 128) kept ∙ times_power-add 128 8 p ∙ sym (times_power-add 8 128 p) in
    let new : times_power 128 (s % 256 * 2 ^ 120) ≡ times_power 8 (s % 256) =
    sym (times_power-add 8 120 (s % 256 * 2 ^ 120)) ∙ ap (times_power 8) (power_even 120 (s % 256)) in
    ap (bit_xor (bit_xor (s / 256) v)) (times_power_xor 128 (p / 256) (s % 256 * 2 ^ 120)
    ∙ (λ i. bit_xor (before i) (new i)))
    ∙ turned (s / 256) v (times_power 8 (times_power 128 p)) (times_power 8 (s % 256))
    ∙ (λ i. bit_xor (bit_xor (sym (power_by_parts 8 s) i) (times_power 8 (times_power 128 p))) (is i))
    ∙ ap (λ (q : ℕ). bit_xor q (f t)) (sym (times_power_xor 8 s (times_power 128 p)) ∙ ap (times_power 8) so_far)
    ∙ horner-more f t

-- .. and its place was free
step_room : (m s p : ℕ) → m ≤ 15 → p % 2 ^ (8 * m + 8) ≡ 0
    → (p % 256 ≡ 0) × (bit_xor (p / 256) (s % 256 * 2 ^ 120) % 2 ^ (8 * m) ≡ 0)
step_room m s p few none =
    let both : (p / 256 % 2 ^ (8 * m)) * 256 + p % 256 ≡ 0 = sym (mod-pow-add p (8 * m) 8) ∙ none in
    let free : p / 256 % 2 ^ (8 * m) ≡ 0 = omega arith in
    let high : 120 ≡ 8 * (15 - m) + 8 * m = omega arith in
    let up : s % 256 * 2 ^ 120 ≡ s % 256 * 2 ^ (8 * (15 - m)) * 2 ^ (8 * m) =
    ap (λ (k : ℕ). s % 256 * 2 ^ k) high ∙ ap (λ (q : ℕ). s % 256 * q) (pow-add 2 (8 * (15 - m)) (8 * m))
    ∙ sym (mul_assoc (s % 256) (2 ^ (8 * (15 - m))) (2 ^ (8 * m))) in
    let above : s % 256 * 2 ^ 120 % 2 ^ (8 * m) ≡ 0 =
    ap (λ (q : ℕ). q % 2 ^ (8 * m)) up ∙ mul-mod_left (s % 256 * 2 ^ (8 * (15 - m))) (2 ^ (8 * m)) in (
      omega arith,
      xor_mod (p / 256) (s % 256 * 2 ^ 120) (8 * m) ∙ (λ i. bit_xor (free i) (above i)),
    )

pub put_off-more : (f : ℕ → ℕ) (t s p v : ℕ) → t < 16 → PutOff f t s p → v ≡ f t
    → PutOff f (t + 1) (bit_xor (s / 256) v) (bit_xor (p / 256) (s * 2 ^ 120 % 2 ^ 128))
put_off-more f t s p v h off is =
    let m : ℕ = 15 - t in
    let bits : 8 * (16 - t) ≡ 8 * m + 8 = omega arith in
    let left : 8 * m ≡ 8 * (16 - (t + 1)) = omega arith in
    let low : s % 256 * 2 ^ 120 ≡ s * 2 ^ 120 % 2 ^ 128 = omega arith in
    let room = step_room m s p (omega arith) (ap (λ (k : ℕ). p % 2 ^ k) (sym bits) ∙ off.room) in
    record {
      value = ap (λ (q : ℕ). bit_xor (bit_xor (s / 256) v) (times_power 128 (bit_xor (p / 256) q))) (sym low)
          ∙ step_value f t s p v off.value room.0 is;
      room = (λ i. bit_xor (p / 256) (sym low i) % 2 ^ sym left i) ∙ room.1;
    }

-- ---- the bytes of one number m, each moved by d bits

abbrev part : ℕ → ℕ → ℕ → ℕ
part m d t = byte_at t m * 2 ^ d

joined : (m d n : ℕ) → bit_xor (part m d n * 2 ^ (8 * n)) (m % 2 ^ (8 * n) * 2 ^ d) ≡ m % 2 ^ (8 * suc n) * 2 ^ d
joined m d n =
    let b : ℕ = byte_at n m in
    let low : ℕ = m % 2 ^ (8 * n) in
    let more : 8 + 8 * n ≡ 8 * suc n = omega arith in
    let swap : b * 2 ^ d * 2 ^ (8 * n) ≡ b * 2 ^ (8 * n) * 2 ^ d =
    mul_assoc b (2 ^ d) (2 ^ (8 * n)) ∙ ap (λ (q : ℕ). b * q) (mul_comm (2 ^ d) (2 ^ (8 * n)))
    ∙ sym (mul_assoc b (2 ^ (8 * n)) (2 ^ d)) in
    let place : b * 2 ^ (8 * n) * 2 ^ d ≡ b * 2 ^ (8 * n + d) =
    mul_assoc b (2 ^ (8 * n)) (2 ^ d) ∙ ap (λ (q : ℕ). b * q) (sym (pow-add 2 (8 * n) d)) in
    let small : low * 2 ^ d < 2 ^ (8 * n + d) =
    subst (λ (q : ℕ). low * 2 ^ d < q) (sym (pow-add 2 (8 * n) d))
    (mul-lt-mul_of_pos_right (mod-lt m (pow_pos (8 * n))) (pow_pos d)) in
    ap (λ (q : ℕ). bit_xor q (low * 2 ^ d)) (swap ∙ place)
    ∙ xor_shifted b (8 * n + d) (low * 2 ^ d) small
    ∙ ap (λ (q : ℕ). q + low * 2 ^ d) (sym place)
    ∙ sym (add-mul (b * 2 ^ (8 * n)) low (2 ^ d))
    ∙ ap (λ (q : ℕ). (q * 2 ^ (8 * n) + low) * 2 ^ d) (byte_is n m)
    ∙ ap (λ (q : ℕ). q * 2 ^ d) (sym (mod-pow-add m 8 (8 * n)))
    ∙ ap (λ (k : ℕ). m % 2 ^ k * 2 ^ d) more

last_byte : (m d n : ℕ) → times_power 8 (horner (part m d) n) ≡ times_power (8 * n) (m % 2 ^ (8 * n) * 2 ^ d)
    → horner (part m d) (suc n) ≡ times_power (8 * n) (m % 2 ^ (8 * suc n) * 2 ^ d)
unfolding horner
last_byte m d n so_far =
    let low : ℕ = m % 2 ^ (8 * n) * 2 ^ d in
    (λ i. bit_xor (so_far i) (sym (power_even (8 * n) (part m d n)) i))
    ∙ sym (times_power_xor (8 * n) low (part m d n * 2 ^ (8 * n)))
    ∙ ap (times_power (8 * n)) (xor_comm low (part m d n * 2 ^ (8 * n)) ∙ joined m d n)

so_many : (m d n : ℕ) → times_power 8 (horner (part m d) n) ≡ times_power (8 * n) (m % 2 ^ (8 * n) * 2 ^ d)
unfolding horner
so_many m d zero =
    let rest : m % 2 ^ (8 * 0) ≡ 0 = omega arith in
    let none : m % 2 ^ (8 * 0) * 2 ^ d ≡ 0 = ap (λ (q : ℕ). q * 2 ^ d) rest ∙ zero-mul (2 ^ d) in
    power_8-zero ∙ sym none ∙ sym (power_0 (m % 2 ^ (8 * 0) * 2 ^ d))
so_many m d (suc n) =
    let more : 8 + 8 * n ≡ 8 * suc n = omega arith in
    ap (times_power 8) (last_byte m d n (so_many m d n))
    ∙ times_power-add 8 (8 * n) (m % 2 ^ (8 * suc n) * 2 ^ d)
    ∙ ap (λ (k : ℕ). times_power k (m % 2 ^ (8 * suc n) * 2 ^ d)) more

-- all sixteen, moved by k bytes, put the number n bytes on
bytes_of_one : (m k n : ℕ) → m < 2 ^ 128 → n + k ≡ 15 → horner (part m (8 * k)) 16 ≡ times_power (8 * n) m
bytes_of_one m k n h e =
    let whole : m % 2 ^ (8 * 16) ≡ m = mod-eq_of_lt h in
    let steps : 8 * 15 ≡ 8 * n + 8 * k = omega arith in
    last_byte m (8 * k) 15 (so_many m (8 * k) 15)
    ∙ ap (λ (q : ℕ). times_power (8 * 15) (q * 2 ^ (8 * k))) whole
    ∙ ap (λ (j : ℕ). times_power j (m * 2 ^ (8 * k))) steps
    ∙ sym (times_power-add (8 * n) (8 * k) (m * 2 ^ (8 * k)))
    ∙ ap (times_power (8 * n)) (power_even (8 * k) m)

-- ---- the bytes of the multiples that a list of bytes picks

-- byte t of the multiple that x picks
abbrev pub picked_byte : ℕ → ℕ → ℕ → ℕ
picked_byte h t x = byte_at t (product_low 8 x h)

abbrev moved : ℕ → List ℕ → ℕ → ℕ → ℕ
moved h xs k t = number_l 256 (map (picked_byte h t) xs) * 2 ^ (8 * k)

byte_below : (t m : ℕ) → byte_at t m < 256
byte_below t m = omega (arith, byte_is t m)

-- the first of the lanes, apart
first_lane : (h : ℕ) (x : ℕ) (xs : List ℕ) (k t : ℕ) → moved h (x ∷ xs) k t
    ≡ bit_xor (part (product_low 8 x h) (8 * k) t) (moved h xs (suc k) t)
first_lane h x xs k t =
    let b : ℕ = picked_byte h t x in
    let n : ℕ = number_l 256 (map (picked_byte h t) xs) in
    let more : 8 * suc k ≡ 8 + 8 * k = omega arith in
    let wide : 2 ^ (8 * suc k) ≡ 256 * 2 ^ (8 * k) = ap (λ (j : ℕ). 2 ^ j) more ∙ pow-add 2 8 (8 * k) in
    let small : b * 2 ^ (8 * k) < 2 ^ (8 * suc k) =
    subst (λ (q : ℕ). b * 2 ^ (8 * k) < q) (sym wide)
    (mul-lt-mul_of_pos_right (byte_below t (product_low 8 x h)) (pow_pos (8 * k))) in
    let rest : 256 * n * 2 ^ (8 * k) ≡ n * 2 ^ (8 * suc k) =
    ap (λ (q : ℕ). q * 2 ^ (8 * k)) (mul_comm 256 n) ∙ mul_assoc n 256 (2 ^ (8 * k))
    ∙ ap (λ (q : ℕ). n * q) (sym wide) in
    let split : (b + 256 * n) * 2 ^ (8 * k) ≡ n * 2 ^ (8 * suc k) + b * 2 ^ (8 * k) =
    add-mul b (256 * n) (2 ^ (8 * k)) ∙ ap (λ (q : ℕ). b * 2 ^ (8 * k) + q) rest ∙ omega arith in
    split ∙ sym (xor_shifted n (8 * suc k) (b * 2 ^ (8 * k)) small)
    ∙ xor_comm (n * 2 ^ (8 * suc k)) (b * 2 ^ (8 * k))

none_moved : (h k : ℕ) → horner (moved h [] k) 16 ≡ 0
unfolding horner times_power times_a
none_moved h k = horner-same (moved h [] k) (λ t. 0) 16 (λ t. zero-mul (2 ^ (8 * k)))

no_bits : (x h : ℕ) → 0 ≡ product_low (8 * 0) x h
unfolding product_low
no_bits x h = refl

-- one byte more, the lowest
byte_more : (n x m h : ℕ) → x < 256 → bit_xor (times_power (8 * n) (product_low 8 x h)) (product_low (8 * n) m h)
    ≡ product_low (8 * suc n) (x + 256 * m) h
byte_more n x m h below =
    let y : ℕ = x + 256 * m in
    let low : y % 256 ≡ x = omega arith in
    let high : y / 256 ≡ m = omega arith in
    let more : 8 * n + 8 ≡ 8 * suc n = omega arith in
    let first : product_low 8 x h ≡ product_low 8 y h =
    ap (λ (q : ℕ). product_low 8 q h) (sym low) ∙ product_low-mod 8 y h in
    xor_comm (times_power (8 * n) (product_low 8 x h)) (product_low (8 * n) m h)
    ∙ (λ i. bit_xor (product_low (8 * n) (sym high i) h) (times_power (8 * n) (first i)))
    ∙ sym (product_low-add (8 * n) 8 y h)
    ∙ ap (λ (j : ℕ). product_low j y h) more

abbrev EachByte : List ℕ → Type 0
EachByte [] = ℕ
EachByte (x ∷ xs) = (x < 256) × EachByte xs

lanes_sum : (h : ℕ) (xs : List ℕ) (k : ℕ) → h < 2 ^ 128 → length xs + k ≡ 16 → EachByte xs
    → horner (moved h xs k) 16 ≡ product_low (8 * length xs) (number_l 256 xs) h
lanes_sum h [] k within e fits = none_moved h k ∙ no_bits (number_l 256 []) h
lanes_sum h (x ∷ xs) k within e fits =
    let m : ℕ = product_low 8 x h in
    let rest : length xs + suc k ≡ 16 = omega (arith, e) in
    let first : length xs + k ≡ 15 = omega (arith, e) in
    horner-same (moved h (x ∷ xs) k) (λ t. bit_xor (part m (8 * k) t) (moved h xs (suc k) t)) 16 (first_lane h x xs k)
    ∙ horner-xor (part m (8 * k)) (moved h xs (suc k)) 16
    ∙ (λ i. bit_xor (bytes_of_one m k (length xs) (product_low-lt 8 x h within) first i)
    (lanes_sum h xs (suc k) within rest fits.1 i))
    ∙ byte_more (length xs) x (number_l 256 xs) h fits.0

each_digit : (n x : ℕ) → EachByte (digits_l 256 n x)
each_digit zero x = 0
each_digit (suc n) x = (omega arith, each_digit n (x / 256))

length-digits : (n x : ℕ) → length (digits_l 256 n x) ≡ n
length-digits zero x = refl
length-digits (suc n) x = ap suc (length-digits n (x / 256))

-- the numbers that Horner's rule works off
abbrev pub number_at : ℕ → ℕ → ℕ → ℕ
number_at h x t = number_l 256 (map (picked_byte h t) (digits_l 256 16 x))

pub horner_is_product : (h x : ℕ) → h < 2 ^ 128 → x < 2 ^ 128 → horner (number_at h x) 16 ≡ block_product x h
horner_is_product h x within below =
    let v : List ℕ = digits_l 256 16 x in
    let same : (t : ℕ) → number_at h x t ≡ moved h v 0 t = λ t. omega arith in
    let eight : 8 * length v ≡ 128 = omega arith in
    horner-same (number_at h x) (moved h v 0) 16 same
    ∙ lanes_sum h v 0 within (omega (arith, length-digits 16 x)) (each_digit 16 x)
    ∙ (λ i. product_low (eight i) (number_of_digits 16 x below i) h)
    ∙ sym (product_is x h)

number_below : (v : List ℕ) → Each1 (Fits w8) v → number_l 256 v < 2 ^ (8 * length v)
number_below [] h = omega arith
number_below (x ∷ v) h =
    let more : 8 * suc (length v) ≡ 8 * length v + 8 = omega arith in
    let wide : 2 ^ (8 * suc (length v)) ≡ 2 ^ (8 * length v) * 256 =
    ap (λ (k : ℕ). 2 ^ k) more ∙ pow-add 2 (8 * length v) 8 in
    omega (arith, wide, number_below v h.1, h.0.fits)

pub number-lt : (v : List ℕ) → IsBlock v → number_l 256 v < 2 ^ 128
number-lt v fits =
    let whole : 8 * length v ≡ 128 = omega (arith, fits.0) in
    subst (λ (k : ℕ). number_l 256 v < 2 ^ k) whole (number_below v fits.1)

-- the multiple that a byte picks, by its halves
pub byte_of_both : (h t b : ℕ) → bit_xor (byte_at t (product_low 4 (b / 16) h))
    (byte_at t (product_low 4 (b % 16) (times_power 4 h))) ≡ picked_byte h t b
byte_of_both h t b =
    let far : product_low 4 (b % 16) (times_power 4 h) ≡ times_power 4 (product_low 4 b h) =
    product_low-mod 4 b (times_power 4 h) ∙ product_low_power 4 b 4 h in
    ap (λ (q : ℕ). bit_xor (byte_at t (product_low 4 (b / 16) h)) (byte_at t q)) far
    ∙ sym (byte_xor t (product_low 4 (b / 16) h) (times_power 4 (product_low 4 b h)))
    ∙ ap (byte_at t) (sym (product_low-add 4 4 b h))

-- ---- a row of the multiples

-- b, where n has bit k
abbrev pub masked : ℕ → ℕ → ℕ → ℕ
masked n k b = bit_and (bit_at n k * 255) b

pub mask_is : (c b : ℕ) → c < 2 → b < 256 → bit_and (c * 255) b ≡ scale c b
mask_is zero b h fits = equal_below (λ k. bit_and 0 k) (λ k. 0) 256 b refl fits
mask_is (suc zero) b h fits = equal_below (λ k. bit_and 255 k) (λ k. k) 256 b refl fits
mask_is (suc (suc c)) b h fits = absurd (omega arith)

byte_scale : (c t m : ℕ) → scale c (byte_at t m) ≡ byte_at t (scale c m)
byte_scale zero t m = sym (byte_is t 0 ∙ omega arith)
byte_scale (suc c) t m = refl

-- byte t of a multiple of h, by that of h and of its products with a, a^2 and a^3
pub byte_of_multiple : (n h p q r t : ℕ) → p ≡ times_a h → q ≡ times_a p → r ≡ times_a q
    → bit_xor (scale (bit_at n 3) (byte_at t h)) (bit_xor (scale (bit_at n 2) (byte_at t p))
    (bit_xor (scale (bit_at n 1) (byte_at t q)) (scale (bit_at n 0) (byte_at t r))))
    ≡ byte_at t (product_low 4 n h)
byte_of_multiple n h p q r t ep eq er =
    let s : ℕ → ℕ → ℕ = λ (k m : ℕ). scale (bit_at n k) m in
    let moved_in : (k m : ℕ) → s k (byte_at t m) ≡ byte_at t (s k m) = λ k m. byte_scale (bit_at n k) t m in
    let eq2 : q ≡ times_a (times_a h) = eq ∙ ap times_a ep in
    let er2 : r ≡ times_a (times_a (times_a h)) = er ∙ ap times_a eq2 in
    (λ i. bit_xor (moved_in 3 h i) (bit_xor (moved_in 2 p i) (bit_xor (moved_in 1 q i) (moved_in 0 r i))))
    ∙ ap (λ (b : ℕ). bit_xor (byte_at t (s 3 h)) (bit_xor (byte_at t (s 2 p)) b)) (sym (byte_xor t (s 1 q) (s 0 r)))
    ∙ ap (bit_xor (byte_at t (s 3 h))) (sym (byte_xor t (s 2 p) (bit_xor (s 1 q) (s 0 r))))
    ∙ sym (byte_xor t (s 3 h) (bit_xor (s 2 p) (bit_xor (s 1 q) (s 0 r))))
    ∙ (λ i. byte_at t (bit_xor (s 3 h) (bit_xor (s 2 (ep i)) (bit_xor (s 1 (eq2 i)) (s 0 (er2 i))))))
    ∙ ap (byte_at t) (sym (product_low-four n h))

-- ---- rows in a table of 256 bytes

-- the table with a row from place a on
abbrev pub with_row : List ℕ → List ℕ → ℕ → List ℕ
with_row xs row a = put_mid a (256 - a) xs (put_chunk 0 (take (256 - a) (drop a xs)) row)

pub row_before : (xs row : List ℕ) (a i : ℕ) → length xs ≡ 256 → a + 16 ≤ 256 → i < a
    → get_or (with_row xs row a) i 0 ≡ get_or xs i 0
row_before xs row a i long room before =
    let front : length (take a xs) ≡ a = length-take-le a xs (omega arith) in
    get_or_append_left (take a xs) _ 0 i (omega arith) ∙ get_or-take a xs i 0 before

pub row_there : (xs row : List ℕ) (a n : ℕ) → length xs ≡ 256 → a + 16 ≤ 256 → length row ≡ 16 → n < 16
    → get_or (with_row xs row a) (a + n) 0 ≡ get_or row n 0
row_there xs row a n long room whole within =
    let rest : List ℕ = take (256 - a) (drop a xs) in
    let front : length (take a xs) ≡ a = length-take-le a xs (omega arith) in
    let behind : length rest ≡ 256 - a = length-take-le (256 - a) (drop a xs) (omega (arith, length-drop a xs)) in
    let at : a + n - a ≡ 0 + n = omega arith in
    get_or-append_right (take a xs) _ a (a + n) 0 front (omega arith)
    ∙ ap (λ (k : ℕ). get_or (put_chunk 0 rest row ++ post_of a (256 - a) xs) k 0) at
    ∙ get_or_append_left (put_chunk 0 rest row) _ 0 (0 + n) (omega (arith, length-put_chunk 0 rest row))
    ∙ get_or-put_chunk_at 0 rest row n 0 (omega arith) (omega arith)

-- a row that is read
pub row_read : (xs : List ℕ) (a n : ℕ) → length xs ≡ 256 → a + 16 ≤ 256 → n < 16
    → get_or (chunk 0 16 (take (256 - a) (drop a xs))) n 0 ≡ get_or xs (a + n) 0
row_read xs a n long room within =
    get_or-chunk 0 16 (take (256 - a) (drop a xs)) n 0 within
    ∙ get_or-take (256 - a) (drop a xs) (0 + n) 0 (omega arith) ∙ get_or-drop a xs (0 + n) 0
    ∙ ap (λ (k : ℕ). get_or xs k 0) (omega arith)
