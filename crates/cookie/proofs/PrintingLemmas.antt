-- The base64 of 32 bytes, by three registers.
use Rattle.std.proofs.Common.{◌≡◌, ℕ, zero, suc, ◌+◌, ◌-◌, ◌*◌, ◌/◌, ◌%◌, ◌^◌, ◌<◌, true, eqb, ltb, List, [], ◌∷◌, ◌++◌}
use Rattle.std.proofs.Common.{map, length, take, drop, drop-cons, get_or, replicate, bit_and, refl, sym, ap, ◌∙◌, arith}
use Rattle.std.proofs.Common.{w8, Fits, if◌then◌else◌}
use Rattle.std.proofs.lemmas.Bool.{agree_below, agree_below_at, eqb-true}
use Rattle.std.proofs.lemmas.List.{length-map, drop_all}
use Rattle.std.proofs.lemmas.Nat.{and_mask}
use Rattle.std.proofs.lemmas.Bool.Decides.{nat_tests}
use Rattle.std.proofs.lemmas.Simd.{map-map, zip2_splat}
use Rattle.std.specs.Simd.Lanes.{digits_l, number_l}
use lib.Lanes.{zip2, Each1}
use Rattle.base64.specs.Engines.{standard}
use Rattle.base64.specs.Rfc4648.{encode_symbols}
use Rattle.cookie.specs.Base64.{base64}
use Rattle.cookie.specs.Base64Steps.{over, sextets, symbol}

-- ---- steps on the lanes of a register, as one function on each

abbrev pub plus : ℕ → ℕ → ℕ
plus a b = (a + b) % 256

abbrev pub minus : ℕ → ℕ → ℕ
minus a b = (a + (256 - b)) % 256

abbrev pub down : ℕ → ℕ → ℕ
down a b = a / 2 ^ b

map_map : (f g : ℕ → ℕ) (xs : List ℕ) → map f (map g xs) ≡ map (λ x. f (g x)) xs
map_map f g [] = refl
map_map f g (x ∷ xs) = ap (λ (l : List ℕ). f (g x) ∷ l) (map_map f g xs)

pub map_whole : (vs : List ℕ) → vs ≡ map (λ b. b) vs
map_whole [] = refl
map_whole (v ∷ vs) = ap (λ (l : List ℕ). v ∷ l) (map_whole vs)

-- an operator with the same number in each lane
pub with_splat : (f : ℕ → ℕ → ℕ) (g : ℕ → ℕ) (vs xs : List ℕ) (y : ℕ) → length vs ≡ 16 → xs ≡ map g vs
    → zip2 f xs (replicate 16 y) ≡ map (λ b. f (g b) y) vs
with_splat f g vs xs y long e =
    ap (λ (l : List ℕ). zip2 f l (replicate 16 y)) e ∙ zip2_splat f (map g vs) 16 y (length-map vs g ∙ long)
    ∙ map_map (λ x. f x y) g vs

-- two functions that agree on what has six bits
pub map_same : (f g : ℕ → ℕ) (vs : List ℕ) → ((n : ℕ) → n < 64 → f n ≡ g n) → ((k : ℕ) → get_or vs k 0 < 64)
    → map f vs ≡ map g vs
map_same f g [] same h = refl
map_same f g (v ∷ vs) same h = λ i. same v (h 0) i ∷ map_same f g vs same (λ k. h (suc k)) i

-- ---- symbols

pub over_is : (last n : ℕ) → last < 64 → n < 64 → minus 0 (down (plus n (127 - last)) 7) ≡ over last n
over_is last n hl hn = grind (arith, nat_tests)

abbrev pub summed : ℕ → ℕ
summed n = plus
    (minus
    (minus (plus (plus n 65) (bit_and (over 25 n) 6)) (bit_and (over 51 n) 75))
    (bit_and (over 61 n) 15))
    (bit_and (over 62 n) 3)

pub summed_is : (n : ℕ) → n < 64 → summed n ≡ symbol n
summed_is n h = eqb-true (summed n) (symbol n)
    (agree_below_at (λ i. eqb (summed i) (symbol i)) (λ i. true) 64 n refl h)

-- ---- sextets

-- four sextets as the bytes of a number, of which the first is the lowest
abbrev pub packed : ℕ → ℕ
packed x = ((bit_and (x / 2 ^ 18) 63 + bit_and (x / 2 ^ 12) 63 * 2 ^ 8 % 2 ^ 32) % 2 ^ 32
    + (bit_and (x / 2 ^ 6) 63 * 2 ^ 16 % 2 ^ 32 + bit_and x 63 * 2 ^ 24 % 2 ^ 32) % 2 ^ 32) % 2 ^ 32

abbrev pub word : ℕ → ℕ → ℕ → ℕ → ℕ
word a b c d = number_l 256 (c ∷ b ∷ a ∷ d ∷ [])

packed_is : (a b c d : ℕ) → a < 256 → b < 256 → c < 256 → d < 256
    → packed (word a b c d) ≡ a / 4 + (a % 4 * 16 + b / 16) * 256 + (b % 16 * 4 + c / 64) * 65536 + c % 64 * 16777216
packed_is a b c d ha hb hc hd =
    let x : ℕ = word a b c d in
    let first : bit_and (x / 2 ^ 18) 63 ≡ a / 4 = and_mask (x / 2 ^ 18) 6 ∙ omega arith in
    let second : bit_and (x / 2 ^ 12) 63 ≡ a % 4 * 16 + b / 16 = and_mask (x / 2 ^ 12) 6 ∙ omega arith in
    let third : bit_and (x / 2 ^ 6) 63 ≡ b % 16 * 4 + c / 64 = and_mask (x / 2 ^ 6) 6 ∙ omega arith in
    let fourth : bit_and x 63 ≡ c % 64 = and_mask x 6 ∙ omega arith in
    (λ i. ((first i + second i * 2 ^ 8 % 2 ^ 32) % 2 ^ 32
    + (third i * 2 ^ 16 % 2 ^ 32 + fourth i * 2 ^ 24 % 2 ^ 32) % 2 ^ 32) % 2 ^ 32)
    ∙ omega arith

pub four : (a b c d : ℕ) → a < 256 → b < 256 → c < 256 → d < 256
    → (packed (word a b c d) % 256 ≡ a / 4)
    × (packed (word a b c d) / 256 % 256 ≡ a % 4 * 16 + b / 16)
    × (packed (word a b c d) / 256 / 256 % 256 ≡ b % 16 * 4 + c / 64)
    × (packed (word a b c d) / 256 / 256 / 256 % 256 ≡ c % 64)
four a b c d ha hb hc hd =
    let y : ℕ = a / 4 + (a % 4 * 16 + b / 16) * 256 + (b % 16 * 4 + c / 64) * 65536 + c % 64 * 16777216 in
    let e = packed_is a b c d ha hb hc hd in (
      ap (λ (q : ℕ). q % 256) e ∙ omega arith,
      ap (λ (q : ℕ). q / 256 % 256) e ∙ omega arith,
      ap (λ (q : ℕ). q / 256 / 256 % 256) e ∙ omega arith,
      ap (λ (q : ℕ). q / 256 / 256 / 256 % 256) e ∙ omega arith,
    )

-- the entries from i on
abbrev pub listing : ℕ → ℕ → List ℕ → List ℕ
listing i zero xs = []
listing i (suc n) xs = get_or xs i 0 ∷ listing (suc i) n xs

pub listing_is : (n i : ℕ) (xs : List ℕ) → i + n ≡ length xs → listing i n xs ≡ drop i xs
listing_is zero i xs e = sym (drop_all i xs (omega arith))
listing_is (suc n) i xs e =
    ap (λ (q : List ℕ). get_or xs i 0 ∷ q) (listing_is n (suc i) xs (omega arith))
    ∙ sym (drop-cons xs i 0 (omega arith))

-- the first lane of 32 bits, of four bytes
first_lane : (a b c d n : ℕ) (rest : List ℕ) → a < 256 → b < 256 → c < 256 → d < 256
    → digits_l (2 ^ 32) (suc n) (number_l 256 (c ∷ b ∷ a ∷ d ∷ rest))
    ≡ word a b c d ∷ digits_l (2 ^ 32) n (number_l 256 rest)
first_lane a b c d n rest ha hb hc hd =
    let r : ℕ = number_l 256 rest in
    let x : ℕ = number_l 256 (c ∷ b ∷ a ∷ d ∷ rest) in
    let low : x % 4294967296 ≡ word a b c d = omega arith in
    let high : x / 4294967296 ≡ r = omega arith in
    λ i. low i ∷ digits_l (2 ^ 32) n (high i)

-- the bytes of the first lane
first_bytes : (p n r : ℕ) → p < 4294967296
    → digits_l 256 (suc (suc (suc (suc n)))) (p + 2 ^ 32 * r)
    ≡ (p % 256) ∷ (p / 256 % 256) ∷ (p / 256 / 256 % 256) ∷ (p / 256 / 256 / 256 % 256) ∷ digits_l 256 n r
first_bytes p n r h =
    let x : ℕ = p + 4294967296 * r in
    let zeroth : x % 256 ≡ p % 256 = omega arith in
    let first : x / 256 % 256 ≡ p / 256 % 256 = omega arith in
    let second : x / 256 / 256 % 256 ≡ p / 256 / 256 % 256 = omega arith in
    let third : x / 256 / 256 / 256 % 256 ≡ p / 256 / 256 / 256 % 256 = omega arith in
    let rest : x / 256 / 256 / 256 / 256 ≡ r = omega arith in
    λ i. zeroth i ∷ first i ∷ second i ∷ third i ∷ digits_l 256 n (rest i)

-- the bytes in the order of their groups
abbrev pub grouped : List ℕ → List ℕ
grouped v = get_or v 2 0 ∷ get_or v 1 0 ∷ get_or v 0 0 ∷ get_or v 3 0 ∷ get_or v 5 0 ∷ get_or v 4 0 ∷ get_or v 3 0
    ∷ get_or v 6 0 ∷ get_or v 8 0 ∷ get_or v 7 0 ∷ get_or v 6 0 ∷ get_or v 9 0 ∷ get_or v 11 0 ∷ get_or v 10 0
    ∷ get_or v 9 0 ∷ get_or v 12 0 ∷ []

abbrev pub packed_bytes : List ℕ → List ℕ
packed_bytes v = digits_l 256 16 (number_l (2 ^ 32) (map packed (digits_l (2 ^ 32) 4 (number_l 256 (grouped v)))))

packed-lt : (x : ℕ) → packed x < 4294967296
packed-lt x = omega arith

abbrev bytes_of : ℕ → List ℕ → List ℕ
bytes_of p rest = (p % 256) ∷ (p / 256 % 256) ∷ (p / 256 / 256 % 256) ∷ (p / 256 / 256 / 256 % 256) ∷ rest

group_is : (a b c d : ℕ) (rest : List ℕ) → a < 256 → b < 256 → c < 256 → d < 256
    → bytes_of (packed (word a b c d)) rest
    ≡ (a / 4) ∷ (a % 4 * 16 + b / 16) ∷ (b % 16 * 4 + c / 64) ∷ (c % 64) ∷ rest
group_is a b c d rest ha hb hc hd =
    let e = four a b c d ha hb hc hd in
    λ i. e.0 i ∷ e.1 i ∷ e.2 i ∷ e.3 i ∷ rest

pub packed_bytes_are : (v : List ℕ) → ((k : ℕ) → get_or v k 0 < 256)
    → packed_bytes v ≡ sextets (listing 0 12 v)
unfolding sextets
packed_bytes_are v h =
    let b : ℕ → ℕ = λ k. get_or v k 0 in
    let w0 : ℕ = word (b 0) (b 1) (b 2) (b 3) in
    let w1 : ℕ = word (b 3) (b 4) (b 5) (b 6) in
    let w2 : ℕ = word (b 6) (b 7) (b 8) (b 9) in
    let w3 : ℕ = word (b 9) (b 10) (b 11) (b 12) in
    let r3 : List ℕ = b 11 ∷ b 10 ∷ b 9 ∷ b 12 ∷ [] in
    let r2 : List ℕ = b 8 ∷ b 7 ∷ b 6 ∷ b 9 ∷ r3 in
    let r1 : List ℕ = b 5 ∷ b 4 ∷ b 3 ∷ b 6 ∷ r2 in
    let lanes : digits_l (2 ^ 32) 4 (number_l 256 (grouped v)) ≡ w0 ∷ w1 ∷ w2 ∷ w3 ∷ [] =
    first_lane (b 0) (b 1) (b 2) (b 3) 3 r1 (h 0) (h 1) (h 2) (h 3)
    ∙ ap (λ (l : List ℕ). w0 ∷ l) (first_lane (b 3) (b 4) (b 5) (b 6) 2 r2 (h 3) (h 4) (h 5) (h 6)
    ∙ ap (λ (l : List ℕ). w1 ∷ l) (first_lane (b 6) (b 7) (b 8) (b 9) 1 r3 (h 6) (h 7) (h 8) (h 9)
    ∙ ap (λ (l : List ℕ). w2 ∷ l) (first_lane (b 9) (b 10) (b 11) (b 12) 0 [] (h 9) (h 10) (h 11) (h 12)))) in
    let bytes : digits_l 256 16 (number_l (2 ^ 32) (packed w0 ∷ packed w1 ∷ packed w2 ∷ packed w3 ∷ []))
    ≡ bytes_of (packed w0) (bytes_of (packed w1) (bytes_of (packed w2) (bytes_of (packed w3) []))) =
    first_bytes (packed w0) 12 _ (packed-lt w0)
    ∙ ap (bytes_of (packed w0)) (first_bytes (packed w1) 8 _ (packed-lt w1)
    ∙ ap (bytes_of (packed w1)) (first_bytes (packed w2) 4 _ (packed-lt w2)
    ∙ ap (bytes_of (packed w2)) (first_bytes (packed w3) 0 0 (packed-lt w3)))) in
    let group : ℕ → ℕ → ℕ → List ℕ → List ℕ = λ p q r rest.
    (p / 4) ∷ (p % 4 * 16 + q / 16) ∷ (q % 16 * 4 + r / 64) ∷ (r % 64) ∷ rest in
    ap (λ (l : List ℕ). digits_l 256 16 (number_l (2 ^ 32) (map packed l))) lanes ∙ bytes
    ∙ group_is (b 0) (b 1) (b 2) (b 3) _ (h 0) (h 1) (h 2) (h 3)
    ∙ ap (group (b 0) (b 1) (b 2)) (group_is (b 3) (b 4) (b 5) (b 6) _ (h 3) (h 4) (h 5) (h 6)
    ∙ ap (group (b 3) (b 4) (b 5)) (group_is (b 6) (b 7) (b 8) (b 9) _ (h 6) (h 7) (h 8) (h 9)
    ∙ ap (group (b 6) (b 7) (b 8)) (group_is (b 9) (b 10) (b 11) (b 12) [] (h 9) (h 10) (h 11) (h 12))))

-- a sextet has six bits
pub sextets-lt : (xs : List ℕ) → ((k : ℕ) → get_or xs k 0 < 256) → (k : ℕ) → get_or (sextets xs) k 0 < 64
unfolding sextets
sextets-lt [] h k = omega arith
sextets-lt (a ∷ []) h k = omega arith
sextets-lt (a ∷ b ∷ []) h k = omega arith
sextets-lt (a ∷ b ∷ c ∷ rest) h zero = let ha : a < 256 = h 0 in omega arith
sextets-lt (a ∷ b ∷ c ∷ rest) h (suc zero) = let hb : b < 256 = h 1 in omega arith
sextets-lt (a ∷ b ∷ c ∷ rest) h (suc (suc zero)) = let hc : c < 256 = h 2 in omega arith
sextets-lt (a ∷ b ∷ c ∷ rest) h (suc (suc (suc zero))) = omega arith
sextets-lt (a ∷ b ∷ c ∷ rest) h (suc (suc (suc (suc k)))) = sextets-lt rest (λ j. h (suc (suc (suc j)))) k

-- each lane of a register of bytes is one
pub lane_fits : (vs : List ℕ) (k : ℕ) → Each1 (Fits w8) vs → get_or vs k 0 < 256
lane_fits [] k h = omega arith
lane_fits (v ∷ vs) zero h = h.0.fits
lane_fits (v ∷ vs) (suc k) h = lane_fits vs k h.1

pub take-lt : (n : ℕ) (xs : List ℕ) → ((k : ℕ) → get_or xs k 0 < 256) → (k : ℕ) → get_or (take n xs) k 0 < 256
take-lt zero xs h k = omega arith
take-lt (suc n) [] h k = omega arith
take-lt (suc n) (x ∷ xs) h zero = h 0
take-lt (suc n) (x ∷ xs) h (suc k) = take-lt n xs (λ j. h (suc j)) k

-- ---- a code of 32 bytes: two registers of twelve, and one of eight with zeros behind them

abbrev pub symbols_of : List ℕ → List ℕ
symbols_of bytes = map symbol (sextets (take 12 bytes))

abbrev pub last_eight : List ℕ → List ℕ
last_eight v =
    let r : List ℕ = take 16 (take 16 (drop 16 v)) ++ replicate 16 0 in
    get_or r 8 0 ∷ get_or r 9 0 ∷ get_or r 10 0 ∷ get_or r 11 0 ∷ get_or r 12 0 ∷ get_or r 13 0 ∷ get_or r 14 0
    ∷ get_or r 15 0 ∷ get_or r 16 0 ∷ get_or r 16 0 ∷ get_or r 16 0 ∷ get_or r 16 0 ∷ get_or r 16 0 ∷ get_or r 16 0
    ∷ get_or r 16 0 ∷ get_or r 16 0 ∷ []

abbrev pub by_registers : List ℕ → List ℕ
by_registers v = symbols_of (take 16 v)
    ++ (symbols_of (take 16 (take 20 (drop 12 v))) ++ (take 11 (symbols_of (last_eight v)) ++ 61 ∷ []))

-- the last group of four, whose third symbol has two bits of no byte
abbrev ended : List ℕ → ℕ → List ℕ
ended v third = encode_symbols standard.encode_table (listing 0 30 v)
    ++ (symbol (get_or v 30 0 / 4) ∷ symbol (get_or v 30 0 % 4 * 16 + get_or v 31 0 / 16) ∷ symbol third ∷ 61 ∷ [])

pub by_registers_is : (v : List ℕ) → by_registers (listing 0 32 v) ≡ base64 (listing 0 32 v)
unfolding sextets encode_symbols
by_registers_is v =
    let third : ℕ = get_or v 31 0 % 16 * 4 in
    let none : third + 0 / 64 ≡ third = omega arith in
    let left : by_registers (listing 0 32 v) ≡ ended v (third + 0 / 64) = refl in
    let right : ended v third ≡ base64 (listing 0 32 v) = refl in
    left ∙ ap (ended v) none ∙ right
