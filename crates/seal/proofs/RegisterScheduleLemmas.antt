-- The key schedule, four words at a time.
use Rattle.std.proofs.Common.{◌≡◌, ℕ, ◌+◌, ◌-◌, ◌*◌, ◌/◌, ◌%◌, ◌<◌, ◌≤◌, List, [], ◌∷◌, ◌++◌, length, get_or, take}
use Rattle.std.proofs.Common.{drop}
use Rattle.std.proofs.Common.{Bool, true, false, eqb, if◌then◌else◌, map, refl, ap, sym, ◌∙◌, arith, bit_xor, add-one}
use Rattle.std.proofs.Common.{lit<, length-append, length-take, subst}
use Rattle.std.proofs.lemmas.Bool.{ne_eqb}
use Rattle.std.proofs.lemmas.List.{append_assoc, get_or-take, get_or-drop, get_or_append_left, get_or-append_right}
use Rattle.std.specs.Int.Bits.{xor_assoc, xor_zero_r}
use Rattle.std.specs.List.{slice_range}
use lib.Lanes.{zip2}
use Rattle.seal.specs.Bytes.{xor_bytes}
use Rattle.seal.specs.Field.{s_box}
use Rattle.seal.specs.Aes.{key_step_at, key_step, word, with_word, schedule, rot_word, sub_word, x_power}
use Rattle.seal.specs.Registers.{looked_up}
use Rattle.seal.specs.declared.register_aes.TheConstants.{ONE_WORD_ON, TWO_WORDS_ON}
use Rattle.seal.specs.declared.register_aes.TheConstants.{LAST_WORD, LAST_WORD_TURNED}
use Rattle.seal.proofs.ByteLists.{listing, listing_is, length-xor_bytes}

-- ---- the words of a list with one more behind it

word-front : (s b : List ℕ) (k : ℕ) → 4 * k + 4 ≤ length s → word (s ++ b) k ≡ word s k
word-front s b k h =
    let at : (r : ℕ) → r < 4 → get_or (s ++ b) (4 * k + r) 0 ≡ get_or s (4 * k + r) 0 =
    λ r within. get_or_append_left s b 0 (4 * k + r) (omega arith) in
    λ j. at 0 (lit< tt) j ∷ at 1 (lit< tt) j ∷ at 2 (lit< tt) j ∷ at 3 (lit< tt) j ∷ []

word-last : (s b : List ℕ) (k : ℕ) → length s ≡ 4 * k → length b ≡ 4 → word (s ++ b) k ≡ b
word-last s b k h four =
    let back : (r : ℕ) → 4 * k + r - 4 * k ≡ r = λ r. omega arith in
    let at : (r : ℕ) → get_or (s ++ b) (4 * k + r) 0 ≡ get_or b r 0 =
    λ r. get_or-append_right s b (4 * k) (4 * k + r) 0 h (omega arith) ∙ ap (λ (n : ℕ). get_or b n 0) (back r) in
    (λ j. at 0 j ∷ at 1 j ∷ at 2 j ∷ at 3 j ∷ []) ∙ listing_is 4 0 b (omega arith)

-- one word more: a is the word eight before it, and t what is added to that
one_word : (key s a t : List ℕ) (n : ℕ) → s ≡ schedule key n → a ≡ word s n → t ≡ key_step (n + 8) (word s (n + 7))
    → s ++ xor_bytes a t ≡ schedule key (n + 1)
unfolding schedule
one_word key s a t n so_far old added =
    let before : n ≡ n + 8 - 8 = omega arith in
    let last : n + 7 ≡ n + 8 - 1 = omega arith in
    let old_is : a ≡ word s (n + 8 - 8) = old ∙ ap (word s) before in
    let added_is : t ≡ key_step (n + 8) (word s (n + 8 - 1)) =
    added ∙ ap (λ (k : ℕ). key_step (n + 8) (word s k)) last in
    (λ i. s ++ xor_bytes (old_is i) (added_is i)) ∙ ap (λ (q : List ℕ). with_word q (n + 8)) so_far
    ∙ ap (schedule key) (sym (add-one n))

-- nothing is done to the word before one that stands at no fourth place
plain : (b d : Bool) (n : ℕ) (t : List ℕ) → b ≡ false → d ≡ false
    → (if b then xor_bytes (sub_word (rot_word t)) (x_power n ∷ 0 ∷ 0 ∷ 0 ∷ []) else (if d then sub_word t else t)) ≡ t
plain true d n t eb ed = cc eb
plain false true n t eb ed = cc ed
plain false false n t eb ed = refl

-- .. which stands behind all others
word_at : (s b : List ℕ) (k n : ℕ) → length s ≡ 4 * k → length b ≡ 4 → k ≡ n + 7 → 0 < n % 4
    → key_step (n + 8) (word (s ++ b) (n + 7)) ≡ b
word_at s b k n long four is within =
    let not_0 : ¬ ((n + 8) % 8 ≡ 0) = λ e. omega arith in
    let not_4 : ¬ ((n + 8) % 8 ≡ 4) = λ e. omega arith in
    let last : word (s ++ b) (n + 7) ≡ b = ap (word (s ++ b)) (sym is) ∙ word-last s b k long four in
    ap (key_step (n + 8)) last
    ∙ plain (eqb ((n + 8) % 8) 0) (eqb ((n + 8) % 8) 4) ((n + 8) / 8 - 1) b (ne_eqb _ _ not_0) (ne_eqb _ _ not_4)

-- ---- four words more

four_words : (key s a b d e t : List ℕ) (n : ℕ) → s ≡ schedule key n → n % 4 ≡ 0 → length s ≡ 4 * (n + 8)
    → length a ≡ 4 → length b ≡ 4 → length d ≡ 4 → length e ≡ 4 → length t ≡ 4
    → a ≡ word s n → b ≡ word s (n + 1) → d ≡ word s (n + 2) → e ≡ word s (n + 3)
    → t ≡ key_step (n + 8) (word s (n + 7))
    → s ++ (xor_bytes a t ++ (xor_bytes b (xor_bytes a t) ++ (xor_bytes d (xor_bytes b (xor_bytes a t))
    ++ xor_bytes e (xor_bytes d (xor_bytes b (xor_bytes a t))))))
    ≡ schedule key (n + 4)
four_words key s a b d e t n so_far whole long la lb ld le lt a_is b_is d_is e_is t_is =
    let w0 : List ℕ = xor_bytes a t in
    let w1 : List ℕ = xor_bytes b w0 in
    let w2 : List ℕ = xor_bytes d w1 in
    let w3 : List ℕ = xor_bytes e w2 in
    let l0 : length w0 ≡ 4 = length-xor_bytes a t (omega arith) ∙ la in
    let l1 : length w1 ≡ 4 = length-xor_bytes b w0 (omega arith) ∙ lb in
    let l2 : length w2 ≡ 4 = length-xor_bytes d w1 (omega arith) ∙ ld in
    let s0 : List ℕ = s ++ w0 in
    let s1 : List ℕ = s0 ++ w1 in
    let s2 : List ℕ = s1 ++ w2 in
    let k0 : length s0 ≡ 4 * (n + 9) = omega (arith, length-append s w0) in
    let k1 : length s1 ≡ 4 * (n + 10) = omega (arith, length-append s0 w1) in
    let k2 : length s2 ≡ 4 * (n + 11) = omega (arith, length-append s1 w2) in
    let e0 : s0 ≡ schedule key (n + 1) = one_word key s a t n so_far a_is t_is in
    let e1 : s1 ≡ schedule key (n + 1 + 1) =
    one_word key s0 b w0 (n + 1) e0 (b_is ∙ sym (word-front s w0 (n + 1) (omega arith)))
    (sym (word_at s w0 (n + 8) (n + 1) long l0 (omega arith) (omega arith))) in
    let e2 : s2 ≡ schedule key (n + 1 + 1 + 1) =
    one_word key s1 d w1 (n + 1 + 1) e1
    (d_is ∙ sym (word-front s w0 (n + 2) (omega arith)) ∙ sym (word-front s0 w1 (n + 2) (omega arith))
    ∙ ap (word s1) (omega arith))
    (sym (word_at s0 w1 (n + 9) (n + 1 + 1) k0 l1 (omega arith) (omega arith))) in
    let e3 : s2 ++ w3 ≡ schedule key (n + 1 + 1 + 1 + 1) =
    one_word key s2 e w2 (n + 1 + 1 + 1) e2
    (e_is ∙ sym (word-front s w0 (n + 3) (omega arith)) ∙ sym (word-front s0 w1 (n + 3) (omega arith))
    ∙ sym (word-front s1 w2 (n + 3) (omega arith)) ∙ ap (word s2) (omega arith))
    (sym (word_at s1 w2 (n + 10) (n + 1 + 1 + 1) k1 l2 (omega arith) (omega arith))) in
    let count : n + 1 + 1 + 1 + 1 ≡ n + 4 = omega arith in
    sym (append_assoc s w0 (w1 ++ (w2 ++ w3))) ∙ sym (append_assoc s0 w1 (w2 ++ w3)) ∙ sym (append_assoc s1 w2 w3)
    ∙ e3 ∙ ap (schedule key) count

-- ---- their bytes

zeroth : (a t : ℕ) → bit_xor (bit_xor (bit_xor a 0) 0) t ≡ bit_xor a t
zeroth a t = ap (λ (q : ℕ). bit_xor q t) (xor_zero_r (bit_xor a 0) ∙ xor_zero_r a)

first : (b a t : ℕ) → bit_xor (bit_xor (bit_xor b a) 0) t ≡ bit_xor b (bit_xor a t)
first b a t = ap (λ (q : ℕ). bit_xor q t) (xor_zero_r (bit_xor b a)) ∙ xor_assoc b a t

second : (d b a t : ℕ) → bit_xor (bit_xor (bit_xor d b) (bit_xor a 0)) t ≡ bit_xor d (bit_xor b (bit_xor a t))
second d b a t =
    ap (λ (q : ℕ). bit_xor (bit_xor (bit_xor d b) q) t) (xor_zero_r a) ∙ xor_assoc (bit_xor d b) a t
    ∙ xor_assoc d b (bit_xor a t)

third : (e d b a t : ℕ)
    → bit_xor (bit_xor (bit_xor e d) (bit_xor b a)) t ≡ bit_xor e (bit_xor d (bit_xor b (bit_xor a t)))
third e d b a t =
    xor_assoc (bit_xor e d) (bit_xor b a) t ∙ xor_assoc e d (bit_xor (bit_xor b a) t)
    ∙ ap (λ (q : ℕ). bit_xor e (bit_xor d q)) (xor_assoc b a t)

-- a register with itself moved by a word
abbrev pub moved : List ℕ → List ℕ
moved o = zip2 bit_xor (listing 0 16 o) (map (looked_up o) ONE_WORD_ON)

-- the four words by the four eight before them, and by what is added to the first
abbrev words_of : List ℕ → List ℕ → List ℕ
words_of o t =
    xor_bytes (word o 0) t ++ (xor_bytes (word o 1) (xor_bytes (word o 0) t)
    ++ (xor_bytes (word o 2) (xor_bytes (word o 1) (xor_bytes (word o 0) t))
    ++ xor_bytes (word o 3) (xor_bytes (word o 2) (xor_bytes (word o 1) (xor_bytes (word o 0) t)))))

sums_of : (l : List ℕ) (t0 t1 t2 t3 : ℕ)
    → zip2 bit_xor (zip2 bit_xor (moved l) (map (looked_up (moved l)) TWO_WORDS_ON))
    ((t0 ∷ t1 ∷ t2 ∷ t3 ∷ []) ++ ((t0 ∷ t1 ∷ t2 ∷ t3 ∷ []) ++ ((t0 ∷ t1 ∷ t2 ∷ t3 ∷ []) ++ (t0 ∷ t1 ∷ t2 ∷ t3 ∷ []))))
    ≡ words_of l (t0 ∷ t1 ∷ t2 ∷ t3 ∷ [])
unfolding xor_bytes
sums_of l t0 t1 t2 t3 =
    let o : ℕ → ℕ = λ k. get_or l k 0 in
    λ i. zeroth (o 0) t0 i ∷ zeroth (o 1) t1 i ∷ zeroth (o 2) t2 i ∷ zeroth (o 3) t3 i
    ∷ first (o 4) (o 0) t0 i ∷ first (o 5) (o 1) t1 i ∷ first (o 6) (o 2) t2 i ∷ first (o 7) (o 3) t3 i
    ∷ second (o 8) (o 4) (o 0) t0 i ∷ second (o 9) (o 5) (o 1) t1 i ∷ second (o 10) (o 6) (o 2) t2 i
    ∷ second (o 11) (o 7) (o 3) t3 i
    ∷ third (o 12) (o 8) (o 4) (o 0) t0 i ∷ third (o 13) (o 9) (o 5) (o 1) t1 i ∷ third (o 14) (o 10) (o 6) (o 2) t2 i
    ∷ third (o 15) (o 11) (o 7) (o 3) t3 i ∷ []

-- four words by sums within a register: o is the four words eight before them
pub by_sums : (key w o t sum : List ℕ) (m : ℕ) → length w ≡ 240 → m < 13 → take (16 * m + 32) w ≡ schedule key (4 * m)
    → o ≡ slice_range w (16 * m) (16 * m + 16) → t ≡ key_step (4 * m + 8) (word w (4 * m + 7)) → length t ≡ 4
    → sum ≡ zip2 bit_xor (zip2 bit_xor (moved o) (map (looked_up (moved o)) TWO_WORDS_ON)) (t ++ (t ++ (t ++ t)))
    → take (16 * m + 32) w ++ sum ≡ schedule key (4 * m + 4)
by_sums key w o t sum m long within so_far old added four is =
    let s : List ℕ = take (16 * m + 32) w in
    let at : (i : ℕ) → i < 16 * m + 32 → get_or w i 0 ≡ get_or s i 0 =
    λ i h. sym (get_or-take (16 * m + 32) w i 0 h) in
    let from : (i k : ℕ) → i < 16 → k ≡ 16 * m + i → get_or o i 0 ≡ get_or s k 0 =
    λ i k h e. ap (λ (l : List ℕ). get_or l i 0) old
    ∙ get_or-take (16 * m + 16 - 16 * m) (drop (16 * m) w) i 0 (omega arith) ∙ get_or-drop (16 * m) w i 0
    ∙ ap (λ (n : ℕ). get_or w n 0) (sym e) ∙ at k (omega arith) in
    let part : (i : ℕ) → i < 4 → word o i ≡ word s (4 * m + i) =
    λ i h. λ j. from (4 * i + 0) (4 * (4 * m + i) + 0) (omega arith) (omega arith) j
    ∷ from (4 * i + 1) (4 * (4 * m + i) + 1) (omega arith) (omega arith) j
    ∷ from (4 * i + 2) (4 * (4 * m + i) + 2) (omega arith) (omega arith) j
    ∷ from (4 * i + 3) (4 * (4 * m + i) + 3) (omega arith) (omega arith) j ∷ [] in
    let last : word w (4 * m + 7) ≡ word s (4 * m + 7) =
    λ j. at (4 * (4 * m + 7) + 0) (omega arith) j ∷ at (4 * (4 * m + 7) + 1) (omega arith) j
    ∷ at (4 * (4 * m + 7) + 2) (omega arith) j ∷ at (4 * (4 * m + 7) + 3) (omega arith) j ∷ [] in
    let zero : word s (4 * m + 0) ≡ word s (4 * m) = ap (word s) (omega arith) in
    let listed : listing 0 4 t ≡ t = listing_is 4 0 t (omega arith) in
    let bytes : zip2 bit_xor (zip2 bit_xor (moved o) (map (looked_up (moved o)) TWO_WORDS_ON)) (t ++ (t ++ (t ++ t)))
    ≡ words_of o t =
    subst (λ (q : List ℕ). zip2 bit_xor (zip2 bit_xor (moved o) (map (looked_up (moved o)) TWO_WORDS_ON))
    (q ++ (q ++ (q ++ q))) ≡ words_of o q) listed
    (sums_of o (get_or t 0 0) (get_or t 1 0) (get_or t 2 0) (get_or t 3 0)) in
    let size : length s ≡ 4 * (4 * m + 8) = omega (arith, length-take (16 * m + 32) w) in
    ap (λ (q : List ℕ). s ++ q) (is ∙ bytes)
    ∙ four_words key s (word o 0) (word o 1) (word o 2) (word o 3) t (4 * m) so_far
    (omega arith) size refl refl refl refl
    four (part 0 (lit< tt) ∙ zero) (part 1 (lit< tt)) (part 2 (lit< tt)) (part 3 (lit< tt))
    (added ∙ ap (key_step (4 * m + 8)) last)

-- what is added to word 4 * m where m is even, four times
pub turned : (l t : List ℕ) (x m : ℕ) → m % 2 ≡ 0 → x ≡ x_power (m / 2) → t ≡ key_step (4 * m + 8) (word l 3)
    → zip2 bit_xor (map s_box (map (looked_up l) LAST_WORD_TURNED))
    (x ∷ 0 ∷ 0 ∷ 0 ∷ x ∷ 0 ∷ 0 ∷ 0 ∷ x ∷ 0 ∷ 0 ∷ 0 ∷ x ∷ 0 ∷ 0 ∷ 0 ∷ [])
    ≡ t ++ (t ++ (t ++ t))
unfolding xor_bytes
turned l t x m even constant is =
    let place : (4 * m + 8) % 8 ≡ 0 = omega arith in
    let power : (4 * m + 8) / 8 - 1 ≡ m / 2 = omega arith in
    let same : t ≡ xor_bytes (sub_word (rot_word (word l 3))) (x ∷ 0 ∷ 0 ∷ 0 ∷ []) =
    is ∙ (λ i. key_step_at (place i) (power i) (word l 3))
    ∙ ap (λ (q : ℕ). xor_bytes (sub_word (rot_word (word l 3))) (q ∷ 0 ∷ 0 ∷ 0 ∷ [])) (sym constant) in
    λ i. sym same i ++ (sym same i ++ (sym same i ++ sym same i))

-- .. and where m is odd
pub unturned : (l t : List ℕ) (m : ℕ) → (¬ (m % 2 ≡ 0)) → t ≡ key_step (4 * m + 8) (word l 3)
    → map s_box (map (looked_up l) LAST_WORD) ≡ t ++ (t ++ (t ++ t))
unturned l t m odd is =
    let place : (4 * m + 8) % 8 ≡ 4 = omega arith in
    let same : t ≡ sub_word (word l 3) = is ∙ ap (λ (q : ℕ). key_step_at q ((4 * m + 8) / 8 - 1) (word l 3)) place in
    λ i. sym same i ++ (sym same i ++ (sym same i ++ sym same i))

-- the last word of sixteen bytes of a schedule
pub last_word : (w l : List ℕ) (m : ℕ) → l ≡ slice_range w (16 * (m + 1)) (16 * (m + 1) + 16)
    → word l 3 ≡ word w (4 * m + 7)
last_word w l m is =
    let from : (i k : ℕ) → i < 16 → k ≡ 16 * (m + 1) + i → get_or l i 0 ≡ get_or w k 0 =
    λ i k h e. ap (λ (q : List ℕ). get_or q i 0) is
    ∙ get_or-take (16 * (m + 1) + 16 - 16 * (m + 1)) (drop (16 * (m + 1)) w) i 0 (omega arith)
    ∙ get_or-drop (16 * (m + 1)) w i 0 ∙ ap (λ (n : ℕ). get_or w n 0) (sym e) in
    λ j. from 12 (4 * (4 * m + 7) + 0) (lit< tt) (omega arith) j
    ∷ from 13 (4 * (4 * m + 7) + 1) (lit< tt) (omega arith) j
    ∷ from 14 (4 * (4 * m + 7) + 2) (lit< tt) (omega arith) j ∷ from 15 (4 * (4 * m + 7) + 3) (lit< tt) (omega arith) j
    ∷ []
