-- The first two rounds, kept but for what the last byte adds.
use Rattle.std.proofs.Common.{◌≡◌, ℕ, List, [], ◌∷◌, ◌++◌, length, get_or, take, refl, ap, sym, ◌∙◌}
use Rattle.std.proofs.Common.{arith, bit_xor}
use Rattle.std.proofs.lemmas.Nat.{xor_comm}
use Rattle.std.specs.Int.Bits.{xor_assoc}
use Rattle.seal.specs.Bytes.{xor_bytes}
use Rattle.seal.specs.Words.{bytes_of, state_bytes}
use Rattle.seal.specs.Aes.{of_row_0, of_row_1, of_row_2, of_row_3, mixed_column, word, round_key}
use Rattle.seal.proofs.ByteLists.{listing, listing_is}
use Rattle.seal.proofs.WordLemmas.{bytes_of_xor, column_is, four, round_key_words}

-- ---- a column from three words and the key's, and then the fourth

pub whole_column : (x y z u k p q r t : ℕ) → bytes_of x ≡ of_row_0 p → bytes_of y ≡ of_row_1 q
    → bytes_of z ≡ of_row_2 r → bytes_of u ≡ of_row_3 t
    → bytes_of (bit_xor (bit_xor (bit_xor x y) (bit_xor z u)) k) ≡ xor_bytes (mixed_column p q r t) (bytes_of k)
whole_column x y z u k p q r t hx hy hz hu =
    bytes_of_xor (bit_xor (bit_xor x y) (bit_xor z u)) k
    ∙ ap (λ (l : List ℕ). xor_bytes l (bytes_of k)) (column_is x y z u p q r t hx hy hz hu)

-- a sum in which k stands before the last term
later : (m k r : ℕ) → bit_xor (bit_xor m k) r ≡ bit_xor (bit_xor m r) k
later m k r = xor_assoc m k r ∙ ap (bit_xor m) (xor_comm k r) ∙ sym (xor_assoc m r k)

pub add_row_0 : (x y z u k : ℕ) → bit_xor (bit_xor (bit_xor y (bit_xor z u)) k) x
    ≡ bit_xor (bit_xor (bit_xor x y) (bit_xor z u)) k
add_row_0 x y z u k =
    later (bit_xor y (bit_xor z u)) k x
    ∙ ap (λ (m : ℕ). bit_xor m k) (xor_comm (bit_xor y (bit_xor z u)) x ∙ sym (xor_assoc x y (bit_xor z u)))

pub add_row_1 : (x y z u k : ℕ) → bit_xor (bit_xor (bit_xor x (bit_xor z u)) k) y
    ≡ bit_xor (bit_xor (bit_xor x y) (bit_xor z u)) k
add_row_1 x y z u k =
    later (bit_xor x (bit_xor z u)) k y ∙ ap (λ (m : ℕ). bit_xor m k) (later x (bit_xor z u) y)

pub add_row_2 : (x y z u k : ℕ) → bit_xor (bit_xor (bit_xor (bit_xor x y) u) k) z
    ≡ bit_xor (bit_xor (bit_xor x y) (bit_xor z u)) k
add_row_2 x y z u k =
    later (bit_xor (bit_xor x y) u) k z
    ∙ ap (λ (m : ℕ). bit_xor m k) (xor_assoc (bit_xor x y) u z ∙ ap (bit_xor (bit_xor x y)) (xor_comm u z))

pub add_row_3 : (x y z u k : ℕ) → bit_xor (bit_xor (bit_xor (bit_xor x y) z) k) u
    ≡ bit_xor (bit_xor (bit_xor x y) (bit_xor z u)) k
add_row_3 x y z u k =
    later (bit_xor (bit_xor x y) z) k u ∙ ap (λ (m : ℕ). bit_xor m k) (xor_assoc (bit_xor x y) z u)

-- .. so the bytes of such a sum k, with a word u added, are a column with its key
pub added_later : (k u whole : ℕ) (l : List ℕ) → bytes_of u ≡ l → bit_xor k u ≡ whole
    → xor_bytes (bytes_of k) l ≡ bytes_of whole
added_later k u whole l is e = ap (xor_bytes (bytes_of k)) (sym is) ∙ sym (bytes_of_xor k u) ∙ ap bytes_of e

-- ---- a block with another last byte

key_words : List ℕ → List ℕ
key_words w = four (word w 0) (word w 1) (word w 2) (word w 3)

other_last : (block w : List ℕ) (b : ℕ)
    → take 15 (xor_bytes (listing 0 16 block) (key_words w)) ++ bit_xor b (get_or w 15 0) ∷ []
    ≡ xor_bytes (take 15 (listing 0 16 block) ++ b ∷ []) (key_words w)
unfolding xor_bytes key_words
other_last block w b = refl

pub last_byte : (s block w : List ℕ) (b : ℕ) → length block ≡ 16 → length w ≡ 240
    → state_bytes s ≡ xor_bytes block (round_key w 0)
    → take 15 (state_bytes s) ++ bit_xor b (get_or w 15 0) ∷ [] ≡ xor_bytes (take 15 block ++ b ∷ []) (round_key w 0)
unfolding key_words
last_byte s block w b long all is =
    let key : round_key w 0 ≡ key_words w = round_key_words w 0 (omega arith) all in
    let bytes : listing 0 16 block ≡ block = listing_is 16 0 block (omega arith) in
    ap (λ (q : List ℕ). take 15 q ++ bit_xor b (get_or w 15 0) ∷ []) is
    ∙ (λ i. take 15 (xor_bytes (sym bytes i) (key i)) ++ bit_xor b (get_or w 15 0) ∷ [])
    ∙ other_last block w b
    ∙ (λ i. xor_bytes (take 15 (bytes i) ++ b ∷ []) (sym key i))
