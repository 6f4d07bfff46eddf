-- The parts of sealed bytes, and what they are opened as.
use Rattle.std.proofs.Common.{◌≡◌, ℕ, ◌+◌, ◌-◌, ◌≤◌, List, [], ◌++◌, length, take, drop, append-nil, refl, ap, sym}
use Rattle.std.proofs.Common.{subst, ◌∙◌, arith, length-append, length-drop}
use Rattle.std.proofs.lemmas.Grind.{common_steps}
use Rattle.std.proofs.lemmas.List.{take-append-drop, take_at, drop_at, take_all, drop_all, length-take-le}
use borrow.Rule.Slice.PartMut.{put_mid}
use Rattle.seal.specs.Gcm as gcm
use Rattle.seal.specs.Gcm.{Sealed}
use Rattle.cookie.specs.Key.{encryption_half}
use Rattle.cookie.specs.Sealing.{IsSealedAs}

-- between nonce and tag
abbrev pub middle : List ℕ → List ℕ
middle bytes = take (length bytes - 16 - 12) (drop 12 bytes)

-- the tag
abbrev pub last : List ℕ → List ℕ
last bytes = drop (length bytes - 16) bytes

drop-drop : (m k n : ℕ) (xs : List ℕ) → m + k ≡ n → drop k (drop m xs) ≡ drop n xs
drop-drop m k n xs e = grind (arith, common_steps)

pub three_parts : (bytes : List ℕ) → 28 ≤ length bytes → bytes ≡ take 12 bytes ++ (middle bytes ++ last bytes)
three_parts bytes long =
    let rest : List ℕ = drop 12 bytes in
    let tail : drop (length bytes - 16 - 12) rest ≡ last bytes =
    drop-drop 12 (length bytes - 16 - 12) (length bytes - 16) bytes (omega arith) in
    sym (take-append-drop 12 bytes)
    ∙ ap (λ (q : List ℕ). take 12 bytes ++ q) (sym (take-append-drop (length bytes - 16 - 12) rest))
    ∙ ap (λ (q : List ℕ). take 12 bytes ++ (middle bytes ++ q)) tail

-- that each tag has 16 bytes
abbrev pub TagsHave16 : Type 0
TagsHave16 = (key nonce aad ciphertext : List ℕ) → length key ≡ 32 → length (gcm.tag key nonce aad ciphertext) ≡ 16

pub record AreParts (bytes nonce ciphertext tag : List ℕ) : Type 0 where
  pub long : 28 ≤ length bytes
  pub nonce_is : take 12 bytes ≡ nonce
  pub ciphertext_is : middle bytes ≡ ciphertext
  pub tag_is : last bytes ≡ tag

pub parts_of_append : (bytes nonce ciphertext tag : List ℕ) → length nonce ≡ 12 → length tag ≡ 16
    → bytes ≡ nonce ++ (ciphertext ++ tag)
    → AreParts bytes nonce ciphertext tag
parts_of_append bytes n c t en et e =
    let size : length bytes ≡ 12 + (length c + 16) =
    ap length e ∙ length-append n (c ++ t) ∙ (λ i. en i + (length-append c t ∙ ap (λ (k : ℕ). length c + k) et) i) in
    let behind : drop 12 bytes ≡ c ++ t = ap (drop 12) e ∙ drop_at n (c ++ t) 12 en in
    let count : length bytes - 16 - 12 ≡ length c = omega arith in
    record {
      long = omega arith;
      nonce_is = ap (take 12) e ∙ take_at n (c ++ t) 12 en;
      ciphertext_is = (λ i. take (count i) (behind i)) ∙ take_at c t (length c) refl;
      tag_is =
          sym (drop-drop 12 (length bytes - 16 - 12) (length bytes - 16) bytes (omega arith))
          ∙ (λ i. drop (count i) (behind i)) ∙ drop_at c t (length c) refl;
    }

-- the middle is sealed under what stands in front of it, with what stands behind it as the tag
abbrev pub MiddleIsSealedAs : List ℕ → List ℕ → List ℕ → List ℕ → Type 0
MiddleIsSealedAs key name value bytes =
    Sealed (encryption_half key) (take 12 bytes) name value (middle bytes) (last bytes)

pub middle_of_sealed : TagsHave16 → (key name value nonce bytes : List ℕ) → length (encryption_half key) ≡ 32
    → length nonce ≡ 12
    → IsSealedAs key name value nonce bytes → (28 ≤ length bytes) × MiddleIsSealedAs key name value bytes
middle_of_sealed sizes key name value nonce bytes half long s =
    let size : length s.tag ≡ 16 = ap length s.sealed.tag_is
    ∙ sizes (encryption_half key) nonce name s.ciphertext half in
    let parts : AreParts bytes nonce s.ciphertext s.tag =
    parts_of_append bytes nonce s.ciphertext s.tag long size s.bytes_are in
    (parts.long, rw (parts.nonce_is, parts.ciphertext_is, parts.tag_is) s.sealed)

pub sealed_of_middle : (key name value bytes : List ℕ) → 28 ≤ length bytes → MiddleIsSealedAs key name value bytes
    → (nonce : List ℕ) × (length nonce ≡ 12) × IsSealedAs key name value nonce bytes
sealed_of_middle key name value bytes long s = (
  take 12 bytes,
  length-take-le 12 bytes (omega arith),
  record { ciphertext = middle bytes; tag = last bytes; sealed = s; bytes_are = three_parts bytes long },
)

-- ---- a text behind a nonce, written anew in place

-- the text there
pub text_behind : (lent nonce value : List ℕ) → lent ≡ nonce ++ value → length nonce ≡ 12
    → take (length lent - 12) (drop 12 lent) ≡ value
text_behind lent nonce value e nonce_len =
    let rest : drop 12 lent ≡ value = ap (drop 12) e ∙ drop_at nonce value 12 nonce_len in
    let size : length lent ≡ 12 + length value = ap length e ∙ length-append nonce value
    ∙ (λ i. nonce_len i + length value) in
    ap (take (length lent - 12)) rest ∙ take_all (length lent - 12) value (omega arith)

-- what bytes hold once their part from 12 on is written: a vector of them is cut to its length then
pub behind_nonce : (lent held new nonce value : List ℕ) (len : ℕ) → lent ≡ held → len ≡ length held
    → held ≡ nonce ++ value
    → length nonce ≡ 12 → length new ≡ length (take (length lent - 12) (drop 12 lent))
    → take len (put_mid 12 (length lent - 12) lent new ++ drop (length (put_mid 12 (length lent - 12) lent new)) held)
    ≡ nonce ++ new
behind_nonce lent held new nonce value len same len_is held_is nonce_len new_len =
    let front : take 12 lent ≡ nonce = ap (take 12) (same ∙ held_is) ∙ take_at nonce value 12 nonce_len in
    let size : length held ≡ 12 + length value = ap length held_is ∙ length-append nonce value
    ∙ (λ i. nonce_len i + length value) in
    let rest : length (take (length lent - 12) (drop 12 lent)) ≡ length value =
    ap length (text_behind lent nonce value (same ∙ held_is) nonce_len) in
    let lent_len : length lent ≡ length held = ap length same in
    let none : drop (length lent - 12) (drop 12 lent) ≡ [] =
    drop_all (length lent - 12) (drop 12 lent) (omega (arith, length-drop 12 lent)) in
    let whole : put_mid 12 (length lent - 12) lent new ≡ nonce ++ new =
    (λ i. front i ++ (new ++ none i)) ∙ ap (λ (q : List ℕ). nonce ++ q) (append-nil new) in
    let all : length (nonce ++ new) ≡ length held =
    length-append nonce new ∙ (λ i. nonce_len i + (new_len ∙ rest) i) ∙ sym size in
    (λ i. take (len_is i) (whole i ++ drop (length (whole i)) held))
    ∙ ap (λ (q : List ℕ). take (length held) ((nonce ++ new) ++ q))
    (drop_all (length (nonce ++ new)) held (omega arith))
    ∙ ap (take (length held)) (append-nil (nonce ++ new))
    ∙ take_all (length held) (nonce ++ new) (omega arith)

-- what stands between nonce and tag once it is written
pub middle_written : (lent held new : List ℕ) (len end : ℕ) → lent ≡ held → len ≡ length held → end ≡ length held
    → 28 ≤ end
    → length new ≡ length (take (end - 16 - 12) (drop 12 lent))
    → (middle (take len (put_mid 12 (end - 16 - 12) lent new ++ drop
    (length (put_mid 12 (end - 16 - 12) lent new)) held)) ≡ new)
    × (28 ≤ length (take len (put_mid 12 (end - 16 - 12) lent new ++ drop
    (length (put_mid 12 (end - 16 - 12) lent new)) held)))
middle_written lent held new len end same len_is end_is long new_len =
    let lent_len : length lent ≡ end = ap length same ∙ sym end_is in
    let nonce_len : length (take 12 lent) ≡ 12 = length-take-le 12 lent (omega arith) in
    let tag : List ℕ = drop (end - 16 - 12) (drop 12 lent) in
    let tag_len : length tag ≡ 16 = length-drop (end - 16 - 12) (drop 12 lent) ∙ omega (arith, length-drop 12 lent) in
    let all : List ℕ = take 12 lent ++ (new ++ tag) in
    let parts : AreParts all (take 12 lent) new tag =
    parts_of_append all (take 12 lent) new tag nonce_len tag_len refl in
    let text_len : length new ≡ end - 28 =
    new_len ∙ length-take-le (end - 16 - 12) (drop 12 lent) (omega (arith, length-drop 12 lent)) ∙ omega arith in
    let size : length all ≡ len =
    length-append (take 12 lent) (new ++ tag) ∙ omega (arith, length-append new tag) in
    let whole : take len (all ++ drop (length all) held) ≡ all =
    ap (λ (q : List ℕ). take len (all ++ q)) (drop_all (length all) held (omega arith))
    ∙ ap (take len) (append-nil all) ∙ take_all len all (omega arith) in
    (ap middle whole ∙ parts.ciphertext_is, rw whole parts.long)

-- the same by other names
pub opens_by_parts : (key nonce aad text tag key' nonce' aad' text' tag' value : List ℕ) → key ≡ key' → nonce ≡ nonce'
    → aad ≡ aad'
    → text ≡ text' → tag ≡ tag' → Sealed key nonce aad value text tag → Sealed key' nonce' aad' value text' tag'
opens_by_parts key nonce aad text tag key' nonce' aad' text' tag' value ek en ea et eg s =
    subst (λ (x : List ℕ). Sealed x nonce' aad' value text' tag') ek
    (subst (λ (x : List ℕ). Sealed key x aad' value text' tag') en
    (subst (λ (x : List ℕ). Sealed key nonce x value text' tag') ea
    (subst (λ (x : List ℕ). Sealed key nonce aad value x tag') et
    (subst (λ (x : List ℕ). Sealed key nonce aad value text x) eg s))))
