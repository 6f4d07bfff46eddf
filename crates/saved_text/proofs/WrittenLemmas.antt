-- Strings as they are written.
use Rattle.std.specs.Prelude.{flat_map, Bool, true, false, ◌==◌, nat_lt, codes, encode_utf8, cond, ◌/◌, ◌%◌}
use Rattle.std.proofs.Common.{
  ◌≡◌,
  ℕ,
  ◌+◌,
  ◌*◌,
  ◌<◌,
  ◌||◌,
  ◌&&◌,
  not,
  ◌++◌,
  List,
  [],
  ◌∷◌,
  refl,
  sym,
  ap,
  ◌∙◌,
  arith,
  inl,
  inr,
  subst,
}
use Rattle.std.proofs.lemmas.List.{append-nil}
use Rattle.std.specs.List.{AllByRecursion}
use Rattle.std.specs.Char.{IsScalar, digit_char}
use lib.Utf8.{scalar}
use Rattle.std.proofs.lemmas.Bool.{false≢true, agree_below_at, ltb-true, lt-ltb, eqb-true}
use Rattle.std.proofs.lemmas.Str.{encode_ascii}
use Rattle.saved_text.specs.Grammar.{Word, IsOf, letters}
use Rattle.saved_text.specs.Grammar.Grammar.{number}
use Rattle.saved_text.specs.Grammar.Word.{the_end, letter}
use Rattle.saved_text.specs.Letters.{is_plain, is_letter, named, is_digit, digit_value, number_after}
use Rattle.saved_text.specs.Ron.{character}
use Rattle.saved_text.specs.Words.{string_words}
use Rattle.saved_text.specs.Written.{hexadecimal, letter_of, written_byte, StringsAreOfGrammar}

-- ---- one byte: its three forms, tested below 256

-- a byte with a letter
letter_test : ℕ → Bool
letter_test b = not (nat_lt 0 (letter_of b)) || (is_letter (letter_of b) && (named (letter_of b) == b))

-- a byte without a letter that is written as its digits
digits_test : ℕ → Bool
digits_test b = not (nat_lt b 128) ||
    (is_digit (digit_char (b / 16)) && is_digit (digit_char (b % 16)) &&
    (digit_value (digit_char (b / 16)) * 16 + digit_value (digit_char (b % 16)) == b) && scalar b)

digit_test : ℕ → Bool
digit_test b = is_digit (digit_char b) && (digit_value (digit_char b) == b) && scalar b

letter_true : (b : ℕ) → b < 256 → letter_test b ≡ true
unfolding letter_test
letter_true b l = agree_below_at letter_test (λ k. true) 256 b refl l

digits_true : (b : ℕ) → b < 256 → digits_test b ≡ true
unfolding digits_test
digits_true b l = agree_below_at digits_test (λ k. true) 256 b refl l

digit_true : (b : ℕ) → b < 16 → digit_test b ≡ true
unfolding digit_test
digit_true b l = agree_below_at digit_test (λ k. true) 16 b refl l

and_parts : (a b : Bool) → (a && b) ≡ true → (a ≡ true) × (b ≡ true)
and_parts true b h = (refl, h)
and_parts false b h = absurd (false≢true h)

or_second : (a b : Bool) → (not a || b) ≡ true → a ≡ true → b ≡ true
or_second true b h e = h
or_second false b h e = absurd (false≢true e)

letter_at : (b : ℕ) → b < 256 → nat_lt 0 (letter_of b) ≡ true
    → (is_letter (letter_of b) && (named (letter_of b) == b)) ≡ true
unfolding letter_test
letter_at b l e = or_second (nat_lt 0 (letter_of b)) (is_letter (letter_of b) && (named (letter_of b) == b))
    (letter_true b l) e

-- a byte with neither a letter nor a number is plain
plain_test : ℕ → Bool
plain_test b = not (not (nat_lt 0 (letter_of b))) || is_plain b

plain_true : (b : ℕ) → b < 256 → plain_test b ≡ true
unfolding plain_test
plain_true b l = agree_below_at plain_test (λ k. true) 256 b refl l

plain_at : (b : ℕ) → b < 256 → nat_lt 0 (letter_of b) ≡ false → is_plain b ≡ true
unfolding plain_test
plain_at b l e = or_second (not (nat_lt 0 (letter_of b))) (is_plain b) (plain_true b l) (ap not e)

small_at : (b : ℕ) → (nat_lt b 32 || b == 127) ≡ true → b < 128
small_at b e = by (nat_lt b 32) refl
  where
    by : (t : Bool) → nat_lt b 32 ≡ t → b < 128
    by true q = let h = ltb-true b 32 q in omega (arith, h)
    by false q = let h = eqb-true b 127 (sym (ap (λ t. t || b == 127) q) ∙ e) in omega (arith, h)

-- ---- the digits of a byte

digit_is : (b : ℕ) → b < 16 → IsOf (number 1 6 0) (digit_char b ∷ []) (letters (encode_utf8 b))
unfolding digit_test
digit_is b l =
    let all = and_parts (is_digit (digit_char b) && (digit_value (digit_char b) == b)) (scalar b) (digit_true b l) in
    let two = and_parts (is_digit (digit_char b)) (digit_value (digit_char b) == b) all.0 in
    let value : number_after 0 (digit_char b ∷ []) ≡ b = let e =
    eqb-true (digit_value (digit_char b)) b two.1 in omega (arith, e) in (
      (two.0, tt),
      omega arith,
      omega arith,
      subst IsScalar (sym value) all.1,
      ap (λ k. letters (encode_utf8 k)) (sym value),
    )

digits_are : (b : ℕ) → b < 128 → IsOf (number 1 6 0) (digit_char (b / 16) ∷ digit_char (b % 16) ∷ [])
    (letters (encode_utf8 b))
unfolding digits_test
digits_are b l =
    let high : ℕ = digit_char (b / 16) in
    let low : ℕ = digit_char (b % 16) in
    let test = or_second (nat_lt b 128)
    (is_digit high && is_digit low && (digit_value high * 16 + digit_value low == b) && scalar b)
    (digits_true b (omega (arith, l))) (lt-ltb b 128 l) in
    let all = and_parts (is_digit high && is_digit low && (digit_value high * 16 + digit_value low == b)) (scalar b)
    test in
    let three = and_parts (is_digit high && is_digit low) (digit_value high * 16 + digit_value low == b) all.0 in
    let two = and_parts (is_digit high) (is_digit low) three.0 in
    let sum : digit_value high * 16 + digit_value low ≡ b =
    eqb-true (digit_value high * 16 + digit_value low) b three.1 in
    let value : number_after 0 (digit_char (b / 16) ∷ digit_char (b % 16) ∷ []) ≡ b = omega (arith, sum) in (
      (two.0, (two.1, tt)),
      omega arith,
      omega arith,
      subst IsScalar (sym value) all.1,
      ap (λ k. letters (encode_utf8 k)) (sym value),
    )

-- ---- one byte

abbrev escaped_text : List ℕ → List ℕ
escaped_text digits = codes "u{" ++ (digits ++ codes "}")

number_escape : (b : ℕ) (digits : List ℕ) → b < 128 → IsOf (number 1 6 0) digits (letters (encode_utf8 b))
    → IsOf character (92 ∷ escaped_text digits) (letter b ∷ [])
number_escape b digits l n =
    let said : letters (encode_utf8 b) ≡ letter b ∷ [] = ap letters (encode_ascii b l) in
    inr (
      92 ∷ [],
      escaped_text digits,
      [],
      letter b ∷ [],
      (refl, refl),
      inr (inr (
        codes "u{",
        digits ++ codes "}",
        [],
        letter b ∷ [],
        (refl, refl),
        (
          digits,
          codes "}",
          letters (encode_utf8 b),
          [],
          n,
          (refl, refl),
          refl,
          sym said
              ∙ sym (append-nil (letters (encode_utf8 b))),
        ),
        refl,
        refl,
      )),
      refl,
      refl,
    )

hex_is : (b : ℕ) → b < 128 → IsOf (number 1 6 0) (hexadecimal b) (letters (encode_utf8 b))
hex_is b l = by (nat_lt b 16) refl
  where
    by : (t : Bool) → nat_lt b 16 ≡ t → IsOf (number 1 6 0)
        (cond t (digit_char b ∷ []) (digit_char (b / 16) ∷ digit_char (b % 16) ∷ [])) (letters (encode_utf8 b))
    by true e = digit_is b (ltb-true b 16 e)
    by false e = digits_are b l

byte_is : (b : ℕ) → b < 256 → IsOf character (written_byte b) (letter b ∷ [])
byte_is b l = short (nat_lt 0 (letter_of b)) refl
  where
    plain : (t : Bool) → (nat_lt b 32 || b == 127) ≡ t → nat_lt 0 (letter_of b) ≡ false
        → IsOf character (cond t (codes "\\u{" ++ hexadecimal b ++ codes "}") (b ∷ [])) (letter b ∷ [])
    plain true e n = subst (λ q. IsOf character (92 ∷ q) (letter b ∷ [])) refl
        (number_escape b (hexadecimal b) (small_at b e) (hex_is b (small_at b e)))
    plain false e n = inl (b, plain_at b l n, refl, refl)

    short : (t : Bool) → nat_lt 0 (letter_of b) ≡ t → IsOf character
        (cond t (92 ∷ letter_of b ∷ [])
        (cond (nat_lt b 32 || b == 127) (codes "\\u{" ++ hexadecimal b ++ codes "}") (b ∷ []))) (letter b ∷ [])
    short true e =
        let both = and_parts (is_letter (letter_of b)) (named (letter_of b) == b) (letter_at b l e) in
        inr (
          92 ∷ [],
          letter_of b ∷ [],
          [],
          letter b ∷ [],
          (refl, refl),
          inl (letter_of b, both.0, refl, ap (λ k. letter k ∷ []) (sym (eqb-true (named (letter_of b)) b both.1))),
          refl,
          refl,
        )
    short false e = plain (nat_lt b 32 || b == 127) refl e

-- ---- a string

written_parts : List ℕ → List (List ℕ × List Word)
written_parts [] = []
written_parts (b ∷ s) = (written_byte b, letter b ∷ []) ∷ written_parts s

are_parts : (s : List ℕ) → AllByRecursion (λ b. b < 256) s
    → AllByRecursion (λ p. IsOf character p.0 p.1) (written_parts s)
unfolding written_parts
are_parts [] a = tt
are_parts (b ∷ s) a = (byte_is b a.0, are_parts s a.1)

text_of_parts : (s : List ℕ) → flat_map written_byte s ≡ flat_map (λ p. p.0) (written_parts s)
unfolding written_parts
text_of_parts [] = refl
text_of_parts (b ∷ s) = ap (λ q. written_byte b ++ q) (text_of_parts s)

said_of_parts : (s : List ℕ) → letters s ≡ flat_map (λ p. p.1) (written_parts s)
unfolding written_parts
said_of_parts [] = refl
said_of_parts (b ∷ s) = ap (λ q. letter b ∷ q) (said_of_parts s)

pub strings : StringsAreOfGrammar
strings s a = (
  34 ∷ [],
  flat_map written_byte s ++ 34 ∷ [],
  [],
  string_words s,
  (refl, refl),
  (
    flat_map written_byte s,
    34 ∷ [],
    letters s,
    the_end ∷ [],
    (written_parts s, are_parts s a, text_of_parts s, said_of_parts s),
    (34 ∷ [], [], [], the_end ∷ [], (refl, refl), (refl, refl), refl, refl),
    refl,
    refl,
  ),
  refl,
  refl,
)
