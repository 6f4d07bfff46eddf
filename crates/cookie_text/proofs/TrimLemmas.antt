-- A text that needs no trimming, and one behind a space.
use Rattle.std.proofs.Common.{◌≡◌, ℕ, ◌+◌, ◌-◌, ◌<◌, ◌==◌, ◌&&◌, true, false, cond, List, [], ◌∷◌, ◌++◌, length, get_or}
use Rattle.std.proofs.Common.{refl, sym, ap, subst, ◌∙◌, arith, tests, length-append, Bool, ◌≤◌}
use Rattle.std.proofs.lemmas.Bool.{cond-false}
use Rattle.std.proofs.lemmas.Bool.Decides.{nat_tests}
use Rattle.std.proofs.Math.Seq.{get_or-append-add}
use lib.Utf8.{encode, encodes}
use Rattle.std.specs.Char.{is_ascii_graphic, is_whitespace}
use Rattle.std.specs.Int.{IsInRange}
use Rattle.std.specs.Str.{IsUtf8, trim, trim_start, trim_end, chars, skip_leading_whitespace, drop_trailing_whitespace}
use Rattle.std.proofs.lemmas.Str.{encodes-chars, char_from_byte, inside_one, length-encode, len_utf8_bounds}

pub graphic_in : (c : ℕ) → is_ascii_graphic c ≡ true → IsInRange 33 126 c
graphic_in c h = grind (arith, tests, nat_tests)

graphic_black : (c : ℕ) → IsInRange 33 126 c → is_whitespace c ≡ false
graphic_black c h = grind (arith, tests)

-- the first character of a text whose first byte is graphic is that byte
front_stays : (text cs : List ℕ) → encodes cs ≡ text → IsInRange 33 126 (get_or text 0 0)
    → skip_leading_whitespace cs ≡ cs
front_stays text [] e first = refl
front_stays text (c ∷ cs) e first =
    let some : 0 < length text = at_front text first in
    let same = char_from_byte text (encodes cs) c (sym e) (omega arith) some in
    let black : is_whitespace c ≡ false = graphic_black c (subst (IsInRange 33 126) (sym same) first) in
    rw black refl
  where
    at_front : (xs : List ℕ) → IsInRange 33 126 (get_or xs 0 0) → 0 < length xs
    at_front [] h = absurd (omega arith)
    at_front (x ∷ xs) h = omega arith

-- the characters behind the first stay, and are some
kept : (b : Bool) (c : ℕ) (l m : List ℕ) → l ≡ m → 0 < length m → cond (b && length l == 0) [] (c ∷ l) ≡ c ∷ m
kept false c l m e some = ap (λ k. c ∷ k) e
kept true c l m e some =
    let full : (length l == 0) ≡ false = grind (arith, nat_tests, ap length e) in
    cond-false _ _ _ full ∙ ap (λ k. c ∷ k) e

-- the last character of a text whose last byte is graphic is that byte
back_stays : (cs : List ℕ) → IsInRange 33 126 (get_or (encodes cs) (length (encodes cs) - 1) 0)
    → drop_trailing_whitespace cs ≡ cs
back_stays [] last = refl
back_stays (c ∷ []) last =
    let some : 0 < length (encode c) = omega (arith, length-encode c, (len_utf8_bounds c).0) in
    let long = length-append (encode c) [] in
    let same = inside_one c [] (encodes (c ∷ [])) (length (encodes (c ∷ [])) - 1) refl (omega arith) (omega arith) in
    let black : is_whitespace c ≡ false = graphic_black c (subst (IsInRange 33 126) (sym same) last) in
    rw black refl
back_stays (c ∷ d ∷ cs) last =
    let rest = encodes (d ∷ cs) in
    let some : 0 < length (encode d) = omega (arith, length-encode d, (len_utf8_bounds d).0) in
    let whole = length-append (encode c) rest in
    let behind = length-append (encode d) (encodes cs) in
    let at : length (encodes (c ∷ d ∷ cs)) - 1 ≡ length (encode c) + (length rest - 1) = omega arith in
    let e : get_or (encodes (c ∷ d ∷ cs)) (length (encodes (c ∷ d ∷ cs)) - 1) 0 ≡ get_or rest (length rest - 1) 0 =
    ap (λ k. get_or (encodes (c ∷ d ∷ cs)) k 0) at ∙ get_or-append-add (encode c) rest (length rest - 1) 0 in
    kept (is_whitespace c) c (drop_trailing_whitespace (d ∷ cs)) (d ∷ cs)
    (back_stays (d ∷ cs) (subst (IsInRange 33 126) e last)) (omega arith)

-- a text whose first and last bytes are graphic is as `trim` gives it
pub trim-graphic : (text : List ℕ) → IsUtf8 text → IsInRange 33 126 (get_or text 0 0)
    → IsInRange 33 126 (get_or text (length text - 1) 0) → trim text ≡ text
unfolding trim_start trim_end
trim-graphic text utf8 first last =
    let cs = chars text in
    let same : encodes cs ≡ text = encodes-chars text utf8 in
    let start : trim_start text ≡ text = ap encodes (front_stays text cs same first) ∙ same in
    let end : trim_end text ≡ text = ap encodes
    (back_stays cs (subst (λ t. IsInRange 33 126 (get_or t (length t - 1) 0)) (sym same) last)) ∙ same in
    ap trim_end start ∙ end

-- a space in front is taken off
trim_start-space : (rest : List ℕ) → trim_start (32 ∷ rest) ≡ trim_start rest
unfolding trim_start chars
trim_start-space [] = refl
trim_start-space (b ∷ bs) = refl

pub trim-space : (rest : List ℕ) → trim (32 ∷ rest) ≡ trim rest
trim-space rest = ap trim_end (trim_start-space rest)
