-- The pieces of a printed text, and what they give.
use Rattle.std.proofs.Common.{◌≡◌, ℕ, ◌+◌, ◌<◌, ◌^◌, ◌==◌, Bool, true, false, List, [], ◌∷◌, ◌++◌, length, Some, pos}
use Rattle.std.proofs.Common.{min, refl, sym, ap, ◌∙◌, inl, inr, arith, append_assoc, codes, nat_lt, drop, drop_at, ◌-◌}
use Rattle.std.specs.Str.Parse.{digits_value}
use Rattle.std.specs.List.{slice_split, flat_map, All, position_or_len}
use Rattle.std.specs.Str.{trim, trim_start, trim_end, chars}
use Rattle.std.specs.Fmt.{decimal}
use Rattle.std.proofs.lemmas.List.Splits.{slice_split_none, slice_split_at}
use Rattle.std.proofs.lemmas.List.{append-nil, length-append}
use Rattle.std.proofs.lemmas.Bool.Decides.{nat_tests}
use lib.Utf8.{encode, encodes, scalars, scalar}
use Rattle.std.specs.Str.{skip_leading_whitespace, drop_trailing_whitespace}
use Rattle.std.specs.Char.{is_whitespace, is_ascii_digit}
use Rattle.std.specs.Int.{IsInRange}
use Rattle.std.specs.List.{list_all}
use Rattle.std.proofs.Common.{◌≤◌, ◌&&◌, ◌≢◌, nat_le, not, IsAscii}
use Rattle.std.proofs.lemmas.Str.{chars-encodes, encodes-IsAscii}
use Rattle.std.proofs.lemmas.Str.Ascii.{IsAscii-from_all}
use Rattle.std.proofs.lemmas.Str.Parse.{digit_at}
use Rattle.std.proofs.lemmas.List.Elements.{All-head, All-tail, All-weaker, All-from_get_or}
use Rattle.std.proofs.lemmas.Bool.{agree_below_at, cases_lt}
use Rattle.percent_encoding.specs.AsciiSet.{should_percent_encode}
use Rattle.cookie_text.proofs.EscapeLemmas.{All-escaped}
use Rattle.cookie_text.specs.declared.escape.TheConstants.{PROFILE}
use Rattle.cookie_text.specs.Pieces.{name_of, value_of, text_after, semicolon, equals}
use Rattle.cookie_text.specs.declared.draft.SameSite.{SameSite}
use Rattle.cookie_text.specs.declared.draft.SameSite.TheVariants.{Strict, Lax, None as Unrestricted}
use Rattle.cookie_text.specs.Attribute.{HttpOnly, OfSite, MaxAge, Path, Domain, Gives}
use Rattle.cookie_text.specs.Printing.{attribute_text, escaped}
use Rattle.cookie_text.specs.Attribute.{AreDigits}
use Rattle.cookie_text.proofs.AttributeLemmas.{own}
use Rattle.std.proofs.lemmas.Fmt.{digits_decimal, digits_value-decimal, decimal_nonempty}

-- no semicolon in it
abbrev pub IsClean : List ℕ → Type 0
IsClean text = All (λ b. (b == semicolon) ≡ false) text

abbrev pub AreClean : List (List ℕ) → Type 0
AreClean [] = Unit {0}
AreClean (q ∷ qs) = IsClean q × AreClean qs

-- cut at its semicolons, a joined text gives back its pieces
pub split-joined : (p : List ℕ) (qs : List (List ℕ)) → IsClean p → AreClean qs
    → slice_split (λ b. b == semicolon) (p ++ flat_map (λ q. semicolon ∷ q) qs) ≡ p ∷ qs
split-joined p [] hp hq = rw (append-nil p) (slice_split_none (λ b. b == semicolon) p hp)
split-joined p (q ∷ qs) hp hq =
    slice_split_at (λ b. b == semicolon) p semicolon (q ++ flat_map (λ r. semicolon ∷ r) qs) hp refl
    ∙ ap (λ rs. p ∷ rs) (split-joined q qs hq.0 hq.1)

-- each printed attribute, with the space before it, gives itself
pub gives-HttpOnly : Gives (32 ∷ attribute_text HttpOnly) HttpOnly
unfolding name_of trim_start trim_end chars encode
gives-HttpOnly = record { named = refl; says = tt }

-- the value behind the first `=`
pub value_cut : (n v t : List ℕ) → position_or_len (λ b. b == equals) (n ++ equals ∷ v) ≡ length n → trim v ≡ t
    → value_of (n ++ equals ∷ v) ≡ Some t
unfolding value_of text_after
value_cut n v t at e =
    let within : nat_lt (length n) (length (n ++ equals ∷ v)) ≡ true = grind
    (arith, nat_tests, length-append n (equals ∷ v)) in
    let size : length n + 1 ≡ length (n ++ equals ∷ []) = simp length-append in
    let rest : drop (length n + 1) (n ++ equals ∷ v) ≡ v = ap (drop (length n + 1))
    (sym (append_assoc n (equals ∷ []) v)) ∙ drop_at (n ++ equals ∷ []) v (length n + 1) (sym size) in
    rw (at, within, rest) (ap Some e)

pub gives-Path : (t : List ℕ) → trim t ≡ t → Gives (32 ∷ attribute_text (Path t)) (Path t)
unfolding name_of trim_start trim_end chars encode
gives-Path t h = record { named = refl; says = value_cut (codes " Path") t t refl h }

pub gives-Domain : (t : List ℕ) → trim t ≡ t → 0 < length t → Gives (32 ∷ attribute_text (Domain t)) (Domain t)
unfolding name_of trim_start trim_end chars encode
gives-Domain t h some = record { named = refl; says = (value_cut (codes " Domain") t t refl h, some) }

pub gives-SameSite : (s : SameSite) → Gives (32 ∷ attribute_text (OfSite s)) (OfSite s)
unfolding name_of value_of text_after trim_start trim_end chars encode
gives-SameSite Strict = record { named = refl; says = (codes "Strict", refl, refl) }
gives-SameSite Lax = record { named = refl; says = (codes "Lax", refl, refl) }
gives-SameSite Unrestricted = record { named = refl; says = (codes "None", refl, refl) }

-- a byte that is neither white space nor past ASCII
abbrev pub IsGraphic : ℕ → Type 0
IsGraphic b = (33 ≤ b) × (b ≤ 126)

graphic_is_black : (b : ℕ) → IsGraphic b → is_whitespace b ≡ false
graphic_is_black b h = grind (arith, nat_tests)

graphic_scalar : (b : ℕ) → IsGraphic b → scalar b ≡ true
graphic_scalar b h = grind (arith, nat_tests)

graphic_scalars : (bs : List ℕ) → All IsGraphic bs → scalars bs ≡ true
graphic_scalars [] h = refl
graphic_scalars (b ∷ bs) h =
    λ i. graphic_scalar b (All-head IsGraphic b bs h) i && graphic_scalars bs (All-tail IsGraphic b bs h) i

ascii_of : (bs : List ℕ) → All IsGraphic bs → IsAscii bs
ascii_of bs h = IsAscii-from_all bs (All-weaker IsGraphic (λ b. b < 128) (λ b k. omega arith) bs h)

chars-graphic : (bs : List ℕ) → All IsGraphic bs → chars bs ≡ bs
chars-graphic bs h = ap chars (sym (encodes-IsAscii bs (ascii_of bs h))) ∙ chars-encodes bs (graphic_scalars bs h)

skip-graphic : (bs : List ℕ) → All IsGraphic bs → skip_leading_whitespace bs ≡ bs
skip-graphic [] h = refl
skip-graphic (b ∷ bs) h = rw (graphic_is_black b (All-head IsGraphic b bs h))

drop-graphic : (bs : List ℕ) → All IsGraphic bs → drop_trailing_whitespace bs ≡ bs
drop-graphic [] h = refl
drop-graphic (b ∷ bs) h =
    rw (graphic_is_black b (All-head IsGraphic b bs h), drop-graphic bs (All-tail IsGraphic b bs h))

-- a text of graphic bytes has nothing to trim
pub trim-graphic : (bs : List ℕ) → All IsGraphic bs → trim bs ≡ bs
unfolding trim_start trim_end
trim-graphic bs h =
    let same = encodes-IsAscii bs (ascii_of bs h) in
    let start : trim_start bs ≡ bs = ap (λ cs. encodes (skip_leading_whitespace cs)) (chars-graphic bs h)
    ∙ ap encodes (skip-graphic bs h) ∙ same in
    ap trim_end start ∙ ap (λ cs. encodes (drop_trailing_whitespace cs)) (chars-graphic bs h)
    ∙ ap encodes (drop-graphic bs h) ∙ same

abbrev pub IsDigitByte : ℕ → Type 0
IsDigitByte b = IsInRange 48 57 b

-- digits are graphic, and no semicolons
pub digit_at_range : (ds : List ℕ) → list_all is_ascii_digit ds ≡ true → All IsDigitByte ds
digit_at_range ds h = All-from_get_or IsDigitByte ds 0 (λ i within. digit_at ds i (own.to ds h) within)

pub trim-digits : (ds : List ℕ) → list_all is_ascii_digit ds ≡ true → trim ds ≡ ds
trim-digits ds h = trim-graphic ds (All-weaker IsDigitByte IsGraphic (λ b k. (omega arith, omega arith)) ds
    (digit_at_range ds h))

pub IsClean-digits : (ds : List ℕ) → list_all is_ascii_digit ds ≡ true → IsClean ds
IsClean-digits ds h = All-weaker IsDigitByte (λ b. (b == semicolon) ≡ false) (λ b k. grind (arith, nat_tests)) ds
    (digit_at_range ds h)

pub trim-decimal : (n : ℕ) → n < 2 ^ 64 → trim (decimal n) ≡ decimal n
trim-decimal n small = trim-digits (decimal n) (digits_decimal own n small)

-- an escaped text is graphic, and holds neither `;` nor `=`
abbrev pub IsPlain : ℕ → Type 0
IsPlain b = IsGraphic b × (b ≢ 59) × (b ≢ 61)

abbrev is_plain : ℕ → Bool
is_plain b = nat_le 33 b && nat_le b 126 && not (b == 59) && not (b == 61)

kept_is_plain : (b : ℕ) → should_percent_encode PROFILE b ≡ false → IsPlain b
unfolding should_percent_encode
kept_is_plain b kept = elim (cases_lt b 128) [
  | inl small ↦
      let table = agree_below_at (λ n. not (should_percent_encode PROFILE n) && not (is_plain n))
      (λ _. false) 128 b refl small in
      let plain : is_plain b ≡ true = grind (arith, nat_tests) in
      grind (arith, nat_tests)
  | inr large ↦ absurd (grind (arith, nat_tests))
]

pub All-IsPlain-escaped : (bs : List ℕ) → All IsPlain (escaped bs)
All-IsPlain-escaped bs = All-escaped IsPlain bs kept_is_plain (λ b h. grind arith)

pub gives-MaxAge : (n : ℕ) → n < 2 ^ 63 → Gives (32 ∷ attribute_text (MaxAge (pos n))) (MaxAge (pos n))
unfolding name_of trim_start trim_end chars encode
gives-MaxAge n small = record {
  named = refl;
  says =
      let text = decimal n in
      let wide : n < 2 ^ 64 = omega arith in
      let digits : AreDigits text = (decimal_nonempty n wide, digits_decimal own n wide) in
      let least : min (digits_value 10 text) (2 ^ 63 - 1) ≡ n = rw (digits_value-decimal own n wide) (omega arith) in
      (text, value_cut (codes " Max-Age") text text refl (trim-decimal n wide), inl (digits, ap pos (sym least)));
}
