-- Each printed attribute reads as what it settles to, and holds no semicolon.
use Rattle.std.proofs.Common.{◌≡◌, ℕ, suc, ◌<◌, ◌≤◌, ◌≤ℤ◌, ◌^◌, ◌==◌, true, false, not, List, [], ◌∷◌, ◌++◌, length, ℤ}
use Rattle.std.proofs.Common.{pos, negsuc, refl, inr, arith, codes, lit<}
use lib.Utf8.{encode}
use Rattle.std.specs.Prelude.{int_lt}
use Rattle.std.proofs.lemmas.Bool.{and_parts}
use Rattle.std.proofs.lemmas.Bool.Decides.{nat_tests}
use Rattle.std.proofs.lemmas.Fmt.{digits_decimal, decimal_nonempty}
use Rattle.std.proofs.lemmas.List.Elements.{All-nil, All-cons, All-append, All-weaker}
use Rattle.std.specs.Fmt.{decimal, signed_decimal}
use Rattle.std.specs.List.{All, list_all}
use Rattle.std.specs.Str.{trim, trim_start, trim_end, chars}
use Rattle.jiff_core.proofs.SignedLemmas.{signed_arith}
use Rattle.jiff_core.specs.Timestamp.{IsDurationNanos}
use Rattle.jiff.specs.Types.{DateTime}
use Rattle.cookie_text.specs.declared.draft.SameSite.{SameSite}
use Rattle.cookie_text.specs.declared.draft.SameSite.TheVariants.{Strict, Lax, None as Unrestricted}
use Rattle.cookie_text.specs.Attribute.{Attribute, HttpOnly, Secure, Partitioned, OfSite, MaxAge, Path, Domain, Expires}
use Rattle.cookie_text.specs.Attribute.{Gives}
use Rattle.cookie_text.specs.Normal.{whole_moment, IsPiece}
use Rattle.cookie_text.specs.Pieces.{semicolon, name_of}
use Rattle.cookie_text.specs.Printing.{attribute_text, date_text, whole_seconds}
use Rattle.cookie_text.proofs.DateNumbers.{own}
use Rattle.cookie_text.proofs.NormalLemmas.{settled}
use Rattle.cookie_text.proofs.PrintedDates.{stamp, printed_date, printed_moment, printed_quiet, trim-printed}
use Rattle.cookie_text.proofs.PrintedDates.{quiet_is_clean}
use Rattle.cookie_text.proofs.PrintedPieces.{IsClean, IsDigitByte, IsGraphic, IsClean-digits, digit_at_range}
use Rattle.cookie_text.proofs.PrintedPieces.{gives-HttpOnly, gives-Path, gives-Domain, gives-SameSite, gives-MaxAge}
use Rattle.cookie_text.proofs.PrintedPieces.{trim-graphic, value_cut}

-- a printed attribute: no semicolon, and it gives what it settles to
pub record ReadsAs (a : Attribute) : Type 0 where
  pub clean : IsClean (attribute_text a)
  pub gives : Gives (32 ∷ attribute_text a) (settled a)

-- a text without a semicolon, by its test
pub clean_of : (text : List ℕ) → list_all (λ b. not (b == 59)) text ≡ true → IsClean text
clean_of [] h = All-nil (λ b. (b == semicolon) ≡ false)
clean_of (b ∷ bs) h =
    let p = and_parts (not (b == 59)) (list_all (λ b. not (b == 59)) bs) h in
    All-cons (λ b. (b == semicolon) ≡ false) b bs (grind (arith, nat_tests, p.0)) (clean_of bs p.1)

pub clean_join : (a b : List ℕ) → IsClean a → IsClean b → IsClean (a ++ b)
clean_join a b ha hb = All-append (λ b. (b == semicolon) ≡ false) a b ha hb

pub reads-HttpOnly : ReadsAs HttpOnly
reads-HttpOnly = record { clean = clean_of (codes "HttpOnly") refl; gives = gives-HttpOnly }

gives-Secure : Gives (32 ∷ attribute_text Secure) Secure
unfolding name_of trim_start trim_end chars encode
gives-Secure = record { named = refl; says = tt }

pub reads-Secure : ReadsAs Secure
reads-Secure = record { clean = clean_of (codes "Secure") refl; gives = gives-Secure }

gives-Partitioned : Gives (32 ∷ attribute_text Partitioned) Partitioned
unfolding name_of trim_start trim_end chars encode
gives-Partitioned = record { named = refl; says = tt }

pub reads-Partitioned : ReadsAs Partitioned
reads-Partitioned = record { clean = clean_of (codes "Partitioned") refl; gives = gives-Partitioned }

pub reads-SameSite : (s : SameSite) → ReadsAs (OfSite s)
reads-SameSite Strict = record { clean = clean_of (codes "SameSite=Strict") refl; gives = gives-SameSite Strict }
reads-SameSite Lax = record { clean = clean_of (codes "SameSite=Lax") refl; gives = gives-SameSite Lax }
reads-SameSite Unrestricted = record {
  clean = clean_of (codes "SameSite=None") refl;
  gives = gives-SameSite Unrestricted;
}

pub reads-Path : (text : List ℕ) → IsPiece text → ReadsAs (Path text)
reads-Path text h = record {
  clean = clean_join (codes "Path=") text (clean_of (codes "Path=") refl) h.clean;
  gives = gives-Path text h.trimmed;
}

pub reads-Domain : (text : List ℕ) → IsPiece text → 0 < length text → ReadsAs (Domain text)
reads-Domain text h some = record {
  clean = clean_join (codes "Domain=") text (clean_of (codes "Domain=") refl) h.clean;
  gives = gives-Domain text h.trimmed some;
}

-- a minus and digits have nothing to trim
trim-minus : (ds : List ℕ) → list_all Rattle.std.specs.Char.is_ascii_digit ds ≡ true → trim (45 ∷ ds) ≡ 45 ∷ ds
trim-minus ds h =
    let graphic = All-weaker IsDigitByte IsGraphic (λ b k. (omega arith, omega arith)) ds (digit_at_range ds h) in
    trim-graphic (45 ∷ ds) (All-cons IsGraphic 45 ds (lit< tt, lit< tt) graphic)

gives-negative : (n : ℕ) → n < 2 ^ 63 → Gives (32 ∷ attribute_text (MaxAge (negsuc n))) (MaxAge (pos 0))
unfolding name_of trim_start trim_end chars encode
gives-negative n small = record {
  named = refl;
  says =
      let digits = decimal (suc n) in
      let text = 45 ∷ digits in
      let wide : suc n < 2 ^ 64 = omega arith in
      let are = digits_decimal own (suc n) wide in (
        text,
        value_cut (codes " Max-Age") text text refl (trim-minus digits are),
        inr
            (digits, refl, (decimal_nonempty (suc n) wide, are), refl),
      );
}

-- seconds of 64 bits
abbrev pub AreSeconds : ℤ → Type 0
AreSeconds z = (negsuc 9_223_372_036_854_775_807 ≤ℤ z) × (z ≤ℤ pos 9_223_372_036_854_775_807)

pub reads-MaxAge : (z : ℤ) → AreSeconds z → ReadsAs (MaxAge z)
reads-MaxAge (pos n) h =
    let small : n < 2 ^ 63 = omega (arith, signed_arith, h.1) in
    let wide : n < 2 ^ 64 = omega arith in
    record {
      clean = clean_join (codes "Max-Age=") (decimal n) (clean_of (codes "Max-Age=") refl)
          (IsClean-digits (decimal n) (digits_decimal own n wide));
      gives = gives-MaxAge n small;
    }
reads-MaxAge (negsuc n) h =
    let small : n < 2 ^ 63 = omega (arith, signed_arith, h.0) in
    let wide : suc n < 2 ^ 64 = omega arith in
    record {
      clean = clean_join (codes "Max-Age=-") (decimal (suc n)) (clean_of (codes "Max-Age=-") refl)
          (IsClean-digits (decimal (suc n)) (digits_decimal own (suc n) wide));
      gives = gives-negative n small;
    }

pub whole_seconds_fit : (nanos : ℤ) → IsDurationNanos nanos → AreSeconds (whole_seconds nanos)
whole_seconds_fit (pos a) h =
    let low = h.0 in
    let high = h.1 in
    (omega (arith, signed_arith), omega (arith, signed_arith, high))
whole_seconds_fit (negsuc a) h =
    let low = h.0 in
    let high = h.1 in
    (omega (arith, signed_arith, low), omega (arith, signed_arith))

gives-Expires : (d : DateTime) (y : ℕ) → d.date.year ≡ pos y → 100 ≤ y
    → Gives (32 ∷ attribute_text (Expires d)) (Expires (whole_moment d))
unfolding name_of trim_start trim_end chars encode
gives-Expires d y year long = record {
  named = refl;
  says = (
    date_text d,
    value_cut (codes " Expires") (date_text d) (date_text d) refl (trim-printed d y year long),
    (stamp d y year long, printed_date d y year long, printed_moment d y year long),
  );
}

long_year : (z : ℤ) → int_lt z (pos 100) ≡ false → (y : ℕ) × (z ≡ pos y) × (100 ≤ y)
long_year (pos y) h = (y, refl, grind (arith, nat_tests))
long_year (negsuc n) h = absurd (cc)

pub reads-Expires : (d : DateTime) → int_lt d.date.year (pos 100) ≡ false → ReadsAs (Expires d)
reads-Expires d h =
    let year = long_year d.date.year h in
    record {
      clean = clean_join (codes "Expires=") (date_text d) (clean_of (codes "Expires=") refl)
          (quiet_is_clean (date_text d) (printed_quiet d year.0 year.1 year.2));
      gives = gives-Expires d year.0 year.1 year.2;
    }
