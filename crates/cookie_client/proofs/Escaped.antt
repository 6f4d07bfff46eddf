-- What an escaped text is made of, and that it decodes.
use Rattle.std.proofs.Common.{◌≡◌, ◌≢◌, ℕ, ◌<◌, ◌≤◌, false, cond, List, [], ◌∷◌, ◌++◌, All, refl, sym, ap, subst, ◌∙◌}
use Rattle.std.proofs.Common.{⊎_elim, arith}
use Rattle.std.specs.List.{AllByRecursion}
use Rattle.std.proofs.lemmas.Bool.{cases_lt, agree_below_at}
use Rattle.std.proofs.lemmas.Bool.Decides.{nat_tests}
use Rattle.std.proofs.lemmas.List.Elements.{recursion_from_All}
use Rattle.percent_encoding.specs.AsciiSet.{should_percent_encode}
use Rattle.percent_encoding.specs.Percent.{percent_encode, percent_encode_byte, percent_decode}
use Rattle.percent_encoding.proofs.PercentLemmas.{IsByte, IsEscapeByte, All-percent_encode, round_trip}
use Rattle.cookie_text.specs.declared.escape.TheConstants.{PROFILE}
use Rattle.cookie_text.specs.Printing.{is_escaped, escaped}

-- the set of the code has the bytes of the list
set_below : (b : ℕ) → b < 128 → is_escaped b ≡ should_percent_encode PROFILE b
unfolding should_percent_encode
set_below b small = agree_below_at is_escaped (should_percent_encode PROFILE) 128 b refl small

set_above : (b : ℕ) → 128 ≤ b → is_escaped b ≡ should_percent_encode PROFILE b
unfolding should_percent_encode
set_above b large = grind (arith, nat_tests)

same_set : (b : ℕ) → is_escaped b ≡ should_percent_encode PROFILE b
same_set b = ⊎_elim (set_below b) (set_above b) (cases_lt b 128)

-- a graphic byte that parts nothing
pub record IsPlain (b : ℕ) : Type 0 where
  pub low : 33 ≤ b
  pub high : b < 127
  pub no_semicolon : b ≢ 59
  pub no_equals : b ≢ 61

kept_plain : (b : ℕ) → is_escaped b ≡ false → IsPlain b
kept_plain b kept = record {
  low = grind (arith, nat_tests);
  high = grind (arith, nat_tests);
  no_semicolon = grind (arith, nat_tests);
  no_equals = grind (arith, nat_tests);
}

escape_plain : (b : ℕ) → IsEscapeByte b → IsPlain b
escape_plain b h = record { low = grind arith; high = grind arith; no_semicolon = grind arith; no_equals = grind arith }

-- what the library writes for the set of the code
encoded_by_profile : (text : List ℕ) → percent_encode PROFILE text ≡ escaped text
unfolding percent_encode escaped
encoded_by_profile [] = refl
encoded_by_profile (b ∷ bs) =
    λ i. cond (sym (same_set b) i) (percent_encode_byte b) (b ∷ []) ++ encoded_by_profile bs i

pub escaped_plain : (text : List ℕ) → AllByRecursion IsPlain (escaped text)
escaped_plain text =
    recursion_from_All IsPlain _ (subst (All IsPlain) (encoded_by_profile text)
    (All-percent_encode IsPlain PROFILE text (λ b kept. kept_plain b (same_set b ∙ kept)) escape_plain))

-- an escaped text decodes to what it was
pub decoded_escaped : (text : List ℕ) → All IsByte text → percent_decode (escaped text) ≡ text
decoded_escaped text bytes = ap percent_decode (sym (encoded_by_profile text)) ∙ round_trip PROFILE text refl bytes
