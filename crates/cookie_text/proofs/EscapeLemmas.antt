-- The set of the code has the bytes that are escaped.
use Rattle.std.proofs.Common.{◌≡◌, ℕ, ◌<◌, ◌∷◌, ◌++◌, List, [], All, length, cond, true, false, inl, inr, refl, sym, ap}
use Rattle.std.proofs.Common.{subst, ◌∙◌, arith, nat_lt, nat_le}
use Rattle.std.proofs.lemmas.Bool.{agree_below_at, cases_lt}
use Rattle.std.proofs.lemmas.Bool.Decides.{nat_tests}
use Rattle.percent_encoding.specs.AsciiSet.{should_percent_encode}
use Rattle.percent_encoding.specs.Percent.{percent_encode, percent_encode_byte, percent_decode}
use Rattle.percent_encoding.proofs.PercentLemmas.{IsByte, IsEscapeByte, All-percent_encode, percent_encode_nonempty}
use Rattle.percent_encoding.proofs.PercentLemmas.{round_trip}
use Rattle.cookie_text.specs.declared.escape.TheConstants.{PROFILE}
use Rattle.cookie_text.specs.Printing.{is_escaped, escaped}

past_ascii : (b : ℕ) → nat_lt b 128 ≡ false → should_percent_encode PROFILE b ≡ is_escaped b
unfolding should_percent_encode
past_ascii b h =
    let low : nat_lt b 32 ≡ false = grind (arith, nat_tests) in
    let high : nat_le 127 b ≡ true = grind (arith, nat_tests) in
    rw (h, low, high) refl

pub same_byte : (b : ℕ) → should_percent_encode PROFILE b ≡ is_escaped b
unfolding should_percent_encode
same_byte b = elim (cases_lt b 128) [
  | inl small ↦ agree_below_at (should_percent_encode PROFILE) is_escaped 128 b refl small
  | inr large ↦ past_ascii b (grind (arith, nat_tests))
]

-- what the library writes for that set
pub encoded_by_profile : (text : List ℕ) → percent_encode PROFILE text ≡ escaped text
unfolding percent_encode escaped
encoded_by_profile [] = refl
encoded_by_profile (b ∷ bs) =
    λ i. cond (same_byte b i) (percent_encode_byte b) (b ∷ []) ++ encoded_by_profile bs i

-- what holds of kept bytes and of those of an escape
pub All-escaped : (P : ℕ → Type 0) (text : List ℕ) → ((b : ℕ) → should_percent_encode PROFILE b ≡ false → P b)
    → ((b : ℕ) → IsEscapeByte b → P b) → All P (escaped text)
All-escaped P text kept escape = subst (All P) (encoded_by_profile text) (All-percent_encode P PROFILE text kept escape)

pub escaped_nonempty : (text : List ℕ) → 0 < length text → 0 < length (escaped text)
escaped_nonempty text some =
    subst (λ t. 0 < length t) (encoded_by_profile text) (percent_encode_nonempty PROFILE text some)

pub percent_decode-escaped : (text : List ℕ) → All IsByte text → percent_decode (escaped text) ≡ text
percent_decode-escaped text bytes = ap percent_decode (sym (encoded_by_profile text))
    ∙ round_trip PROFILE text refl bytes
