-- Lemmas on the attributes of a piece.
use Rattle.std.proofs.Common.{◌≡◌, ◌≢◌, ℕ, ◌<◌, ◌≤◌, ◌^◌, ◌-◌, min, ℤ, pos, List, ◌∷◌, length, Some, Result, Err, sym}
use Rattle.std.proofs.Common.{ap, subst, inl, inr, arith}
use Rattle.std.proofs.lemmas.Option.{same_Some}
pub use Rattle.cookie_text.proofs.DateNumbers.{own}
use Rattle.std.proofs.lemmas.Result.{OkIff-at_err}
use Rattle.std.specs.Result.{OkIff}
use Rattle.std.specs.Str.Parse.{digits_value}
use Rattle.cookie_text.specs.declared.attribute.Kind.TheVariants as kinds
use Rattle.cookie_text.specs.Date.{Stamp, IsDateText}
use Rattle.cookie_text.specs.Attribute.{Attribute, MaxAge, Expires, kind, Says, AreDigits, IsSeconds}

-- where the digits are too large for a number
pub largest_seconds : {E : Type 0} (text : List ℕ) (r : Result ℤ E) (e : E) → AreDigits text
    → OkIff r ((0 < length text) × (digits_value 10 text < 2 ^ 63)) (pos (digits_value 10 text)) → r ≡ Err e
    → IsSeconds text (pos 9223372036854775807)
largest_seconds text r e digits parsed failed =
    let large : 2 ^ 63 ≤ digits_value 10 text = omega (
      arith,
      λ (h : digits_value 10 text < 2 ^ 63). OkIff-at_err r _ _
          e parsed failed (digits.0, h),
    ) in
    let least : min (digits_value 10 text) (2 ^ 63 - 1) ≡ 9223372036854775807 = omega arith in
    inl (digits, ap pos (sym least))

-- a text that is neither digits nor begins with a minus
pub no_seconds : (text : List ℕ) → ¬ (AreDigits text) → ((rest : List ℕ) → text ≢ 45 ∷ rest) → (z : ℤ)
    → ¬ (IsSeconds text z)
no_seconds text none minus z (inl h) = none h.0
no_seconds text none minus z (inr h) = minus h.0 h.1

pub says_no_seconds : (text : List ℕ) → ((z : ℤ) → ¬ (IsSeconds text z)) → (a : Attribute) → kind a ≡ kinds.MaxAge
    → ¬ (Says (Some text) a)
says_no_seconds text none (MaxAge z) e says = none z (subst (λ t. IsSeconds t z) (sym (same_Some _ _ says.1)) says.2)
says_no_seconds text none _ e says = cc

pub says_no_moment : (text : List ℕ) → ((s : Stamp) → ¬ (IsDateText text s)) → (a : Attribute) → kind a ≡ kinds.Expires
    → ¬ (Says (Some text) a)
says_no_moment text none (Expires d) e says =
    none says.2.0 (subst (λ t. IsDateText t says.2.0) (sym (same_Some _ _ says.1)) says.2.1)
says_no_moment text none _ e says = cc
