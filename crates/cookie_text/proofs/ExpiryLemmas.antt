-- The ends of the calendar, in nanoseconds, and sums that stop there.
use Rattle.std.proofs.Common.{◌≡◌, [], Some, ℤ, pos, ◌+ℤ◌, ◌≤ℤ◌, ◌<ℤ◌, true, false, refl, sym, ap, ◌∙◌, subst, arith}
use Rattle.std.proofs.Common.{rules, int_lt}
use Rattle.std.specs.Prelude.{neg_ℤ, int_lt}
use Rattle.std.proofs.lemmas.Int.{ints, by_lt_z}
use Rattle.jiff.specs.Types.{DateTime}
use Rattle.jiff_core.specs.DateTime.{civil_nanos, IsCivilNanos}
use Rattle.jiff_core.proofs.SignedLemmas.{signed_arith}
use Rattle.jiff_core.proofs.DateTimeLemmas.{civil_nanos-parts, civil_nanos_range}
use Rattle.jiff.specs.Words.{IsEndDateTime}
use Rattle.jiff_core.proofs.DateLemmas.{days_from_civil-max, days_from_civil-min}
use Rattle.cookie_text.specs.declared.expiration.Expiration.TheVariants.{DateTime as At}
use Rattle.cookie_text.specs.Record.{Seen}
use Rattle.cookie_text.specs.Setting.{latest_end, first_moment, last_moment, stopped, twenty_years, one_year}
use Rattle.cookie_text.specs.Setting.{with_max_age, with_value, IsAfter, SetsExpires, MakesPermanent, MakesRemoval}

pub civil_nanos-last : (m : DateTime) → IsEndDateTime false m → civil_nanos m ≡ last_moment
civil_nanos-last m h = civil_nanos-parts m ∙ (rw (h.0.0, h.0.1, h.0.2, h.1, days_from_civil-max) refl)

pub civil_nanos-first : (m : DateTime) → IsEndDateTime true m → civil_nanos m ≡ first_moment
civil_nanos-first m h = civil_nanos-parts m ∙ (rw (h.0.0, h.0.1, h.0.2, h.1, days_from_civil-min) refl)

-- 999 nanoseconds before the last moment
pub latest_is : (r : DateTime) (x y : ℤ) → x ≡ last_moment → y ≡ pos 999
    → (IsCivilNanos (x +ℤ neg_ℤ y) → civil_nanos r ≡ x +ℤ neg_ℤ y) → civil_nanos r ≡ latest_end
latest_is r x y ex ey h = (rw (ex, ey) at h) (search rules, search rules)

at_low : (x : ℤ) → x <ℤ first_moment → stopped x ≡ first_moment
at_low x h = grind (arith, ints)

at_high : (x : ℤ) → last_moment <ℤ x → stopped x ≡ last_moment
at_high x h = grind (arith, ints)

within : (x : ℤ) → first_moment ≤ℤ x → x ≤ℤ last_moment → stopped x ≡ x
within x h k = grind (arith, ints)

below_zero : (n : ℤ) → n <ℤ pos 0 → int_lt n (pos 0) ≡ true
below_zero n h = grind (arith, ints)

from_zero : (n : ℤ) → pos 0 ≤ℤ n → int_lt n (pos 0) ≡ false
from_zero n h = grind (arith, ints)

-- a sum that stops at the ends
pub stopped_is : (now r : DateTime) (n : ℤ) → (IsCivilNanos (civil_nanos now +ℤ n)
    → civil_nanos r ≡ civil_nanos now +ℤ n) → (¬ (IsCivilNanos (civil_nanos now +ℤ n))
    → IsEndDateTime (int_lt n (pos 0)) r) → civil_nanos r ≡ stopped (civil_nanos now +ℤ n)
stopped_is now r n fits beyond =
    let x : ℤ = civil_nanos now +ℤ n in
    let range = civil_nanos_range now in
    by_lt_z x first_moment
    (λ low.
    let back : n <ℤ pos 0 = omega (arith, signed_arith, range) in
    let out : ¬ (IsCivilNanos x) = λ h. omega (arith, signed_arith, h.0) in
    civil_nanos-first r (subst (λ b. IsEndDateTime b r) (below_zero n back) (beyond out)) ∙ sym (at_low x low))
    (λ from. by_lt_z last_moment x
    (λ high.
    let forth : pos 0 ≤ℤ n = omega (arith, signed_arith, range) in
    let out : ¬ (IsCivilNanos x) = λ h. omega (arith, signed_arith, h.1) in
    civil_nanos-last r (subst (λ b. IsEndDateTime b r) (from_zero n forth) (beyond out)) ∙ sym (at_high x high))
    (λ to. fits (from, to) ∙ sym (within x from to)))

pub permanent_is : (old set new : Seen) (now end : DateTime) (n : ℤ) → n ≡ twenty_years
    → set ≡ with_max_age old (Some n) → IsAfter now n end → SetsExpires set (At end) new → MakesPermanent old now new
permanent_is old set new now end n e is after sets =
    let whole : set ≡ with_max_age old (Some twenty_years) = is ∙ ap (λ m. with_max_age old (Some m)) e in
    (end, subst (λ m. IsAfter now m end) e after, subst (λ s. SetsExpires s (At end) new) whole sets)

pub removal_is : (old empty set new : Seen) (now end : DateTime) (n m : ℤ) → n ≡ neg_ℤ one_year → m ≡ pos 0
    → empty ≡ with_value old [] → set ≡ with_max_age empty (Some m) → IsAfter now n end → SetsExpires set (At end) new
    → MakesRemoval old now new
removal_is old empty set new now end n m e z is_empty is after sets =
    let whole : set ≡ with_max_age (with_value old []) (Some (pos 0)) =
    is ∙ ap (λ k. with_max_age empty (Some k)) z ∙ ap (λ s. with_max_age s (Some (pos 0))) is_empty in
    (end, subst (λ k. IsAfter now k end) e after, subst (λ s. SetsExpires s (At end) new) whole sets)
