-- The moments of a play among the moments of the calendar.
use Rattle.std.proofs.Common.{◌≡◌, ℕ, ◌*◌, sym, refl, ap, ◌∙◌, arith, ℤ, pos, negsuc, ◌+ℤ◌, ◌*ℤ◌, ◌<ℤ◌, ◌≤ℤ◌, IsTrue}
use Rattle.std.proofs.Common.{nat_eq, of_z, w32}
use Rattle.std.proofs.lemmas.Bool.Decides.{nat_tests}
use Rattle.jiff.specs.Types.{DateTime}
use Rattle.jiff.specs.Words.{civil_nanos, civil_seconds, IsYmd, IsHms, epoch_day, time_nanos}
use Rattle.jiff.proofs.Family.{civil_nanos-parts, civil_nanos-civil_seconds}
use Rattle.jiff.proofs.SpanFacts.{signed_arith}
use Rattle.jiff_core.specs.Calendar.{days_from_civil, day_count, days_of_years, days_of_months}
use Rattle.cookie_client.specs.Moment.{second_1971}
use Rattle.cookie_run.specs.Moments.{second_9999, IsMoment}

-- the days on which the years begin
pub days_1970 : days_from_civil (pos 1970) 1 1 ≡ pos 0
unfolding days_from_civil day_count days_of_years days_of_months
days_1970 = refl

pub days_1971 : days_from_civil (pos 1971) 1 1 ≡ pos 365
unfolding days_from_civil day_count days_of_years days_of_months
days_1971 = refl

pub days_9999 : days_from_civil (pos 9999) 1 1 ≡ pos 2_932_532
unfolding days_from_civil day_count days_of_years days_of_months
days_9999 = refl

-- a moment at the beginning of a day
pub day_begins : (d : DateTime) (y day : ℤ) → IsYmd y (pos 1) (pos 1) d.date
    → IsHms (pos 0) (pos 0) (pos 0) (pos 0) d.time → days_from_civil y 1 1 ≡ day
    → civil_nanos d ≡ day *ℤ pos 86_400_000_000_000
day_begins d y day date time is =
    let m : d.date.month ≡ 1 = omega (arith, signed_arith, date.1) in
    let n : d.date.day ≡ 1 = omega (arith, signed_arith, date.2) in
    let t : time_nanos d.time ≡ 0 = omega (arith, signed_arith, time.0, time.1, time.2, time.3) in
    let at : epoch_day d.date ≡ day = (λ i. days_from_civil (date.0 i) (m i) (n i)) ∙ is in
    civil_nanos-parts d ∙ ((λ i. at i *ℤ pos 86_400_000_000_000 +ℤ pos (t i)) ∙ omega (arith, signed_arith))

not_negative : (x : ℤ) → pos 0 ≤ℤ x → (n : ℕ) × (x ≡ pos n)
not_negative (pos n) h = (n, refl)
not_negative (negsuc n) h = absurd (omega (arith, signed_arith))

-- a whole second within the years
pub moment_within : (d : DateTime) → d.time.subsec_nanosecond ≡ 0 → pos (second_1971 * 1_000_000_000) ≤ℤ civil_nanos d
    → civil_nanos d <ℤ pos (second_9999 * 1_000_000_000) → IsMoment (civil_nanos d)
moment_within d whole from until =
    let is = civil_nanos-civil_seconds d in
    let s = not_negative (civil_seconds d) (omega (arith, signed_arith, is, whole, from)) in
    record {
      second = s.0;
      whole = omega (arith, signed_arith, is, whole, s.1);
      from = omega (arith, signed_arith, is, whole, s.1, from);
      until = omega (arith, signed_arith, is, whole, s.1, until);
    }

pub whole_of_moment : (d : DateTime) → IsMoment (civil_nanos d) → d.time.subsec_nanosecond ≡ 0
whole_of_moment d m = omega (arith, signed_arith, civil_nanos-civil_seconds d, m.whole, d.time.subsec_in)

pub within_of_moment : (n : ℤ) → IsMoment n → (pos (second_1971 * 1_000_000_000) ≤ℤ n)
    × (n <ℤ pos (second_9999 * 1_000_000_000))
within_of_moment n m = (omega (arith, signed_arith, m.whole, m.from), omega (arith, signed_arith, m.whole, m.until))

-- the test on the fraction
pub zero_test : (r : ℤ) (n : ℕ) → r ≡ pos n → of_z w32 r ≡ 0 → n ≡ 0
zero_test r n e t = sym (ap (of_z w32) e) ∙ t

pub zero_tests : (r : ℤ) (n : ℕ) → r ≡ pos n → n ≡ 0 → IsTrue (nat_eq (of_z w32 r) 0)
zero_tests r n e z = rw (e, z) refl

pub not_zero : (k : ℕ) → (k ≡ 0 → ⊥) → IsTrue (nat_eq k 0) → ⊥
not_zero k h t = grind (arith, nat_tests)

-- the bounds of the moments, by the calendar
bounds : (pos second_1971 ≡ days_from_civil (pos 1971) 1 1 *ℤ pos 86_400)
    × (pos second_9999 ≡ days_from_civil (pos 9999) 1 1 *ℤ pos 86_400)
unfolding days_from_civil day_count days_of_years days_of_months
bounds = (refl, refl)
