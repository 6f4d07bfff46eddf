-- The epoch and the latest moment in nanoseconds, and sums that stop at the latter.
use Rattle.std.proofs.Common.{◌≡◌, ℕ, ◌-◌, ◌^◌, ◌≤◌, ℤ, pos, ◌+ℤ◌, ◌*ℤ◌, ◌≤ℤ◌, ◌<ℤ◌, true, false, refl, sym, ap, ◌∙◌}
use Rattle.std.proofs.Common.{subst, arith}
use Rattle.std.specs.Prelude.{int_lt, FitsSigned, Result, Ok, Err}
use Rattle.std.specs.Result.{OkIff, result_unwrap_or}
use Rattle.std.specs.Int.{int_min, w64}
use Rattle.std.proofs.lemmas.Int.{ints, by_lt_z}
use Rattle.jiff.specs.Types.{DateTime}
use Rattle.jiff.specs.Words.{IsYmd, IsHms, IsEndDateTime}
use Rattle.jiff.proofs.SpanFacts.{signed_arith}
use Rattle.jiff_core.specs.DateTime.{civil_nanos, civil_seconds, IsCivilNanos}
use Rattle.jiff_core.specs.Time.{time_nanos}
use Rattle.jiff_core.proofs.DateLemmas.{days_from_civil-max}
use Rattle.jiff_core.proofs.DateTimeLemmas.{civil_nanos-parts, civil_nanos_range}
use Rattle.jiff_core.proofs.StandardFacts.{known_days}
use Rattle.store_parts.specs.Expiry.{latest, epoch, seconds, expiry_after, whole_second}

pub civil_nanos-epoch : (m : DateTime) → IsYmd (pos 1970) (pos 1) (pos 1) m.date
    → IsHms (pos 0) (pos 0) (pos 0) (pos 0) m.time → civil_nanos m ≡ epoch
civil_nanos-epoch m d t =
    let year = d.0 in
    let month : m.date.month ≡ 1 = omega (arith, signed_arith, d.1) in
    let day : m.date.day ≡ 1 = omega (arith, signed_arith, d.2) in
    let time : time_nanos m.time ≡ 0 = omega (arith, signed_arith, t.0, t.1, t.2, t.3) in
    civil_nanos-parts m ∙ rw (year, month, day, time, known_days.0) refl

pub civil_nanos-latest : (m : DateTime) → IsYmd (pos 9999) (pos 12) (pos 31) m.date
    → IsHms (pos 23) (pos 59) (pos 59) (pos 0) m.time → civil_nanos m ≡ latest
civil_nanos-latest m d t =
    let year = d.0 in
    let month : m.date.month ≡ 12 = omega (arith, signed_arith, d.1) in
    let day : m.date.day ≡ 31 = omega (arith, signed_arith, d.2) in
    let time : time_nanos m.time ≡ 86_399_000_000_000 = omega (arith, signed_arith, t.0, t.1, t.2, t.3) in
    civil_nanos-parts m ∙ rw (year, month, day, time, days_from_civil-max) refl

-- the calendar's last moment, which is less than a second after the latest expiry
abbrev last : ℤ
last = pos 253_402_300_799_999_999_999

civil_nanos-last : (m : DateTime) → IsEndDateTime false m → civil_nanos m ≡ last
civil_nanos-last m h =
    civil_nanos-parts m ∙ rw (h.0.0, h.0.1, h.0.2, h.1, days_from_civil-max) refl

at_latest : (x : ℤ) → latest ≤ℤ x → int_min x latest ≡ latest
at_latest x h = grind (arith, ints)

is_positive : (n : ℤ) → pos 0 <ℤ n → int_lt (pos 0) n ≡ true
is_positive n h = grind (arith, ints)

is_forward : (n : ℤ) → pos 0 <ℤ n → int_lt n (pos 0) ≡ false
is_forward n h = grind (arith, ints)

pub expiry_after-positive : (n now : ℤ) → pos 0 <ℤ n
    → expiry_after n now ≡ int_min (now +ℤ n) latest
expiry_after-positive n now h = rw (is_positive n h) refl

-- a sum that stops at the calendar's end, cut at the latest expiry
pub int_min-stopped : (now sum : DateTime) (n : ℤ) → pos 0 <ℤ n
    → (IsCivilNanos (civil_nanos now +ℤ n) → civil_nanos sum ≡ civil_nanos now +ℤ n)
    → (¬ (IsCivilNanos (civil_nanos now +ℤ n)) → IsEndDateTime (int_lt n (pos 0)) sum)
    → int_min (civil_nanos sum) latest ≡ expiry_after n (civil_nanos now)
int_min-stopped now sum n forth fits beyond =
    let x : ℤ = civil_nanos now +ℤ n in
    let range = civil_nanos_range now in
    by_lt_z last x
    (λ high.
    let out : ¬ (IsCivilNanos x) = λ h. omega (arith, signed_arith, h.1) in
    let end = civil_nanos-last sum
    (subst (λ b. IsEndDateTime b sum) (is_forward n forth) (beyond out)) in
    let past : latest ≤ℤ x = omega (arith, signed_arith) in
    ap (λ z. int_min z latest) end ∙ sym (at_latest x past)
    ∙ sym (expiry_after-positive n (civil_nanos now) forth))
    (λ to.
    let from = fits (omega (arith, signed_arith, range.0), to) in
    ap (λ z. int_min z latest) from ∙ sym (expiry_after-positive n (civil_nanos now) forth))

-- from some length on, all lengths end at the latest expiry
pub expiry_after-long : (now : DateTime) (n m : ℕ) → 2 ^ 63 - 1 ≤ n → 2 ^ 63 - 1 ≤ m
    → expiry_after (seconds n) (civil_nanos now) ≡ expiry_after (seconds m) (civil_nanos now)
expiry_after-long now n m long_n long_m =
    let range = civil_nanos_range now in
    let past_n : latest ≤ℤ (civil_nanos now +ℤ seconds n) = omega (arith, signed_arith, range.0) in
    let past_m : latest ≤ℤ (civil_nanos now +ℤ seconds m) = omega (arith, signed_arith, range.0) in
    let pos_n : pos 0 <ℤ seconds n = omega (arith, signed_arith) in
    let pos_m : pos 0 <ℤ seconds m = omega (arith, signed_arith) in
    expiry_after-positive (seconds n) (civil_nanos now) pos_n
    ∙ at_latest (civil_nanos now +ℤ seconds n) past_n
    ∙ sym (at_latest (civil_nanos now +ℤ seconds m) past_m)
    ∙ sym (expiry_after-positive (seconds m) (civil_nanos now) pos_m)

not_small : (n : ℕ) → ¬ (FitsSigned w64 (pos n)) → 2 ^ 63 - 1 ≤ n
not_small n out = grind (arith, ints)

-- a length of more seconds than an `i64` holds is taken as the most that it holds
pub expiry_after-capped : {E : Type 0} (now : DateTime) (n : ℕ) (small : Result ℤ E) (s : ℤ)
    → OkIff small (FitsSigned w64 (pos n)) (pos n)
    → s ≡ result_unwrap_or small (pos 9223372036854775807)
    → expiry_after (s *ℤ pos 1_000_000_000) (civil_nanos now)
    ≡ expiry_after (seconds n) (civil_nanos now)
expiry_after-capped now n (Ok z) s fits is =
    ap (λ k. expiry_after (k *ℤ pos 1_000_000_000) (civil_nanos now)) (is ∙ fits.1)
expiry_after-capped now n (Err e) s out is =
    ap (λ k. expiry_after (k *ℤ pos 1_000_000_000) (civil_nanos now)) is
    ∙ expiry_after-long now (2 ^ 63 - 1) n (omega arith) (not_small n out)

-- the second that the calendar shows of a moment
pub whole_second_shown : (moment : DateTime) → whole_second (civil_nanos moment) ≡ civil_seconds moment
unfolding civil_nanos civil_seconds
whole_second_shown moment =
    let sub = moment.time.subsec_in in
    omega (arith, signed_arith)
