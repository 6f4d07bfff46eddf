-- What is printed of a date is read as its whole second.
use Rattle.std.proofs.Common.{◌≡◌, ℕ, ℤ, pos, ◌+◌, ◌*◌, ◌/◌, ◌%◌, ◌<◌, [], ◌∷◌, take, Some, refl}
use Rattle.std.proofs.Common.{◌∙◌, subst, arith}
use Rattle.std.specs.Prelude.{unsigned_abs, neg_ℤ, codes, map, ◌≤ℤ◌, ◌+ℤ◌, ◌*ℤ◌, ◌-ℤ◌, IsTrue}
use Rattle.std.specs.Int.{IsInRange}
use Rattle.std.specs.Str.Parse.{digits_value}
use Rattle.std.specs.Char.{digit_value}
use Rattle.std.proofs.lemmas.Bool.Decides.{nat_tests}
use Rattle.std.proofs.lemmas.Int.{ints}
use Rattle.std.proofs.lemmas.Slice.Eq.{bytes_eq-Decides}
use Rattle.jiff.specs.Types.{DateTime}
use Rattle.jiff.specs.Words.{civil_nanos, civil_seconds, epoch_day}
use Rattle.jiff.proofs.SpanFacts.{signed_arith}
use Rattle.jiff.proofs.Family.{civil_nanos-parts, civil_nanos-civil_seconds, civil_nanos_range}
use Rattle.jiff_core.specs.Calendar.{days_from_civil, days_in_month, day_count, days_of_years, days_of_months}
use Rattle.jiff_core.specs.Calendar.{IsCivilDate}
use Rattle.jiff_core.proofs.CalendarLemmas.{day_count-lt_year, days_in_month_bounds}
use Rattle.saved_text.specs.Rfc3339.{two_digits, four_digits, date_text}
use Rattle.saved_text.specs.DateReading.{blanked, shows, clock_form, is_civil, seconds_to, civil_of, civil_if}
use Rattle.cookie_text.specs.Setting.{last_moment}
use Rattle.saved_text.specs.DateReading.{first_moment, IsDateOf}
use Rattle.saved_text.specs.PrintedDates.{without_fraction, IsWholeSecondOf}
use Rattle.saved_text.proofs.DateLemmas.{Within, within_tested, if_true, nanos_are}

-- ---- two digits

abbrev IsTwo : ℕ → Type 0
IsTwo n = (blanked (48 + n / 10) ≡ 48) × (blanked (48 + n % 10) ≡ 48)

digit_shown : (q : ℕ) → q < 10 → blanked (48 + q) ≡ 48
digit_shown q h = grind (arith, nat_tests)

two_shown : (n : ℕ) → n < 100 → IsTwo n
two_shown n h = (digit_shown (n / 10) (omega (arith, h)), digit_shown (n % 10) (omega arith))

digit_worth : (q : ℕ) → q < 10 → digit_value (48 + q) ≡ q
digit_worth q h = grind (arith, nat_tests)

two_worth : (n : ℕ) → n < 100 → digits_value 10 (two_digits n) ≡ n
two_worth n h =
    let high = digit_worth (n / 10) (omega (arith, h)) in
    let low = digit_worth (n % 10) (omega arith) in
    (λ i. (0 * 10 + high i) * 10 + low i) ∙ omega arith

four_worth : (n : ℕ) → n < 10000 → digits_value 10 (four_digits n) ≡ n
four_worth n h =
    let century = n / 100 % 100 in
    let year = n % 100 in
    let a = digit_worth (century / 10) (omega arith) in
    let b = digit_worth (century % 10) (omega arith) in
    let c = digit_worth (year / 10) (omega arith) in
    let d = digit_worth (year % 10) (omega arith) in
    (λ i. (((0 * 10 + a i) * 10 + b i) * 10 + c i) * 10 + d i) ∙ omega (arith, h)

-- ---- the years from 0 on

last_before : days_from_civil (neg_ℤ (pos 1)) 12 31 ≡ pos 0 -ℤ pos 719_529
unfolding days_from_civil day_count days_of_years days_of_months
last_before = refl

days_low : (d : DateTime) (year : ℕ) → d.date.year ≡ pos year → (pos 0 -ℤ pos 719_528) ≤ℤ epoch_day d.date
unfolding days_from_civil
days_low d year is =
    let before : day_count (neg_ℤ (pos 1)) 12 31 < day_count d.date.year d.date.month d.date.day =
    day_count-lt_year (neg_ℤ (pos 1)) 12 31 d.date.year d.date.month d.date.day december d.date.day_in.0
    (omega (arith, signed_arith, is)) in
    omega (arith, signed_arith, before, last_before)
  where
    december : IsCivilDate (neg_ℤ (pos 1)) 12 31
    december = (
      (omega (arith, signed_arith), omega (arith, signed_arith)),
      (omega arith, omega arith),
      (omega arith, omega arith),
    )

low_of : (d : DateTime) (year : ℕ) → d.date.year ≡ pos year → first_moment ≤ℤ without_fraction d
low_of d year is = omega (arith, signed_arith, days_low d year is, civil_nanos-parts d)

natural : (y : ℤ) → pos 0 ≤ℤ y → y ≡ pos (unsigned_abs y)
natural y h = omega (arith, signed_arith, ints, h)

-- ---- the text's parts

module _ (d : DateTime) (from : pos 0 ≤ℤ d.date.year) where
  abbrev year : ℕ
  year = unsigned_abs d.date.year

  year_is : d.date.year ≡ pos year
  year_is = natural d.date.year from

  year_few : year < 10000
  year_few =
      let is = year_is in
      let most = d.date.year_in.1 in
      omega (arith, signed_arith, is, most)

  few_days : d.date.day < 100
  few_days =
      let most = (days_in_month_bounds d.date.year d.date.month).0 in
      omega (arith, most, d.date.day_in.1)

  form : IsTrue (shows (take 19 (date_text d)) clock_form)
  form =
      let (a, b) = two_shown (year / 100 % 100) (omega arith) in
      let (c, e) = two_shown (year % 100) (omega arith) in
      let (f, g) = two_shown d.date.month (omega (arith, d.date.month_in.1)) in
      let (h, j) = two_shown d.date.day few_days in
      let (k, l) = two_shown d.time.hour (omega (arith, d.time.hour_in)) in
      let (m, n) = two_shown d.time.minute (omega (arith, d.time.minute_in)) in
      let (o, p) = two_shown d.time.second (omega (arith, d.time.second_in)) in
      (bytes_eq-Decides (map blanked (take 19 (date_text d))) clock_form).1
      (λ i. a i ∷ b i ∷ c i ∷ e i ∷ 45 ∷ f i ∷ g i ∷ 45 ∷ h i ∷ j i ∷ 84 ∷ k i ∷ l i ∷ 58 ∷ m i ∷ n i ∷ 58 ∷ o i
      ∷ p i ∷ [])

  shown : civil_of (take 19 (date_text d)) 0
      ≡ civil_if year d.date.month d.date.day d.time.hour d.time.minute d.time.second 0
  shown =
      let a = four_worth year year_few in
      let b = two_worth d.date.month (omega (arith, d.date.month_in.1)) in
      let c = two_worth d.date.day few_days in
      let e = two_worth d.time.hour (omega (arith, d.time.hour_in)) in
      let f = two_worth d.time.minute (omega (arith, d.time.minute_in)) in
      let g = two_worth d.time.second (omega (arith, d.time.second_in)) in
      λ i. civil_if (a i) (b i) (c i) (e i) (f i) (g i) 0

  within : Within d.date.month d.date.day (days_in_month (pos year) d.date.month) d.time.hour d.time.minute
      d.time.second
  within = record {
    months = d.date.month_in;
    days = subst (λ y. IsInRange 1 (days_in_month y d.date.month) d.date.day) year_is d.date.day_in;
    times = (d.time.hour_in, d.time.minute_in, d.time.second_in);
  }

  abbrev local : ℤ
  local = seconds_to year d.date.month d.date.day d.time.hour d.time.minute d.time.second *ℤ pos 1_000_000_000
      +ℤ pos 0

  exists : civil_of (take 19 (date_text d)) 0 ≡ Some local
  exists = shown ∙ if_true (is_civil year d.date.month d.date.day d.time.hour d.time.minute d.time.second) (Some local)
      (within_tested d.date.month d.date.day (days_in_month (pos year) d.date.month) d.time.hour d.time.minute
      d.time.second within)

  moment : without_fraction d ≡ local -ℤ pos 0 *ℤ pos 60_000_000_000
  moment =
      let is = nanos_are d year d.date.month d.date.day d.time.hour d.time.minute d.time.second
      d.time.subsec_nanosecond (year_is, refl, refl) (refl, refl, refl, refl) in
      less (civil_nanos d) (seconds_to year d.date.month d.date.day d.time.hour d.time.minute d.time.second)
      d.time.subsec_nanosecond is
    where
      less : (at s : ℤ) (n : ℕ) → at ≡ s *ℤ pos 1_000_000_000 +ℤ pos n
          → at -ℤ pos n ≡ s *ℤ pos 1_000_000_000 +ℤ pos 0 -ℤ pos 0 *ℤ pos 60_000_000_000
      less at s n e = omega (arith, signed_arith, e)

  low : first_moment ≤ℤ without_fraction d
  low = low_of d year year_is

  high : without_fraction d ≤ℤ last_moment
  high = omega (arith, signed_arith, (civil_nanos_range d).1)

  pub printed_read : IsDateOf (date_text d) (without_fraction d)
  printed_read = record {
    nanos = 0;
    zone = codes "Z";
    minutes = pos 0;
    civil = local;
    clock = form;
    fraction = refl;
    offset = refl;
    exists = exists;
    moment = moment;
    from = low;
    until = high;
  }

-- ---- the whole second

pub without_fraction_seconds : (d : DateTime) → without_fraction d ≡ civil_seconds d *ℤ pos 1_000_000_000
without_fraction_seconds d = omega (arith, signed_arith, civil_nanos-civil_seconds d)

pub fraction_dropped : (d : DateTime) → IsWholeSecondOf (without_fraction d) (civil_nanos d)
fraction_dropped d = record {
  seconds = civil_seconds d;
  whole = without_fraction_seconds d;
  below = omega (arith, signed_arith);
  greatest = λ n h. not_above n (civil_seconds d) (civil_nanos d) (without_fraction d) d.time.subsec_nanosecond
      d.time.subsec_in (civil_nanos-civil_seconds d) (without_fraction_seconds d) h;
}
  where
    not_above : (n s at whole : ℤ) (k : ℕ) → k < 1_000_000_000 → at ≡ s *ℤ pos 1_000_000_000 +ℤ pos k
        → whole ≡ s *ℤ pos 1_000_000_000 → (n *ℤ pos 1_000_000_000) ≤ℤ at → (n *ℤ pos 1_000_000_000) ≤ℤ whole
    not_above n s at whole k few e f h = omega (arith, signed_arith, few, e, f, h)
