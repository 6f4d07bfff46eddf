-- A date in front of a value, and the value that is read of both.
use Rattle.std.proofs.Common.{◌≡◌, ℕ, ℤ, pos, ◌+◌, ◌/◌, ◌%◌, ◌<◌, ◌<ℤ◌, ◌≤ℤ◌, List, [], ◌∷◌, ◌++◌}
use Rattle.std.proofs.Common.{Option, Some, None, refl, subst, arith}
use Rattle.std.specs.Prelude.{unsigned_abs}
use Rattle.std.specs.List.{AllByRecursion}
use Rattle.std.specs.Str.{IsUtf8}
use Rattle.std.proofs.lemmas.List.Elements.{All-from_recursion}
use Rattle.std.proofs.lemmas.Str.{IsUtf8-append, IsUtf8-from_ascii}
use Rattle.std.proofs.lemmas.Str.Ascii.{IsAscii-from_all}
use Rattle.jiff.specs.Types.{Date, DateTime}
use Rattle.jiff_core.proofs.CalendarLemmas.{days_in_month_bounds}
use Rattle.jiff_core.proofs.SignedLemmas.{signed_arith}
use Rattle.saved_text.specs.DateReading.{AreOfOneMoment}
use Rattle.saved_text.specs.PrintedDates.{PrintedDatesAreRead, without_fraction}
use Rattle.saved_text.specs.Rfc3339.{date_text, two_digits}
use Rattle.cookie_client.specs.Ending.{IsDated, IsReadBefore, dated_text}
use Rattle.cookie_client.specs.EndingLaws.{IsReadTill}
use Rattle.cookie_client.proofs.EndingTexts.{one_pair}

abbrev IsLow : ℕ → Type 0
IsLow b = b < 128

two : (n : ℕ) (rest : List ℕ) → n < 100 → AllByRecursion IsLow rest
    → AllByRecursion IsLow ((48 + n / 10) ∷ (48 + n % 10) ∷ rest)
two n rest small more =
    let tens : IsLow (48 + n / 10) = omega (arith, small) in
    let ones : IsLow (48 + n % 10) = omega arith in
    (tens, (ones, more))

sign : (b : ℕ) (rest : List ℕ) → b < 128 → AllByRecursion IsLow rest → AllByRecursion IsLow (b ∷ rest)
sign b rest h more = (h, more)

last_day : (d : Date) → d.day < 100
last_day d = omega (arith, d.day_in.1, days_in_month_bounds)

low_date : (d : DateTime) → AllByRecursion IsLow (date_text d)
low_date d =
    let year : ℕ = unsigned_abs d.date.year in
    let z : List ℕ = 90 ∷ [] in
    let seconds : List ℕ = two_digits d.time.second ++ z in
    let minutes : List ℕ = two_digits d.time.minute ++ (58 ∷ seconds) in
    let hours : List ℕ = two_digits d.time.hour ++ (58 ∷ minutes) in
    let days : List ℕ = two_digits d.date.day ++ (84 ∷ hours) in
    let months : List ℕ = two_digits d.date.month ++ (45 ∷ days) in
    let years : List ℕ = two_digits (year % 100) ++ (45 ∷ months) in
    let a = two d.time.second z (omega (arith, d.time.second_in)) (sign 90 [] (omega arith) tt) in
    let b = two d.time.minute (58 ∷ seconds) (omega (arith, d.time.minute_in)) (sign 58 seconds (omega arith) a) in
    let e = two d.time.hour (58 ∷ minutes) (omega (arith, d.time.hour_in)) (sign 58 minutes (omega arith) b) in
    let f = two d.date.day (84 ∷ hours) (last_day d.date) (sign 84 hours (omega arith) e) in
    let g = two d.date.month (45 ∷ days) (omega (arith, d.date.month_in.1)) (sign 45 days (omega arith) f) in
    let h = two (year % 100) (45 ∷ months) (omega arith) (sign 45 months (omega arith) g) in
    two (year / 100 % 100) years (omega arith) h

utf8_date : (d : DateTime) → IsUtf8 (date_text d)
utf8_date d =
    let all = All-from_recursion IsLow (date_text d) (low_date d) in
    IsUtf8-from_ascii (date_text d) (IsAscii-from_all (date_text d) all)

pub utf8_dated : (until : DateTime) (value : List ℕ) → IsUtf8 value → IsUtf8 (dated_text until value)
utf8_dated until value utf8 = IsUtf8-append (date_text until) value (utf8_date until) utf8

-- what is written is dated so
pub dated_is : PrintedDatesAreRead → (until : DateTime) (value : List ℕ) → pos 0 ≤ℤ until.date.year
    → IsDated (dated_text until value) (without_fraction until) value
dated_is printed until value from = record {
  stamp = date_text until;
  is_text = utf8_date until;
  size = refl;
  date = printed until from;
  parts = refl;
}

pub read_till : AreOfOneMoment → (dated value : List ℕ) (now : ℤ) (until : DateTime) (place : ℕ)
    (read : Option (List ℕ × ℕ)) → IsDated dated (without_fraction until) value → IsReadBefore now dated place read
    → IsReadTill now until value place read
read_till one dated value now until place None d none = record {
  before = λ lt. absurd (none value (without_fraction until, d, lt));
  from = λ le. refl;
}
read_till one dated value now until place (Some r) d is =
    let end : ℤ = is.0.0 in
    let same = one_pair one dated r.0 value end (without_fraction until) is.0.1 d in
    record {
      before = λ lt. (λ i. Some (same.1 i, is.1 i));
      from = λ le. absurd (past now end (without_fraction until) same.0 is.0.2 le);
    }
  where
    past : (now end last : ℤ) → end ≡ last → now <ℤ end → last ≤ℤ now → ⊥
    past now end last e lt le =
        let lower : now <ℤ last = subst (λ (x : ℤ). now <ℤ x) e lt in
        omega (arith, signed_arith)
