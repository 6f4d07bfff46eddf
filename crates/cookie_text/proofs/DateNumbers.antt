-- The numbers in a date, and the moment that they make.
use Rattle.std.proofs.Common.{◌≡◌, ℕ, ◌+◌, ◌-◌, ◌*◌, ◌<◌, ◌≤◌, true, List, length, get_or, take, refl, sym, ap, ◌∙◌}
use Rattle.std.proofs.Common.{arith, rules, suc, Bool, false, not, cond, [], ◌∷◌, ◌++◌, drop, Some, pos, unsigned_abs}
use Rattle.std.proofs.Common.{◌&&◌, nat_le, subst, take_at, drop_at, take-append-drop, w8, w16, to_z}
use Rattle.std.specs.Char.{is_ascii_digit, digit_value}
use Rattle.std.specs.Int.{IsInRange}
use Rattle.std.specs.List.{list_all}
use Rattle.std.specs.Str.Parse.{digits_value}
use Rattle.std.proofs.lemmas.Bool.Decides.{nat_tests}
use Rattle.std.proofs.lemmas.Int.Digits.{digits_value_more}
use Rattle.std.proofs.lemmas.Str.Parse.{IsNumeralModel, numerals_by_value, digit_at, digits_value_short}
use Rattle.std.proofs.lemmas.Str.Parse.{digits_value-take-le}
use Rattle.cookie_text.specs.Date.{AreYearDigits, Stamp, IsStamp, IsMoment}
use Rattle.std.proofs.lemmas.Bool.{and_parts, leb-true}
use Rattle.std.proofs.lemmas.Int.{to_z_pos}
use Rattle.std.proofs.lemmas.List.{length-take-le}
use Rattle.std.proofs.lemmas.List.Sums.{prefix_len-le-length}
use Rattle.httpdate.proofs.OptionLemmas.{cond_some}
use Rattle.jiff_core.specs.Calendar.{IsYear, days_in_month}
use Rattle.jiff_core.specs.Date.{IsYmd}
use Rattle.jiff_core.specs.Time.{IsHms}
use Rattle.jiff.specs.Types.{DateTime}
use Rattle.cookie_text.specs.DateReader.{digits_len, read_year, IsSmall}

-- the words for digits are std's
pub own : IsNumeralModel (λ ds. list_all is_ascii_digit ds ≡ true) (digits_value 10)
own = numerals_by_value _ (search rules)

digit_value-digit : (c : ℕ) → IsInRange 48 57 c → digit_value c ≡ c - 48
digit_value-digit c h = grind (arith, nat_tests)

-- a year's number
pub year_small : (ds : List ℕ) → AreYearDigits ds → digits_value 10 ds ≤ 9999
year_small ds h = let short : digits_value 10 ds < 10000 = digits_value_short own ds 4 h.digits h.few in omega arith

-- the digits of a year, one by one
pub year_step : (ds : List ℕ) (i : ℕ) → AreYearDigits ds → i < length ds
    → (digits_value 10 (take i ds) * 10 + (get_or ds i 0 - 48) ≡ digits_value 10 (take (i + 1) ds))
    × (digits_value 10 (take (i + 1) ds) ≤ 9999)
year_step ds i h within =
    let digit : IsInRange 48 57 (get_or ds i 0) = digit_at ds i (own.to ds h.digits) within in
    let next = digits_value_more 10 ds i within in
    let most = digits_value-take-le 10 ds (i + 1) (omega arith) in
    let small = year_small ds h in
    (sym (next ∙ ap (λ d. digits_value 10 (take i ds) * 10 + d) (digit_value-digit _ digit)), omega arith)

-- the digits at the front are digits
digits_taken : (text : List ℕ) → list_all is_ascii_digit (take (digits_len text) text) ≡ true
digits_taken [] = refl
digits_taken (b ∷ bs) = go (is_ascii_digit b) refl (digits_taken bs)
  where
    go : (d : Bool) → is_ascii_digit b ≡ d → list_all is_ascii_digit (take (digits_len bs) bs) ≡ true
        → list_all is_ascii_digit (take (cond (not (not d)) (1 + digits_len bs) 0) (b ∷ bs)) ≡ true
    go false e rest = refl
    go true e rest =
        let one : 1 + digits_len bs ≡ suc (digits_len bs) = omega arith in
        rw (one, e, rest)

pub AreYearDigits-taken : (text : List ℕ) → 1 ≤ digits_len text → digits_len text ≤ 4
    → AreYearDigits (take (digits_len text) text)
AreYearDigits-taken text some few =
    let size = length-take-le (digits_len text) text (prefix_len-le-length (λ b. not (not (is_ascii_digit b))) text) in
    record { digits = digits_taken text; some = omega (arith, size); few = omega (arith, size) }

digits_len-append : (digits rest : List ℕ) → list_all is_ascii_digit digits ≡ true → digits_len rest ≡ 0
    → digits_len (digits ++ rest) ≡ length digits
digits_len-append [] rest all none = none
digits_len-append (b ∷ bs) rest all none =
    let h = and_parts (is_ascii_digit b) (list_all is_ascii_digit bs) all in
    rw (h.0, digits_len-append bs rest h.1 none) (omega arith)

pub read_year_complete : (digits rest : List ℕ) → AreYearDigits digits → digits_len rest ≡ 0
    → read_year (digits ++ rest) ≡ Some (digits, rest)
unfolding read_year
read_year_complete digits rest h none =
    let test : (nat_le 1 (length digits) && nat_le (length digits) 4) ≡ true = grind
    (arith, nat_tests, h.some, h.few) in
    rw (
      digits_len-append digits rest h.digits none,
      test,
      take_at digits rest (length digits) refl,
      drop_at digits rest
          (length digits) refl,
    )

pub read_year_sound : (text rest digits : List ℕ) → read_year text ≡ Some (digits, rest) → AreYearDigits digits
    × (text ≡ digits ++ rest)
unfolding read_year
read_year_sound text rest digits e =
    let n = digits_len text in
    let (test, same) = cond_some _ _ _ e in
    let within = and_parts (nat_le 1 n) (nat_le n 4) test in
    let front : take n text ≡ digits = ap (λ p. p.0) same in
    let left : drop n text ≡ rest = ap (λ p. p.1) same in (
      subst AreYearDigits front (AreYearDigits-taken text (leb-true _ _ within.0) (leb-true _ _ within.1)),
      sym
          (take-append-drop n text) ∙ rw (front, left),
    )

-- the moment of a calendar's date and a clock's time
module _ (s : Stamp) (small : IsSmall s) (d : DateTime) where
  pub moment_of_parts : IsYmd (to_z w16 s.year) (to_z w8 s.month) (to_z w8 s.day) d.date
      → IsHms (to_z w8 s.hour) (to_z w8 s.minute) (to_z w8 s.second) (pos 0) d.time → IsStamp s × IsMoment s d
  moment_of_parts date time =
      let year : d.date.year ≡ pos s.year = date.0 ∙ to_z_pos w16 s.year (omega (arith, small.year)) in
      let month : d.date.month ≡ s.month = ap unsigned_abs (date.1 ∙ to_z_pos w8 s.month (omega (arith, small.month)))
      in
      let day : d.date.day ≡ s.day = ap unsigned_abs (date.2 ∙ to_z_pos w8 s.day (omega (arith, small.day))) in
      let hour : d.time.hour ≡ s.hour = ap unsigned_abs (time.0 ∙ to_z_pos w8 s.hour (omega (arith, small.hour))) in
      let minute : d.time.minute ≡ s.minute = ap unsigned_abs
      (time.1 ∙ to_z_pos w8 s.minute (omega (arith, small.minute))) in
      let second : d.time.second ≡ s.second = ap unsigned_abs
      (time.2 ∙ to_z_pos w8 s.second (omega (arith, small.second))) in
      let whole : d.time.subsec_nanosecond ≡ 0 = ap unsigned_abs time.3 in (
        record {
          civil = (
            subst IsYear year d.date.year_in,
            subst (IsInRange 1 12) month d.date.month_in,
            subst (λ y. IsInRange 1 (days_in_month y s.month) s.day) year
                (subst (λ m. IsInRange 1 (days_in_month d.date.year m) s.day) month
                (subst (IsInRange 1 (days_in_month d.date.year d.date.month)) day d.date.day_in)),
          );
          hour = subst (λ n. n < 24) hour d.time.hour_in;
          minute = subst (λ n. n < 60) minute d.time.minute_in;
          second = subst (λ n. n < 60) second d.time.second_in;
        },
        record { year = year; month = month; day = day; hour = hour; minute = minute; second = second; whole = whole },
      )
