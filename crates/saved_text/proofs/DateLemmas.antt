-- The text of a date, part by part.
use Rattle.std.proofs.Common.{◌≡◌, ◌≢◌, ℕ, ℤ, pos, ◌+◌, ◌-◌, ◌*◌, ◌^◌, add-one, ◌<◌, ◌≤◌, Bool, true, false, ◌&&◌, List}
use Rattle.std.proofs.Common.{[], ◌∷◌, length, take, drop, get_or, ◌++◌, append_assoc, Option, Some, None, sym, refl}
use Rattle.std.proofs.Common.{ap, ◌∙◌, subst, ⊎_elim, arith, FitsSigned, w64, to_z, of_z}
use Rattle.std.proofs.lemmas.Int.{to_z-of_z}
use Rattle.std.specs.Prelude.{option_map, map, slice_range, if◌then◌else◌, nat_le, nat_lt, ◌+ℤ◌, ◌*ℤ◌, ◌-ℤ◌, ◌↔◌}
use Rattle.std.specs.Prelude.{Result, Ok, Err, IsOk, IfOk, IsTrue, MatchOption, neg_ℤ, min}
use Rattle.std.specs.Result.{result_ok}
use Rattle.jiff.specs.Words.{civil_nanos, IsDate, IsTime, IsYmd, IsHms, epoch_day, Error}
use Rattle.jiff.specs.Types.{DateTime}
use Rattle.jiff.proofs.SpanFacts.{signed_arith}
use Rattle.jiff.proofs.Family.{civil_nanos-parts}
use Rattle.jiff_core.specs.Calendar.{days_from_civil, days_in_month, day_count, days_of_years, days_of_months}
use Rattle.jiff_core.specs.Time.{time_nanos}
use Rattle.std.specs.Str.Parse.{digits_value, AllDigits}
use Rattle.std.specs.Char.{digit_value, is_ascii_digit}
use Rattle.std.proofs.lemmas.Bool.{cases_Bool, false≢true}
use Rattle.std.proofs.lemmas.Bool.Decides.{nat_tests}
use Rattle.std.proofs.lemmas.Slice.Eq.{bytes_eq-Decides}
use Rattle.std.proofs.lemmas.Str.Parse.{digit_at}
use Rattle.std.proofs.lemmas.Int.Digits.{digits_value_more}
use Rattle.std.proofs.lemmas.List.{get_or-map, length-map, take-map, drop-map, length-take, ext_get_or, take_more}
use Rattle.std.proofs.lemmas.List.{drop_more}
use Rattle.std.proofs.lemmas.Nat.{pow-add}
use Rattle.std.proofs.lemmas.Option.{none-some}
use Rattle.jiff_core.specs.DateTime.{IsCivilNanos}
use Rattle.std.proofs.Math.Nat.{pow-le-pow_right, mul-lt-mul_of_pos_right}
use Rattle.saved_text.specs.DateReading.{blanked, shows, digits_front, is_civil, seconds_to, civil_if, civil_of}
use Rattle.saved_text.specs.DateReading.{fraction_of, minutes_of, clock_form, first_moment, IsSaved, IsDateOf}

-- ---- the form

pub form_wrong : (text form : List ℕ) (i : ℕ) → i < length text → blanked (get_or text i 0) ≢ get_or form i 0
    → false ≡ shows text form
form_wrong text form i h wrong =
    ⊎_elim (λ (e : shows text form ≡ true). absurd (wrong (sym (get_or-map blanked text i 0 0 h)
    ∙ ap (λ xs. get_or xs i 0) ((bytes_eq-Decides (map blanked text) form).0 e))))
    (λ (e : shows text form ≡ false). sym e) (cases_Bool (shows text form))

pub form_right : (text form : List ℕ) → length text ≡ length form → ((k : ℕ) → k < length text
    → blanked (get_or text k 0) ≡ get_or form k 0) → true ≡ shows text form
form_right text form len each =
    sym ((bytes_eq-Decides (map blanked text) form).1 (ext_get_or 0 (map blanked text) form
    (length-map text blanked ∙ len)
    (λ k h. let below : k < length text = omega (arith, h, length-map text blanked) in get_or-map blanked text k 0 0
    below ∙ each k below)))

form_is : (text form : List ℕ) → shows text form ≡ true → map blanked text ≡ form
form_is text form e = (bytes_eq-Decides (map blanked text) form).0 e

pub form_length : (text form : List ℕ) → shows text form ≡ true → length text ≡ length form
form_length text form e = sym (length-map text blanked) ∙ ap length (form_is text form e)

-- ---- digits

digit_of : (b : ℕ) → blanked b ≡ 48 → digit_value b < 10
digit_of b e = grind (arith, nat_tests)

-- every byte is a digit where the form has a `0`
abbrev pub Zeros : List ℕ → Type 0
Zeros [] = Unit {0}
Zeros (s ∷ ss) = (s ≡ 48) × Zeros ss

digits_of_zeros : (ds ss : List ℕ) → map blanked ds ≡ ss → Zeros ss → AllDigits 10 ds
digits_of_zeros [] ss e z = tt
digits_of_zeros (d ∷ ds) ss e z = let z' = subst Zeros (sym e) z in
    (digit_of d z'.0, digits_of_zeros ds (map blanked ds) refl z'.1)

range_map : (text : List ℕ) (a b : ℕ) → map blanked (slice_range text a b) ≡ slice_range (map blanked text) a b
range_map text a b = sym (take-map blanked (b - a) (drop a text)) ∙ ap (take (b - a)) (sym (drop-map blanked a text))

pub digits_at : (text form : List ℕ) (a b : ℕ) → shows text form ≡ true → Zeros (slice_range form a b)
    → AllDigits 10 (slice_range text a b)
digits_at text form a b e z = digits_of_zeros (slice_range text a b) (slice_range form a b)
    (range_map text a b ∙ ap (λ xs. slice_range xs a b) (form_is text form e)) z

-- ---- the number

pub digit_bounds : (ds : List ℕ) (i : ℕ) → AllDigits 10 ds → i < length ds → (48 ≤ get_or ds i 0) × (get_or ds i 0 ≤ 57)
digit_bounds ds i all h = digit_at ds i all h

digit_is : (b : ℕ) → 48 ≤ b → b ≤ 57 → digit_value b ≡ b - 48
digit_is b low high = grind (arith, nat_tests)

pub number_step : (ds : List ℕ) (i n : ℕ) → AllDigits 10 ds → i < length ds → n ≡ digits_value 10 (take i ds)
    → n * 10 + (get_or ds i 0 - 48) ≡ digits_value 10 (take (i + 1) ds)
number_step ds i n all h e =
    ap (λ x. x * 10 + (get_or ds i 0 - 48)) e ∙ ap (λ d. digits_value 10 (take i ds) * 10 + d)
    (sym (digit_is (get_or ds i 0) (digit_at ds i all h).0 (digit_at ds i all h).1))
    ∙ sym (digits_value_more 10 ds i h)

power : (i : ℕ) → 10 ^ (i + 1) ≡ 10 ^ i * 10
power i = ap (λ n. 10 ^ n) (add-one i) ∙ omega arith

pub number_grows : (n d i : ℕ) → n < 10 ^ i → d ≤ 9 → n * 10 + d < 10 ^ (i + 1)
number_grows n d i h small = let e : 10 ^ (i + 1) ≡ 10 ^ i * 10 = power i in omega (arith, h, small, e)

pub few_digits : (i : ℕ) → i < 9 → 10 ^ i ≤ 100_000_000
few_digits i h = pow-le-pow_right {n = 10} (omega arith) {i = i} {j = 8} (omega (arith, h))

-- ---- the calendar and the clock

and_both : (a b : Bool) → (a && b) ≡ true → (a ≡ true) × (b ≡ true)
and_both true b e = (refl, e)
and_both false b e = absurd (false≢true e)

-- what is tested of the numbers, `most` being the days of the month
pub record Within (month day most hour minute second : ℕ) : Type 0 where
  pub months : (1 ≤ month) × (month ≤ 12)
  pub days : (1 ≤ day) × (day ≤ most)
  pub times : (hour < 24) × (minute < 60) × (second < 60)

abbrev pub tested : ℕ → ℕ → ℕ → ℕ → ℕ → ℕ → Bool
tested month day most hour minute second =
    nat_le 1 month && nat_le month 12
    && nat_le 1 day && nat_le day most
    && nat_lt hour 24 && nat_lt minute 60 && nat_lt second 60

le_of : (a b : ℕ) → nat_le a b ≡ true → a ≤ b
le_of a b e = grind (arith, nat_tests)

lt_of : (a b : ℕ) → nat_lt a b ≡ true → a < b
lt_of a b e = grind (arith, nat_tests)

tested_within : (month day most hour minute second : ℕ) → tested month day most hour minute second ≡ true
    → Within month day most hour minute second
tested_within month day most hour minute second e =
    let a = and_both _ (nat_lt second 60) e in
    let b = and_both _ (nat_lt minute 60) a.0 in
    let c = and_both _ (nat_lt hour 24) b.0 in
    let d = and_both _ (nat_le day most) c.0 in
    let f = and_both _ (nat_le 1 day) d.0 in
    let g = and_both (nat_le 1 month) (nat_le month 12) f.0 in
    record {
      months = (le_of _ _ g.0, le_of _ _ g.1);
      days = (le_of _ _ f.1, le_of _ _ d.1);
      times = (lt_of _ _ c.1, lt_of _ _ b.1, lt_of _ _ a.1);
    }

both_true : (a b : Bool) → a ≡ true → b ≡ true → (a && b) ≡ true
both_true true b e f = f
both_true false b e f = absurd (false≢true e)

of_le : (a b : ℕ) → a ≤ b → nat_le a b ≡ true
of_le a b h = grind (arith, nat_tests)

of_lt : (a b : ℕ) → a < b → nat_lt a b ≡ true
of_lt a b h = grind (arith, nat_tests)

pub within_tested : (month day most hour minute second : ℕ) → Within month day most hour minute second
    → tested month day most hour minute second ≡ true
within_tested month day most hour minute second w =
    both_true _ _ (both_true _ _ (both_true _ _ (both_true _ _
    (both_true _ _ (both_true _ _
    (of_le _ _ w.months.0) (of_le _ _ w.months.1)) (of_le _ _ w.days.0)) (of_le _ _ w.days.1))
    (of_lt _ _ w.times.0)) (of_lt _ _ w.times.1)) (of_lt _ _ w.times.2)

in_calendar : (year month day hour minute second nanos : ℕ) → year < 10000 → nanos < 1_000_000_000 → Within month day
    (days_in_month (pos year) month) hour minute second
    → IsDate (pos year) (pos month) (pos day) × IsTime (pos hour) (pos minute) (pos second) (pos nanos)
in_calendar year month day hour minute second nanos low few w =
    let (m1, m2) = w.months in
    let (d1, d2) = w.days in
    let (t1, t2, t3) = w.times in (
      (
        (omega (arith, signed_arith), omega (arith, signed_arith)),
        (omega (arith, signed_arith), omega (arith, signed_arith)),
        (omega (arith, signed_arith), omega (arith, signed_arith)),
      ),
      (
        (omega (arith, signed_arith), omega (arith, signed_arith)),
        (omega (arith, signed_arith), omega (arith, signed_arith)),
        (omega (arith, signed_arith), omega (arith, signed_arith)),
        (omega (arith, signed_arith), omega (arith, signed_arith)),
      ),
    )

of_calendar : (year month day hour minute second nanos : ℕ)
    → IsDate (pos year) (pos month) (pos day) → IsTime (pos hour) (pos minute) (pos second) (pos nanos)
    → Within month day (days_in_month (pos year) month) hour minute second
of_calendar year month day hour minute second nanos date time =
    let (m1, m2) = date.1 in
    let (d1, d2) = date.2 in
    let (h1, h2) = time.0 in
    let (i1, i2) = time.1 in
    let (s1, s2) = time.2 in
    record {
      months = (omega (arith, signed_arith), omega (arith, signed_arith));
      days = (omega (arith, signed_arith), omega (arith, signed_arith));
      times = (omega (arith, signed_arith), omega (arith, signed_arith), omega (arith, signed_arith));
    }

same_pos : (a b : ℕ) → pos a ≡ pos b → a ≡ b
same_pos a b e = omega (arith, signed_arith)

-- the nanoseconds of a date and a time with these numbers
pub nanos_are : (dt : DateTime) (year month day hour minute second nanos : ℕ)
    → IsYmd (pos year) (pos month) (pos day) dt.date
    → IsHms (pos hour) (pos minute) (pos second) (pos nanos) dt.time
    → civil_nanos dt ≡ seconds_to year month day hour minute second *ℤ pos 1_000_000_000 +ℤ pos nanos
nanos_are dt year month day hour minute second nanos ymd hms =
    let month_is = same_pos dt.date.month month ymd.1 in
    let day_is = same_pos dt.date.day day ymd.2 in
    let days : epoch_day dt.date ≡ days_from_civil (pos year) month day =
    ap (λ y. days_from_civil y dt.date.month dt.date.day) ymd.0
    ∙ (ap (λ m. days_from_civil (pos year) m dt.date.day) month_is
    ∙ ap (λ d. days_from_civil (pos year) month d) day_is) in
    let h = same_pos dt.time.hour hour hms.0 in
    let i = same_pos dt.time.minute minute hms.1 in
    let s = same_pos dt.time.second second hms.2 in
    let n = same_pos dt.time.subsec_nanosecond nanos hms.3 in
    civil_nanos-parts dt ∙ nanos_sum (epoch_day dt.date) (days_from_civil (pos year) month day) dt.time.hour
    dt.time.minute dt.time.second dt.time.subsec_nanosecond hour minute second nanos days h i s n
  where
    nanos_sum : (x y : ℤ) (h i s n hour minute second nanos : ℕ) → x ≡ y → h ≡ hour → i ≡ minute → s ≡ second
        → n ≡ nanos
        → x *ℤ pos 86_400_000_000_000 +ℤ pos ((h * 3600 + i * 60 + s) * 1_000_000_000 + n)
        ≡ (y *ℤ pos 86_400 +ℤ pos (hour * 3600 + minute * 60 + second)) *ℤ pos 1_000_000_000 +ℤ pos nanos
    nanos_sum x y h i s n hour minute second nanos a b c d e = omega (arith, signed_arith)

pub if_true : (t : Bool) (x : Option ℤ) → t ≡ true → (if t then x else None) ≡ x
if_true true x e = refl
if_true false x e = absurd (false≢true e)

if_false : (t : Bool) (x : Option ℤ) → t ≡ false → (if t then x else None) ≡ None
if_false true x e = absurd (false≢true (sym e))
if_false false x e = refl

civil_made : (r : Result DateTime Error) (year month day hour minute second nanos : ℕ) → year < 10000
    → nanos < 1_000_000_000
    → (IsOk r ↔ (IsDate (pos year) (pos month) (pos day) × IsTime (pos hour) (pos minute) (pos second) (pos nanos)))
    → IfOk r (λ dt. IsYmd (pos year) (pos month) (pos day) dt.date
    × IsHms (pos hour) (pos minute) (pos second) (pos nanos) dt.time)
    → option_map civil_nanos (result_ok r) ≡ civil_if year month day hour minute second nanos
civil_made (Ok dt) year month day hour minute second nanos low few succeeds value =
    let is = succeeds.0 refl in
    let w = of_calendar year month day hour minute second nanos is.0 is.1 in
    ap Some (nanos_are dt year month day hour minute second nanos value.0 value.1)
    ∙ sym (if_true (is_civil year month day hour minute second)
    (Some (seconds_to year month day hour minute second *ℤ pos 1_000_000_000 +ℤ pos nanos))
    (within_tested month day (days_in_month (pos year) month) hour minute second w))
civil_made (Err e) year month day hour minute second nanos low few succeeds value =
    sym (if_false (is_civil year month day hour minute second)
    (Some (seconds_to year month day hour minute second *ℤ pos 1_000_000_000 +ℤ pos nanos))
    (⊎_elim (λ (t : is_civil year month day hour minute second ≡ true).
    absurd (false≢true (succeeds.1 (in_calendar year month day hour minute second nanos low few
    (tested_within month day (days_in_month (pos year) month) hour minute second t)))))
    (λ (f : is_civil year month day hour minute second ≡ false). f)
    (cases_Bool (is_civil year month day hour minute second))))

abbrev Seven : Type 0
Seven = ℤ × ℤ × ℤ × ℤ × ℤ × ℤ × ℤ

-- the same of the signed numbers that the call takes
pub civil_cast : (r : Result DateTime Error) (y mo d h mi s n : ℤ) (year month day hour minute second nanos : ℕ)
    → y ≡ pos year
    → mo ≡ pos month → d ≡ pos day → h ≡ pos hour → mi ≡ pos minute → s ≡ pos second → n ≡ pos nanos
    → year < 10000 → nanos < 1_000_000_000
    → (IsOk r ↔ (IsDate y mo d × IsTime h mi s n))
    → IfOk r (λ dt. IsYmd y mo d dt.date × IsHms h mi s n dt.time)
    → option_map civil_nanos (result_ok r) ≡ civil_if year month day hour minute second nanos
civil_cast r y mo d h mi s n year month day hour minute second nanos e1 e2 e3 e4 e5 e6 e7 low few succeeds value =
    civil_made r year month day hour minute second nanos low few
    (subst (λ (t : Seven). IsOk r ↔ (IsDate t.0 t.1 t.2 × IsTime t.3 t.4 t.5 t.6))
    (λ i. (e1 i, e2 i, e3 i, e4 i, e5 i, e6 i, e7 i)) succeeds)
    (subst (λ (t : Seven). IfOk r (λ dt. IsYmd t.0 t.1 t.2 dt.date × IsHms t.3 t.4 t.5 t.6 dt.time))
    (λ i. (e1 i, e2 i, e3 i, e4 i, e5 i, e6 i, e7 i)) value)

-- ---- the first moment

pub year_zero : days_from_civil (pos 0) 1 1 ≡ pos 0 -ℤ pos 719_528
unfolding days_from_civil day_count days_of_years days_of_months
year_zero = refl

pub civil_nanos-first : (m : DateTime) → IsYmd (pos 0) (pos 1) (pos 1) m.date
    → IsHms (pos 0) (pos 0) (pos 0) (pos 0) m.time → civil_nanos m ≡ first_moment
civil_nanos-first m d t =
    let year = d.0 in
    let month : m.date.month ≡ 1 = omega (arith, signed_arith, d.1) in
    let day : m.date.day ≡ 1 = omega (arith, signed_arith, d.2) in
    let time : time_nanos m.time ≡ 0 = omega (arith, signed_arith, t.0, t.1, t.2, t.3) in
    civil_nanos-parts m ∙ rw (year, month, day, time, year_zero) refl

-- ---- the fraction

digit_true : (b : ℕ) → is_ascii_digit b ≡ true → digit_value b < 10
digit_true b e = grind (arith, nat_tests)

all_digits : (ds : List ℕ) (d : ℕ) → AllDigits 10 ds → digit_value d < 10 → AllDigits 10 (ds ++ d ∷ [])
all_digits [] d a h = (h, tt)
all_digits (x ∷ ds) d a h = (a.0, all_digits ds d a.1 h)

front_cons : (b : ℕ) (r : List ℕ) → is_ascii_digit b ≡ true → digits_front (b ∷ r) ≡ b ∷ digits_front r
front_cons b r e = rw e refl

-- one more digit stands at the front
pub front_more : (text : List ℕ) (n : ℕ) → n < length text → is_ascii_digit (get_or text n 0) ≡ true
    → AllDigits 10 (take n text) → digits_front text ≡ take n text ++ digits_front (drop n text)
    → AllDigits 10 (take (n + 1) text) × (digits_front text ≡ take (n + 1) text ++ digits_front (drop (n + 1) text))
front_more text n h d all front =
    let b = get_or text n 0 in
    let next = take_more text n 0 h in (
      subst (AllDigits 10) (sym next) (all_digits (take n text) b all (digit_true b d)),
      front ∙ ap (λ r. take n text ++ digits_front r) (drop_more text n 0 h)
          ∙ ap (λ r. take n text ++ r) (front_cons b (drop (n + 1) text) d)
          ∙ sym (append_assoc (take n text) (b ∷ []) (digits_front (drop (n + 1) text)))
          ∙ ap (λ r. r ++ digits_front (drop (n + 1) text)) (sym next),
    )

-- so many digits and the places behind them are nine
pub scaled_bound : (n k p len : ℕ) → k ≤ 9 → len ≡ k → n < 10 ^ len → p ≡ 10 ^ (9 - k) → n * p < 1_000_000_000
scaled_bound n k p len few l h e =
    let whole : k + (9 - k) ≡ 9 = omega (arith, few) in
    let nine : 10 ^ k * 10 ^ (9 - k) ≡ 1_000_000_000 = sym (pow-add 10 k (9 - k)) ∙ ap (λ i. 10 ^ i) whole in
    let low : n < 10 ^ k = subst (λ i. n < 10 ^ i) l h in
    let some : 1 ≤ 10 ^ (9 - k) = pow-le-pow_right {n = 10} (omega arith) {i = 0} {j = 9 - k} (omega arith) in
    subst (λ q. n * q < 1_000_000_000) (sym e) (less n (10 ^ k) (10 ^ (9 - k)) low some nine)
  where
    less : (n a b : ℕ) → n < a → 1 ≤ b → a * b ≡ 1_000_000_000 → n * b < 1_000_000_000
    less n a b h some e = subst (λ q. n * b < q) e (mul-lt-mul_of_pos_right h (omega (arith, some)))

-- ---- the parts of a date

abbrev inside : {A : Type 0} → A → Option A → A
inside x (Some y) = y
inside x None = x

pub at_none : {A : Type 0} (r : Option A) (P : Type 0) (Q : A → Type 0) → r ≡ None → P → MatchOption r P Q
at_none r P Q e p = subst (λ q. MatchOption q P Q) (sym e) p

pub not_ok : {E : Type 0} (r : Result DateTime E) (P : Type 0) → (IsOk r ↔ P) → None ≡ result_ok r → ¬ P
not_ok (Ok x) P s e p = none-some x e
not_ok (Err x) P s e p = false≢true (s.1 p)

pub ok_value : {E : Type 0} (r : Result DateTime E) (x : DateTime) (P : DateTime → Type 0) → IfOk r P
    → Some x ≡ result_ok r → P x
ok_value (Ok y) x P h e = let f : Some x ≡ Some y = e in subst P (sym (ap (inside x) f)) h
ok_value (Err y) x P h e = absurd (none-some x (sym e))

-- a length of minutes, handed on as a signed number
pub minutes_passed : (length a b : ℤ) → FitsSigned w64 b → a ≡ b → length ≡ to_z w64 (of_z w64 a) *ℤ pos 60_000_000_000
    → length ≡ b *ℤ pos 60_000_000_000
minutes_passed length a b fits same e = e ∙ ap (λ z. to_z w64 (of_z w64 z) *ℤ pos 60_000_000_000) same
    ∙ ap (λ z. z *ℤ pos 60_000_000_000) (to_z-of_z w64 b fits)

pub beyond : (local length ahead : ℤ) → length ≡ ahead *ℤ pos 60_000_000_000 → ¬ (IsCivilNanos (local +ℤ neg_ℤ length))
    → ¬ (IsSaved (local -ℤ ahead *ℤ pos 60_000_000_000))
beyond local length ahead e out h = out (
  omega (arith, signed_arith, e, h.0, h.1),
  omega (
    arith,
    signed_arith,
    e,
    h.0,
    h.1,
  ),
)

pub taken_off : (at local length ahead : ℤ) → length ≡ ahead *ℤ pos 60_000_000_000 → at ≡ local +ℤ neg_ℤ length
    → at ≡ local -ℤ ahead *ℤ pos 60_000_000_000
taken_off at local length ahead e f = omega (arith, signed_arith, e, f)

pub too_short : (bytes text : List ℕ) → bytes ≡ text → length bytes < 19 → (at : ℤ) → ¬ (IsDateOf text at)
too_short bytes text e h at d =
    let l : length (take 19 text) ≡ 19 = form_length (take 19 text) clock_form d.clock in
    let m : length (take 19 text) ≡ min 19 (length text) = length-take 19 text in
    omega (arith, l, m, h, ap length e)

some_same : (a b : ℤ) → Some a ≡ Some b → a ≡ b
some_same a b e = ap (inside a) e

abbrev first_of : Option (ℕ × List ℕ) → ℕ
first_of (Some p) = p.0
first_of None = 0

abbrev rest_of : Option (ℕ × List ℕ) → List ℕ
rest_of (Some p) = p.1
rest_of None = []

both_of : (a c : ℕ) (b d : List ℕ) → ◌≡◌ {A = Option (ℕ × List ℕ)} (Some (a, b)) (Some (c, d)) → (a ≡ c) × (b ≡ d)
both_of a c b d e = (ap first_of e, ap rest_of e)

pub no_civil : (bytes text clock rest zone : List ℕ) (nanos : ℕ) → bytes ≡ text → clock ≡ take 19 bytes
    → rest ≡ drop 19 bytes
    → Some (nanos, zone) ≡ fraction_of rest → None ≡ civil_of clock nanos → (at : ℤ) → ¬ (IsDateOf text at)
no_civil bytes text clock rest zone nanos e c r f none at d =
    let same = both_of nanos d.nanos zone d.zone (f ∙ ap fraction_of (r ∙ ap (drop 19) e) ∙ d.fraction) in
    let clocks : clock ≡ take 19 text = c ∙ ap (take 19) e in
    none-some d.civil (none ∙ (λ i. civil_of (clocks i) (same.0 i)) ∙ d.exists)

-- local time is brought to UTC
abbrev pub Brought : ℤ → ℤ → Option DateTime → Type 0
Brought local ahead r = MatchOption r (¬ (IsSaved (local -ℤ ahead *ℤ pos 60_000_000_000)))
    (λ d. (civil_nanos d ≡ local -ℤ ahead *ℤ pos 60_000_000_000) × IsSaved (civil_nanos d))

pub date_made : (bytes text clock rest zone : List ℕ) (nanos : ℕ) (ahead : ℤ) (local : DateTime) (r : Option DateTime)
    → bytes ≡ text → clock ≡ take 19 bytes → rest ≡ drop 19 bytes → IsTrue (shows clock clock_form)
    → Some (nanos, zone) ≡ fraction_of rest → Some ahead ≡ minutes_of zone
    → Some (civil_nanos local) ≡ civil_of clock nanos
    → Brought (civil_nanos local) ahead r
    → MatchOption r ((at : ℤ) → ¬ (IsDateOf text at)) (λ d. IsDateOf text (civil_nanos d))
date_made bytes text clock rest zone nanos ahead local None e c' r' s f m l out = λ at d.
    let c : clock ≡ take 19 text = c' ∙ ap (take 19) e in
    let r : rest ≡ drop 19 text = r' ∙ ap (drop 19) e in
    let same = both_of nanos d.nanos zone d.zone (f ∙ ap fraction_of r ∙ d.fraction) in
    let minutes : ahead ≡ d.minutes = some_same ahead d.minutes (m ∙ ap minutes_of same.1 ∙ d.offset) in
    let civil : civil_nanos local ≡ d.civil = some_same (civil_nanos local) d.civil (l
    ∙ (λ i. civil_of (c i) (same.0 i)) ∙ d.exists) in
    let is : at ≡ civil_nanos local -ℤ ahead *ℤ pos 60_000_000_000 = d.moment
    ∙ sym (λ i. civil i -ℤ minutes i *ℤ pos 60_000_000_000) in
    out (subst IsSaved is (d.from, d.until))
date_made bytes text clock rest zone nanos ahead local (Some x) e c' r' s f m l made =
    let c : clock ≡ take 19 text = c' ∙ ap (take 19) e in
    let r : rest ≡ drop 19 text = r' ∙ ap (drop 19) e in
    record {
      nanos = nanos;
      zone = zone;
      minutes = ahead;
      civil = civil_nanos local;
      clock = subst (λ k. IsTrue (shows k clock_form)) c s;
      fraction = sym (f ∙ ap fraction_of r);
      offset = sym m;
      exists = sym (l ∙ ap (λ k. civil_of k nanos) c);
      moment = made.0;
      from = made.1.0;
      until = made.1.1;
    }

pub of_one_moment : (text : List ℕ) (x y : ℤ) → IsDateOf text x → IsDateOf text y → x ≡ y
of_one_moment text x y a b =
    let same = both_of a.nanos b.nanos a.zone b.zone (sym a.fraction ∙ b.fraction) in
    let minutes : a.minutes ≡ b.minutes = some_same a.minutes b.minutes (sym a.offset ∙ ap minutes_of same.1
    ∙ b.offset) in
    let civil : a.civil ≡ b.civil = some_same a.civil b.civil (sym a.exists ∙ ap (civil_of (take 19 text)) same.0
    ∙ b.exists) in
    a.moment ∙ (λ i. civil i -ℤ minutes i *ℤ pos 60_000_000_000) ∙ sym b.moment
