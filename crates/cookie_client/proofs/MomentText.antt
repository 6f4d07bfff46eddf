-- The texts of dates and moments.
use Rattle.std.proofs.Common.{◌≡◌, ◌≢◌, ℕ, ℤ, pos, ◌+◌, ◌-◌, ◌*◌, ◌^◌, add-one, ◌<◌, ◌≤◌, Bool, true, false, List}
use Rattle.std.proofs.Common.{[], ◌∷◌, length, take, drop, get_or, Option, Some, None, sym, refl, ap, ◌∙◌, subst}
use Rattle.std.proofs.Common.{⊎_elim, arith, T, leb→le, le→leb, ltb→lt, lt→ltb, lit<}
use Rattle.std.specs.Prelude.{codes, map, slice_range, if◌then◌else◌, nat_le, nat_lt, ◌+ℤ◌, ◌*ℤ◌, ◌≤ℤ◌, ◌↔◌, Result}
use Rattle.std.specs.Prelude.{Ok, Err, IsOk, IfOk, option_map, option_and_then}
use Rattle.std.specs.Result.{result_ok}
use Rattle.jiff.specs.Words.{civil_nanos, IsDate, IsTime, IsYmd, IsHms, epoch_day, Error}
use Rattle.jiff.specs.Types.{Date, Time, DateTime}
use Rattle.jiff.proofs.SpanFacts.{signed_arith}
use Rattle.jiff.proofs.Family.{civil_nanos-parts, same_datetime}
use Rattle.jiff_core.specs.Calendar.{days_from_civil, days_in_month, day_count, days_of_years, days_of_months}
use Rattle.jiff_core.proofs.CalendarLemmas.{day_count-lt_year}
use Rattle.jiff_core.proofs.DateLemmas.{civil}
use Rattle.std.specs.Str.Parse.{digits_value, AllDigits}
use Rattle.std.specs.Char.{digit_value}
use Rattle.std.proofs.lemmas.Bool.{cases_Bool, false≢true}
use Rattle.std.proofs.lemmas.Bool.Decides.{nat_tests}
use Rattle.std.proofs.lemmas.Slice.Eq.{bytes_eq-Decides}
use Rattle.std.proofs.lemmas.Str.Parse.{digit_at}
use Rattle.std.proofs.lemmas.Int.Digits.{digits_value_more}
use Rattle.std.proofs.lemmas.List.{get_or-map, length-map, take-map, drop-map, ext_get_or}
use Rattle.std.proofs.Math.Nat.{pow-le-pow_right}
use Rattle.cookie_client.specs.Moment.{second_1971, blanked, has_shape, where_so, day_if, clock_if, date_if, date_of}
use Rattle.saved_text.specs.DateReading.{number_at}

abbrev pub shape : List ℕ
shape = codes "0000-00-00T00:00:00Z"

-- ---- the shape

pub shape_wrong : (text : List ℕ) (i : ℕ) → i < length text → blanked (get_or text i 0) ≢ get_or shape i 0
    → false ≡ has_shape text
shape_wrong text i h wrong =
    ⊎_elim (λ (e : has_shape text ≡ true). absurd (wrong (sym (get_or-map blanked text i 0 0 h)
    ∙ ap (λ xs. get_or xs i 0) ((bytes_eq-Decides (map blanked text) shape).0 e))))
    (λ (e : has_shape text ≡ false). sym e) (cases_Bool (has_shape text))

pub shape_right : (text : List ℕ) → length text ≡ 20 → ((k : ℕ) → k < length text
    → blanked (get_or text k 0) ≡ get_or shape k 0) → true ≡ has_shape text
shape_right text len each =
    sym ((bytes_eq-Decides (map blanked text) shape).1 (ext_get_or 0 (map blanked text) shape
    (length-map text blanked ∙ len)
    (λ k h. let below : k < length text = omega (arith, h, length-map text blanked) in get_or-map blanked text k 0 0
    below ∙ each k below)))

pub shape_is : (text : List ℕ) → has_shape text ≡ true → map blanked text ≡ shape
shape_is text e = (bytes_eq-Decides (map blanked text) shape).0 e

pub shape_length : (text : List ℕ) → has_shape text ≡ true → length text ≡ 20
shape_length text e = sym (length-map text blanked) ∙ ap length (shape_is text e)

-- ---- digits

digit_of : (b : ℕ) → blanked b ≡ 48 → digit_value b < 10
digit_of b e = grind (arith, nat_tests)

-- every byte is a digit where the shape has a `0`
abbrev pub Zeros : List ℕ → Type 0
Zeros [] = Unit {0}
Zeros (s ∷ ss) = (s ≡ 48) × Zeros ss

digits_of_zeros : (ds ss : List ℕ) → map blanked ds ≡ ss → Zeros ss → AllDigits 10 ds
digits_of_zeros [] ss e z = tt
digits_of_zeros (d ∷ ds) ss e z = let z' = subst Zeros (sym e) z in
    (digit_of d z'.0, digits_of_zeros ds (map blanked ds) refl z'.1)

range_map : (text : List ℕ) (a b : ℕ) → map blanked (slice_range text a b) ≡ slice_range (map blanked text) a b
range_map text a b = sym (take-map blanked (b - a) (drop a text)) ∙ ap (take (b - a)) (sym (drop-map blanked a text))

-- the part is as long as that of the shape
part_length : (text : List ℕ) (a b : ℕ) → has_shape text ≡ true
    → length (slice_range text a b) ≡ length (slice_range shape a b)
part_length text a b e =
    sym (length-map (slice_range text a b) blanked)
    ∙ ap length (range_map text a b ∙ ap (λ xs. slice_range xs a b) (shape_is text e))

pub part_few : (text : List ℕ) (a b : ℕ) → has_shape text ≡ true → length (slice_range shape a b) ≤ 4
    → length (slice_range text a b) ≤ 4
part_few text a b e few = subst (λ n. n ≤ 4) (sym (part_length text a b e)) few

pub part_below : (text : List ℕ) (a b n : ℕ) → has_shape text ≡ true → n < 10 ^ length (slice_range text a b)
    → n < 10 ^ length (slice_range shape a b)
part_below text a b n e below = subst (λ k. n < 10 ^ k) (part_length text a b e) below

pub digits_at : (text : List ℕ) (a b : ℕ) → has_shape text ≡ true → Zeros (slice_range shape a b)
    → AllDigits 10 (slice_range text a b)
digits_at text a b e z = digits_of_zeros (slice_range text a b) (slice_range shape a b)
    (range_map text a b ∙ ap (λ xs. slice_range xs a b) (shape_is text e)) z

-- ---- the number

pub digit_bounds : (ds : List ℕ) (i : ℕ) → AllDigits 10 ds → i < length ds → (48 ≤ get_or ds i 0) × (get_or ds i 0 ≤ 57)
digit_bounds ds i all h = digit_at ds i all h

pub few_digits : (i : ℕ) → i < 4 → 10 ^ i ≤ 1000
few_digits i h = pow-le-pow_right {n = 10} (omega arith) {i = i} {j = 3} (omega (arith, h))

digit_is : (b : ℕ) → 48 ≤ b → b ≤ 57 → digit_value b ≡ b - 48
digit_is b low high = grind (arith, nat_tests)

pub number_step : (ds : List ℕ) (i n : ℕ) → AllDigits 10 ds → i < length ds → n ≡ digits_value 10 (take i ds)
    → n * 10 + (get_or ds i 0 - 48) ≡ digits_value 10 (take (i + 1) ds)
number_step ds i n all h e =
    ap (λ x. x * 10 + (get_or ds i 0 - 48)) e ∙ ap (λ d. digits_value 10 (take i ds) * 10 + d)
    (sym (digit_is (get_or ds i 0) (digit_at ds i all h).0 (digit_at ds i all h).1))
    ∙ sym (digits_value_more 10 ds i h)

-- ---- the calendar and the clock

so_yes : {A : Type 0} (b : Bool) (f : T b → Option A) (t : T b) → where_so b f ≡ f t
so_yes true f t = refl
so_yes false f t = absurd t

so_some : {A : Type 0} (b : Bool) (f : T b → Option A) (x : A) → where_so b f ≡ Some x → (t : T b) × (f t ≡ Some x)
so_some true f x e = (tt, e)
so_some false f x e = absurd (none_some x e)
  where
    none_some : {A : Type 0} (x : A) → None ≡ Some x → ⊥
    none_some x e = cc

-- what is tested of the numbers of a day, and of a time of day
record IsDay (year month day : ℕ) : Type 0 where
  year_to : T (nat_le year 9999)
  month_from : T (nat_le 1 month)
  month_to : T (nat_le month 12)
  day_from : T (nat_le 1 day)
  day_to : T (nat_le day (days_in_month (pos year) month))

record IsClock (hour minute second : ℕ) : Type 0 where
  hours : T (nat_lt hour 24)
  minutes : T (nat_lt minute 60)
  seconds : T (nat_lt second 60)

abbrev the_day : (year month day : ℕ) → IsDay year month day → Date
the_day year month day is = record {
  year = pos year;
  month = month;
  day = day;
  year_in = (record { le = tt }, record { le = is.year_to });
  month_in = (leb→le 1 month is.month_from, leb→le month 12 is.month_to);
  day_in = (leb→le 1 day is.day_from, leb→le day (days_in_month (pos year) month) is.day_to);
}

abbrev the_clock : (hour minute second : ℕ) → IsClock hour minute second → Time
the_clock hour minute second is = record {
  hour = hour;
  minute = minute;
  second = second;
  subsec_nanosecond = 0;
  hour_in = ltb→lt hour 24 is.hours;
  minute_in = ltb→lt minute 60 is.minutes;
  second_in = ltb→lt second 60 is.seconds;
  subsec_in = lit< tt;
}

day_yes : (year month day : ℕ) (is : IsDay year month day) → day_if year month day ≡ Some (the_day year month day is)
day_yes year month day is =
    so_yes _ _ is.year_to ∙ (so_yes _ _ is.month_from ∙ (so_yes _ _ is.month_to ∙ (so_yes _ _ is.day_from
    ∙ so_yes _ _ is.day_to)))

clock_yes : (hour minute second : ℕ) (is : IsClock hour minute second)
    → clock_if hour minute second ≡ Some (the_clock hour minute second is)
clock_yes hour minute second is = so_yes _ _ is.hours ∙ (so_yes _ _ is.minutes ∙ so_yes _ _ is.seconds)

day_some : (year month day : ℕ) (d : Date) → day_if year month day ≡ Some d → IsDay year month day
day_some year month day d e =
    let y = so_some _ _ d e in
    let m = so_some _ _ d y.1 in
    let n = so_some _ _ d m.1 in
    let f = so_some _ _ d n.1 in
    let l = so_some _ _ d f.1 in
    record { year_to = y.0; month_from = m.0; month_to = n.0; day_from = f.0; day_to = l.0 }

clock_some : (hour minute second : ℕ) (t : Time) → clock_if hour minute second ≡ Some t → IsClock hour minute second
clock_some hour minute second t e =
    let h = so_some _ _ t e in
    let m = so_some _ _ t h.1 in
    let s = so_some _ _ t m.1 in
    record { hours = h.0; minutes = m.0; seconds = s.0 }

abbrev together : Option Date → Option Time → Option DateTime
together day clock = option_and_then (λ date. option_map (λ time. record { date = date; time = time }) clock) day

together_some : (day : Option Date) (clock : Option Time) (d : DateTime) → together day clock ≡ Some d
    → (x : Date) × (t : Time) × (day ≡ Some x) × (clock ≡ Some t)
together_some None clock d e = absurd (none_some d e)
  where
    none_some : (d : DateTime) → None ≡ Some d → ⊥
    none_some d e = cc
together_some (Some x) None d e = absurd (none_some d e)
  where
    none_some : (d : DateTime) → None ≡ Some d → ⊥
    none_some d e = cc
together_some (Some x) (Some t) d e = (x, t, refl, refl)

in_calendar : (year month day hour minute second : ℕ) → IsDay year month day → IsClock hour minute second
    → IsDate (pos year) (pos month) (pos day) × IsTime (pos hour) (pos minute) (pos second) (pos 0)
in_calendar year month day hour minute second is at =
    let y1 = leb→le year 9999 is.year_to in
    let m1 = leb→le 1 month is.month_from in
    let m2 = leb→le month 12 is.month_to in
    let d1 = leb→le 1 day is.day_from in
    let d2 = leb→le day (days_in_month (pos year) month) is.day_to in
    let t1 = ltb→lt hour 24 at.hours in
    let t2 = ltb→lt minute 60 at.minutes in
    let t3 = ltb→lt second 60 at.seconds in (
      (
        (omega (arith, signed_arith), omega (arith, signed_arith)),
        (omega (arith, signed_arith), omega (arith, signed_arith)),
        (omega (arith, signed_arith), omega (arith, signed_arith)),
      ),
      (
        (omega (arith, signed_arith), omega (arith, signed_arith)),
        (omega (arith, signed_arith), omega (arith, signed_arith)),
        (omega (arith, signed_arith), omega (arith, signed_arith)),
        (omega (arith, signed_arith), omega (arith, signed_arith)),
      ),
    )

day_of_calendar : (year month day : ℕ) → IsDate (pos year) (pos month) (pos day) → IsDay year month day
day_of_calendar year month day date =
    let (y1, y2) = date.0 in
    let (m1, m2) = date.1 in
    let (d1, d2) = date.2 in
    record {
      year_to = le→leb year 9999 (omega (arith, signed_arith));
      month_from = le→leb 1 month (omega (arith, signed_arith));
      month_to = le→leb month 12 (omega (arith, signed_arith));
      day_from = le→leb 1 day (omega (arith, signed_arith));
      day_to = le→leb day (days_in_month (pos year) month) (omega (arith, signed_arith));
    }

clock_of_time : (hour minute second : ℕ) → IsTime (pos hour) (pos minute) (pos second) (pos 0)
    → IsClock hour minute second
clock_of_time hour minute second time =
    let (h1, h2) = time.0 in
    let (i1, i2) = time.1 in
    let (s1, s2) = time.2 in
    record {
      hours = lt→ltb hour 24 (omega (arith, signed_arith));
      minutes = lt→ltb minute 60 (omega (arith, signed_arith));
      seconds = lt→ltb second 60 (omega (arith, signed_arith));
    }

same_pos : (a b : ℕ) → pos a ≡ pos b → a ≡ b
same_pos a b e = omega (arith, signed_arith)

-- the seconds from 1970-01-01T00:00:00 to a time of a day
abbrev seconds_to : ℕ → ℕ → ℕ → ℕ → ℕ → ℕ → ℤ
seconds_to year month day hour minute second =
    days_from_civil (pos year) month day *ℤ pos 86_400 +ℤ pos (hour * 3600 + minute * 60 + second)

-- the nanoseconds of a date and a time with these numbers
nanos_are : (dt : DateTime) (year month day hour minute second : ℕ) → IsYmd (pos year) (pos month) (pos day) dt.date
    → IsHms (pos hour) (pos minute) (pos second) (pos 0) dt.time
    → civil_nanos dt ≡ seconds_to year month day hour minute second *ℤ pos 1_000_000_000
nanos_are dt year month day hour minute second ymd hms =
    let month_is = same_pos dt.date.month month ymd.1 in
    let day_is = same_pos dt.date.day day ymd.2 in
    let days : epoch_day dt.date ≡ days_from_civil (pos year) month day =
    ap (λ y. days_from_civil y dt.date.month dt.date.day) ymd.0
    ∙ (ap (λ m. days_from_civil (pos year) m dt.date.day) month_is
    ∙ ap (λ d. days_from_civil (pos year) month d) day_is) in
    let h = same_pos dt.time.hour hour hms.0 in
    let i = same_pos dt.time.minute minute hms.1 in
    let s = same_pos dt.time.second second hms.2 in
    let n = same_pos dt.time.subsec_nanosecond 0 hms.3 in
    civil_nanos-parts dt ∙ nanos_sum (epoch_day dt.date) (days_from_civil (pos year) month day) dt.time.hour
    dt.time.minute dt.time.second dt.time.subsec_nanosecond hour minute second days h i s n
  where
    nanos_sum : (x y : ℤ) (h i s n hour minute second : ℕ) → x ≡ y → h ≡ hour → i ≡ minute → s ≡ second → n ≡ 0
        → x *ℤ pos 86_400_000_000_000 +ℤ pos ((h * 3600 + i * 60 + s) * 1_000_000_000 + n)
        ≡ (y *ℤ pos 86_400 +ℤ pos (hour * 3600 + minute * 60 + second)) *ℤ pos 1_000_000_000
    nanos_sum x y h i s n hour minute second a b c d e = omega (arith, signed_arith)

date_made : (r : Result DateTime Error) (year month day hour minute second : ℕ)
    → (IsOk r ↔ (IsDate (pos year) (pos month) (pos day) × IsTime (pos hour) (pos minute) (pos second) (pos 0)))
    → IfOk r (λ dt. IsYmd (pos year) (pos month) (pos day) dt.date
    × IsHms (pos hour) (pos minute) (pos second) (pos 0) dt.time)
    → result_ok r ≡ date_if year month day hour minute second
date_made (Ok dt) year month day hour minute second succeeds value =
    let is = succeeds.0 refl in
    let on = day_of_calendar year month day is.0 in
    let at = clock_of_time hour minute second is.1 in
    let made : DateTime = record { date = the_day year month day on; time = the_clock hour minute second at } in
    let same = same_datetime dt made (nanos_are dt year month day hour minute second value.0 value.1
    ∙ sym (nanos_are made year month day hour minute second (refl, refl, refl) (refl, refl, refl, refl))) in
    let yes : date_if year month day hour minute second ≡ Some made =
    (λ i. together (day_yes year month day on i) (clock_yes hour minute second at i)) in
    ap Some same ∙ sym yes
date_made (Err e) year month day hour minute second succeeds value =
    sym (none (date_if year month day hour minute second) refl)
  where
    none : (o : Option DateTime) → date_if year month day hour minute second ≡ o → o ≡ None
    none None e = refl
    none (Some d) e =
        let p = together_some (day_if year month day) (clock_if hour minute second) d e in
        absurd (false≢true (succeeds.1 (in_calendar year month day hour minute second
        (day_some year month day p.0 p.2) (clock_some hour minute second p.1 p.3))))

abbrev Six : Type 0
Six = ℤ × ℤ × ℤ × ℤ × ℤ × ℤ

-- the same of the signed numbers that the call takes
pub date_cast : (r : Result DateTime Error) (y mo d h mi s : ℤ) (year month day hour minute second : ℕ) → y ≡ pos year
    → mo ≡ pos month → d ≡ pos day → h ≡ pos hour → mi ≡ pos minute → s ≡ pos second
    → (IsOk r ↔ (IsDate y mo d × IsTime h mi s (pos 0)))
    → IfOk r (λ dt. IsYmd y mo d dt.date × IsHms h mi s (pos 0) dt.time)
    → result_ok r ≡ date_if year month day hour minute second
date_cast r y mo d h mi s year month day hour minute second e1 e2 e3 e4 e5 e6 succeeds value =
    date_made r year month day hour minute second
    (subst (λ (t : Six). IsOk r ↔ (IsDate t.0 t.1 t.2 × IsTime t.3 t.4 t.5 (pos 0)))
    (λ i. (e1 i, e2 i, e3 i, e4 i, e5 i, e6 i)) succeeds)
    (subst (λ (t : Six). IfOk r (λ dt. IsYmd t.0 t.1 t.2 dt.date × IsHms t.3 t.4 t.5 (pos 0) dt.time))
    (λ i. (e1 i, e2 i, e3 i, e4 i, e5 i, e6 i)) value)

pub number_grows : (n d i : ℕ) → n < 10 ^ i → d ≤ 9 → n * 10 + d < 10 ^ (i + 1)
number_grows n d i h small = let e : 10 ^ (i + 1) ≡ 10 ^ i * 10 = power i in omega (arith, h, small, e)
  where
    power : (i : ℕ) → 10 ^ (i + 1) ≡ 10 ^ i * 10
    power i = ap (λ n. 10 ^ n) (add-one i) ∙ omega arith

if_true : {A : Type 0} (t : Bool) (x : Option A) → t ≡ true → (if t then x else None) ≡ x
if_true true x e = refl
if_true false x e = absurd (false≢true e)

pub date_is : (bytes text : List ℕ) (y mo d h mi s : ℕ) → bytes ≡ text → true ≡ has_shape bytes
    → y ≡ number_at bytes 0 4 → mo ≡ number_at bytes 5 7 → d ≡ number_at bytes 8 10 → h ≡ number_at bytes 11 13
    → mi ≡ number_at bytes 14 16 → s ≡ number_at bytes 17 19
    → date_if y mo d h mi s ≡ date_of text
unfolding date_of
date_is bytes text y mo d h mi s e shape e1 e2 e3 e4 e5 e6 =
    (λ i. date_if (e1 i) (e2 i) (e3 i) (e4 i) (e5 i) (e6 i))
    ∙ (sym (if_true (has_shape bytes) (date_if (number_at bytes 0 4) (number_at bytes 5 7) (number_at bytes 8 10)
    (number_at bytes 11 13) (number_at bytes 14 16) (number_at bytes 17 19)) (sym shape)) ∙ ap date_of e)

-- ---- a moment

last_of_1970 : days_from_civil (pos 1970) 12 31 ≡ pos 364
unfolding days_from_civil day_count days_of_years days_of_months
last_of_1970 = refl

-- a date of 1971 or later is no earlier than that year's beginning
pub late_enough : (d : DateTime) → pos 1971 ≤ℤ d.date.year → pos (second_1971 * 1_000_000_000) ≤ℤ civil_nanos d
unfolding days_from_civil
late_enough d h =
    let before = day_count-lt_year (pos 1970) 12 31 d.date.year d.date.month d.date.day
    ((omega (arith, signed_arith), omega (arith, signed_arith)), (omega arith, omega arith), (omega arith, omega arith))
    (civil d.date).2.0 (omega (arith, signed_arith)) in
    let day : pos 365 ≤ℤ epoch_day d.date = omega (arith, signed_arith, before, last_of_1970) in
    omega (arith, signed_arith, civil_nanos-parts d, day)
