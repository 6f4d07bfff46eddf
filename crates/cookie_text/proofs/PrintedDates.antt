-- A printed date reads back.
use Rattle.std.proofs.Common.{◌≡◌, ℕ, ◌+◌, ◌<◌, ◌≤◌, ◌≤ℤ◌, ◌^◌, ◌==◌, ◌&&◌, Bool, true, false, not, nat_lt, List, []}
use Rattle.std.proofs.Common.{◌∷◌, ◌++◌, length, get_or, pos, refl, sym, ap, subst, ◌∙◌, append_assoc, inl, arith}
use Rattle.std.proofs.Common.{codes}
use lib.Utf8.{encodes, scalars, scalar}
use Rattle.std.proofs.Math.ListN.{get_or-append}
use Rattle.std.proofs.lemmas.Bool.{agree_below_at, and_parts, ltb-true}
use Rattle.std.proofs.lemmas.Bool.Decides.{nat_tests}
use Rattle.std.proofs.lemmas.Fmt.{digits_decimal, digits_value-decimal, decimal_nonempty, length-decimal-le}
use Rattle.std.proofs.lemmas.List.Elements.{All-nil, All-cons}
use Rattle.std.proofs.lemmas.List.Folds.{list_all-append}
use Rattle.std.proofs.lemmas.List.{length-append}
use Rattle.std.proofs.lemmas.Str.{chars-encodes, encodes-IsAscii}
use Rattle.std.proofs.lemmas.Str.Ascii.{IsAscii-from_all}
use Rattle.std.specs.Char.{is_ascii_digit, is_whitespace}
use Rattle.std.specs.Fmt.{decimal, signed_decimal}
use Rattle.std.specs.Int.{IsInRange}
use Rattle.std.specs.List.{All, list_all}
use Rattle.std.specs.Str.{trim, trim_start, trim_end, chars, skip_leading_whitespace, drop_trailing_whitespace}
use Rattle.std.specs.Str.Parse.{digits_value}
use Rattle.httpdate.specs.Text.{day_name, month_name, two_digits}
use Rattle.jiff_core.proofs.CalendarLemmas.{weekday_number_bound}
use Rattle.jiff_core.proofs.SignedLemmas.{signed_arith}
use Rattle.jiff_core.specs.Calendar.{IsYear, days_in_month}
use Rattle.jiff_core.specs.Date.{epoch_day}
use Rattle.jiff.specs.Types.{DateTime}
use Rattle.jiff.specs.Words.{weekday_of}
use Rattle.cookie_text.specs.Date.{Stamp, IsStamp, clock, day_month_year, dated, with_weekday, spaced, full_year}
use Rattle.cookie_text.specs.Date.{IsDateText, IsMoment}
use Rattle.cookie_text.specs.Normal.{whole_moment}
use Rattle.cookie_text.specs.Printing.{date_text, time_text}
use Rattle.cookie_text.proofs.DateLemmas.{month_length}
use Rattle.cookie_text.proofs.DateNumbers.{own}

-- a byte of ASCII, and no semicolon
abbrev pub is_quiet : ℕ → Bool
is_quiet b = nat_lt b 128 && not (b == 59)

pub quiet_join : (a b : List ℕ) → list_all is_quiet a ≡ true → list_all is_quiet b ≡ true
    → list_all is_quiet (a ++ b) ≡ true
quiet_join a b ha hb = rw (list_all-append is_quiet a b, ha, hb) refl

scalars_quiet : (bs : List ℕ) → list_all is_quiet bs ≡ true → scalars bs ≡ true
scalars_quiet [] h = refl
scalars_quiet (b ∷ bs) h =
    let p = and_parts (is_quiet b) (list_all is_quiet bs) h in
    let first : scalar b ≡ true = grind (arith, nat_tests, p.0) in
    λ i. first i && scalars_quiet bs p.1 i

below : (bs : List ℕ) → list_all is_quiet bs ≡ true → All (λ b. b < 128) bs
below [] h = All-nil (λ b. b < 128)
below (b ∷ bs) h =
    let p = and_parts (is_quiet b) (list_all is_quiet bs) h in
    All-cons (λ b. b < 128) b bs (grind (arith, nat_tests, p.0)) (below bs p.1)

pub quiet_is_clean : (bs : List ℕ) → list_all is_quiet bs ≡ true → All (λ b. (b == 59) ≡ false) bs
quiet_is_clean [] h = All-nil (λ b. (b == 59) ≡ false)
quiet_is_clean (b ∷ bs) h =
    let p = and_parts (is_quiet b) (list_all is_quiet bs) h in
    All-cons (λ b. (b == 59) ≡ false) b bs (grind (arith, nat_tests, p.0)) (quiet_is_clean bs p.1)

skip_first : (bs : List ℕ) → is_whitespace (get_or bs 0 0) ≡ false → skip_leading_whitespace bs ≡ bs
skip_first [] h = refl
skip_first (b ∷ bs) h = rw h refl

drop_last : (bs : List ℕ) (last : ℕ) → is_whitespace last ≡ false
    → drop_trailing_whitespace (bs ++ last ∷ []) ≡ bs ++ last ∷ []
drop_last [] last h = rw h refl
drop_last (b ∷ bs) last h =
    let rest = drop_last bs last h in
    let some : (length (drop_trailing_whitespace (bs ++ last ∷ [])) == 0) ≡ false = rw rest
    (grind (arith, nat_tests, length-append bs (last ∷ []))) in
    let kept : (is_whitespace b && (length (drop_trailing_whitespace (bs ++ last ∷ [])) == 0)) ≡ false = rw some
    (off (is_whitespace b)) in
    rw (kept, rest) refl
  where
    off : (b : Bool) → (b && false) ≡ false
    off true = refl
    off false = refl

pub quiet_name : (n : ℕ) → IsInRange 1 7 n → list_all is_quiet (day_name n) ≡ true
quiet_name n h = agree_below_at (λ k. list_all is_quiet (day_name k)) (λ _. true) 8 n refl (omega arith)

pub quiet_month : (n : ℕ) → IsInRange 1 12 n → list_all is_quiet (month_name n) ≡ true
quiet_month n h = agree_below_at (λ k. list_all is_quiet (month_name k)) (λ _. true) 13 n refl (omega arith)

pub quiet_two : (n : ℕ) → n < 100 → list_all is_quiet (two_digits n) ≡ true
quiet_two n h = agree_below_at (λ k. list_all is_quiet (two_digits k)) (λ _. true) 100 n refl h

quiet_digits : (ds : List ℕ) → list_all is_ascii_digit ds ≡ true → list_all is_quiet ds ≡ true
quiet_digits [] h = refl
quiet_digits (b ∷ ds) h =
    let p = and_parts (is_ascii_digit b) (list_all is_ascii_digit ds) h in
    let first : is_quiet b ≡ true = grind (arith, nat_tests, p.0) in
    rw (first, quiet_digits ds p.1) refl

module _ (d : DateTime) (y : ℕ) (year : d.date.year ≡ pos y) (long : 100 ≤ y) where
  abbrev w : ℕ
  w = weekday_of d.date + 1

  weekday_in : IsInRange 1 7 w
  weekday_in = let h = weekday_number_bound (epoch_day d.date) in (omega arith, omega arith)

  year_most : y ≤ 9999
  year_most = let h : pos y ≤ℤ pos 9999 = subst (λ z. z ≤ℤ pos 9999) year d.date.year_in.1 in omega
      (arith, signed_arith, h)

  abbrev pub stamp : Stamp
  stamp = record {
    year = y;
    month = d.date.month;
    day = d.date.day;
    hour = d.time.hour;
    minute = d.time.minute;
    second = d.time.second;
  }

  is_stamp : IsStamp stamp
  is_stamp = record {
    civil = (
      subst IsYear year d.date.year_in,
      d.date.month_in,
      subst (λ z. IsInRange 1 (days_in_month z d.date.month) d.date.day) year d.date.day_in,
    );
    hour = d.time.hour_in;
    minute = d.time.minute_in;
    second = d.time.second_in;
  }

  shown : date_text d ≡ spaced w stamp (decimal y)
  unfolding date_text
  shown =
      ap (λ z. with_weekday w (dated (codes " ") d.date.day d.date.month (signed_decimal z) (time_text d))) year

  pub printed_date : IsDateText (date_text d) stamp
  printed_date =
      let wide : y < 2 ^ 64 = let m = year_most in omega arith in
      let digits = digits_decimal own y wide in
      let value : full_year (digits_value 10 (decimal y)) ≡ y = rw (digits_value-decimal own y wide)
      (grind (arith, nat_tests, long)) in
      record {
        weekday = w;
        day = two_digits d.date.day;
        year = decimal y;
        named = weekday_in;
        padded = inl refl;
        dated = record {
          digits = record {
            digits = digits;
            some = decimal_nonempty y wide;
            few = length-decimal-le 4 y (omega arith) (omega (arith, year_most)) wide;
          };
          value = value;
        };
        exists = is_stamp;
        form = inl shown;
      }

  pub printed_moment : IsMoment stamp (whole_moment d)
  printed_moment = record {
    year = year;
    month = refl;
    day = refl;
    hour = refl;
    minute = refl;
    second = refl;
    whole = refl;
  }

  day_small : d.date.day < 100
  day_small = omega (arith, d.date.day_in, month_length d.date.year d.date.month)

  pub printed_quiet : list_all is_quiet (date_text d) ≡ true
  printed_quiet =
      let wide : y < 2 ^ 64 = let m = year_most in omega arith in
      let hour = quiet_two d.time.hour (omega (arith, d.time.hour_in)) in
      let minute = quiet_two d.time.minute (omega (arith, d.time.minute_in)) in
      let second = quiet_two d.time.second (omega (arith, d.time.second_in)) in
      let day = quiet_two d.date.day day_small in
      let month = quiet_month d.date.month d.date.month_in in
      let year_digits = quiet_digits (decimal y) (digits_decimal own y wide) in
      let day_month = two_digits d.date.day ++ codes " " ++ month_name d.date.month in
      let full = day_month ++ codes " " ++ decimal y in
      let timed = two_digits d.time.hour ++ codes ":" ++ two_digits d.time.minute in
      let front = quiet_join (day_name w) (codes ", ") (quiet_name w weekday_in) refl in
      let is_dated = quiet_join (two_digits d.date.day ++ codes " ") (month_name d.date.month)
      (quiet_join (two_digits d.date.day) (codes " ") day refl) month in
      let is_full = quiet_join (day_month ++ codes " ") (decimal y)
      (quiet_join day_month (codes " ") is_dated refl) year_digits in
      let is_timed = quiet_join (two_digits d.time.hour ++ codes ":") (two_digits d.time.minute)
      (quiet_join (two_digits d.time.hour) (codes ":") hour refl) minute in
      let is_clock = quiet_join (timed ++ codes ":") (two_digits d.time.second)
      (quiet_join timed (codes ":") is_timed refl) second in
      let whole = quiet_join (full ++ codes " " ++ clock stamp) (codes " GMT")
      (quiet_join (full ++ codes " ") (clock stamp) (quiet_join full (codes " ") is_full refl) is_clock) refl in
      rw shown (quiet_join (day_name w ++ codes ", ") (full ++ codes " " ++ clock stamp ++ codes " GMT") front whole)

-- such bytes are their own characters
pub chars-quiet : (text : List ℕ) → list_all is_quiet text ≡ true → chars text ≡ text
chars-quiet text quiet =
    ap chars (sym (encodes-IsAscii text (IsAscii-from_all text (below text quiet))))
    ∙ chars-encodes text (scalars_quiet text quiet)

-- the text without what `trim` could take
pub trim-quiet : (text front : List ℕ) (last : ℕ) → list_all is_quiet text ≡ true → text ≡ front ++ last ∷ []
    → is_whitespace (get_or text 0 0) ≡ false → is_whitespace last ≡ false → trim text ≡ text
unfolding trim_start trim_end
trim-quiet text front last quiet ends first after =
    let ascii = IsAscii-from_all text (below text quiet) in
    let same = encodes-IsAscii text ascii in
    let characters : chars text ≡ text = ap chars (sym same) ∙ chars-encodes text (scalars_quiet text quiet) in
    let start : trim_start text ≡ text = ap (λ cs. encodes (skip_leading_whitespace cs)) characters
    ∙ ap encodes (skip_first text first) ∙ same in
    let end : drop_trailing_whitespace text ≡ text = ap drop_trailing_whitespace ends ∙ drop_last front last after
    ∙ sym ends in
    ap trim_end start ∙ ap (λ cs. encodes (drop_trailing_whitespace cs)) characters ∙ ap encodes end ∙ same

-- a printed date has no white space at an end
pub trim-printed : (d : DateTime) (y : ℕ) → d.date.year ≡ pos y → 100 ≤ y → trim (date_text d) ≡ date_text d
unfolding date_text
trim-printed d y year long =
    let n = weekday_of d.date + 1 in
    let within = weekday_in d y year long in
    let some : nat_lt 0 (length (day_name n)) ≡ true = agree_below_at (λ k. nat_lt 0 (length (day_name k)))
    (λ _. true) 8 n refl (omega arith) in
    let rest = day_month_year (codes " ") (stamp d y year long) (decimal y) in
    let before = day_name n ++ codes ", " in
    let after =
    two_digits d.date.day ++ codes " " ++ month_name d.date.month ++ codes " " ++ signed_decimal d.date.year
    ++ codes " " ++ time_text d in
    let ends : date_text d ≡ (before ++ (after ++ codes " GM")) ++ 84 ∷ [] =
    ap (λ t. before ++ t) (sym (append_assoc after (codes " GM") (84 ∷ [])))
    ∙ sym (append_assoc before (after ++ codes " GM") (84 ∷ [])) in
    let first : get_or (date_text d) 0 0 ≡ get_or (day_name n) 0 0 =
    ap (λ t. get_or t 0 0) (shown d y year long ∙ append_assoc (day_name n) (codes ", ") rest)
    ∙ get_or-append (day_name n) (codes ", " ++ rest) 0 0 (ltb-true _ _ some) in
    let black : is_whitespace (get_or (day_name n) 0 0) ≡ false = agree_below_at
    (λ k. is_whitespace (get_or (day_name k) 0 0)) (λ _. false) 8 n refl (omega arith) in
    trim-quiet (date_text d) (before ++ (after ++ codes " GM")) 84 (printed_quiet d y year long) ends
    (ap is_whitespace first ∙ black) refl
