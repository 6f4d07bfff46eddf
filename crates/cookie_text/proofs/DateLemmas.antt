-- The readers of dates read the four forms, and nothing else.
use Rattle.std.proofs.Common.{◌≡◌, ℕ, ◌+◌, ◌<◌, ◌⊎◌, ◌==◌, nat_lt, Bool, true, false, cond, List, [], ◌∷◌, ◌++◌, length}
use Rattle.std.proofs.Common.{get_or, Option, Some, None, option_and_then, option_map, ℤ, pos, refl, sym, ap, subst}
use Rattle.std.proofs.Common.{◌∙◌, arith, inl, inr, append_assoc, eqb-true, eq-eqb, codes, MatchOption}
use Rattle.std.specs.Option.{option_or}
use Rattle.std.proofs.lemmas.Bool.{ltb-true, agree_below_at}
use Rattle.std.proofs.Math.ListN.{get_or-append}
use Rattle.std.proofs.lemmas.Bool.Decides.{nat_tests}
use Rattle.std.proofs.lemmas.List.{append-nil, nil_from_length}
use Rattle.std.proofs.lemmas.Option.{none-some, same_Some}
use Rattle.std.proofs.lemmas.Slice.Eq.{bytes_eq-Decides}
use Rattle.std.specs.Int.{IsInRange}
use Rattle.httpdate.specs.Text.{day_name, day_name_rest, month_name, two_digits}
use Rattle.httpdate.specs.Reader.{read_tag, read_two_digits, read_name, read_time, read_padded_day}
use Rattle.httpdate.proofs.OptionLemmas.{cond_some, and_then_some}
use Rattle.httpdate.proofs.ReaderLemmas.{after_tag_sound, read_tag_complete, read_two_digits_complete}
use Rattle.httpdate.proofs.ReaderLemmas.{read_two_digits_sound, read_name_sound, read_name-day_name}
use Rattle.httpdate.proofs.ReaderLemmas.{read_name-month_name, read_time_complete, read_time_sound}
use Rattle.httpdate.proofs.ReaderLemmas.{read_padded_day_digits, read_padded_day_space, read_padded_day_sound}
use Rattle.jiff_core.specs.Calendar.{days_in_month}
use Rattle.jiff.specs.Types.{DateTime}
use Rattle.cookie_text.specs.Date.{Stamp, IsStamp, clock, day_month_year, spaced, dashed, full_name, year_last}
use Rattle.cookie_text.specs.Date.{IsPaddedDay, AreYearDigits, IsYearText, IsForm, IsDateText, IsMoment}
use Rattle.cookie_text.specs.DateReader.{read_year, stamp_of, read_fields, read_year_last, read_short}
use Rattle.cookie_text.specs.DateReader.{read_two_digit_year, read_date}
use Rattle.cookie_text.proofs.DateNumbers.{read_year_complete, read_year_sound}

-- the numbers fit two places, and the names are there
record Fits (s : Stamp) : Type 0 where
  month : IsInRange 1 12 s.month
  day : s.day < 100
  hour : s.hour < 100
  minute : s.minute < 100
  second : s.second < 100

pub month_length : (y : ℤ) (m : ℕ) → days_in_month y m < 100
month_length y m = grind (arith, nat_tests)

Fits-IsStamp : (s : Stamp) → IsStamp s → Fits s
Fits-IsStamp s h = record {
  month = h.civil.1;
  day = omega (arith, h.civil.2, month_length (pos s.year) s.month);
  hour = omega (arith, h.hour);
  minute = omega (arith, h.minute);
  second = omega (arith, h.second);
}

abbrev gmt : List ℕ
gmt = codes " GMT"

-- the stamp of its parts
stamp_of-same : (s : Stamp) (year : List ℕ) → IsYearText year s.year
    → stamp_of s.day s.month (s.hour, s.minute, s.second) year ≡ s
stamp_of-same s year h = λ i. record {
  year = h.value i;
  month = s.month;
  day = s.day;
  hour = s.hour;
  minute = s.minute;
  second = s.second;
}

padded_complete : (n : ℕ) (text rest : List ℕ) → IsPaddedDay text n → n < 100
    → read_padded_day (text ++ rest) ≡ Some (n, rest)
padded_complete n text rest (inl e) small = ap (λ t. read_padded_day (t ++ rest)) e
    ∙ read_padded_day_digits n rest small
padded_complete n text rest (inr e) small = ap (λ t. read_padded_day (t ++ rest)) e.0 ∙ read_padded_day_space n rest e.1

whole_year : (year : List ℕ) → AreYearDigits year → read_year year ≡ Some (year, [])
whole_year year h = ap read_year (sym (append-nil year)) ∙ read_year_complete year [] h refl

eight : (a b c d e f g h : List ℕ) → a ++ b ++ c ++ d ++ e ++ f ++ g ++ h ≡ a
    ++ (b ++ (c ++ (d ++ (e ++ (f ++ (g ++ h))))))
eight a b c d e f g h = simp append_assoc

nine : (a b c d e f g h j : List ℕ) → a ++ b ++ c ++ d ++ e ++ f ++ g ++ h ++ j ≡ a
    ++ (b ++ (c ++ (d ++ (e ++ (f ++ (g ++ (h ++ j)))))))
nine a b c d e f g h j = simp append_assoc

-- the forms, grouped as they are read
abbrev fields_text : List ℕ → Stamp → List ℕ → List ℕ
fields_text dash s year =
    two_digits s.day ++ (dash ++ (month_name s.month ++ (dash ++ (year ++ 32 ∷ (clock s ++ gmt)))))

fields_grouped : (dash : List ℕ) (s : Stamp) (year : List ℕ) → day_month_year dash s year ≡ fields_text dash s year
fields_grouped dash s year = eight (two_digits s.day) dash (month_name s.month) dash year (codes " ") (clock s) gmt

abbrev last_text : Stamp → List ℕ → List ℕ → List ℕ
last_text s day year = month_name s.month ++ 32 ∷ (day ++ 32 ∷ (clock s ++ 32 ∷ year))

last_grouped : (w : ℕ) (s : Stamp) (day year : List ℕ) → year_last w s day year ≡ day_name w
    ++ 32 ∷ last_text s day year
last_grouped w s day year = nine (day_name w) (codes " ") (month_name s.month) (codes " ") day (codes " ") (clock s)
    (codes " ") year

short_grouped : (w : ℕ) (dash : List ℕ) (s : Stamp) (year : List ℕ)
    → day_name w ++ codes ", " ++ day_month_year dash s year ≡ day_name w ++ 44 ∷ 32 ∷ day_month_year dash s year
short_grouped w dash s year = append_assoc (day_name w) (codes ", ") (day_month_year dash s year)

full_grouped : (w : ℕ) (s : Stamp) (year : List ℕ) → full_name w s year ≡ day_name w
    ++ (day_name_rest w ++ 44 ∷ 32 ∷ day_month_year (codes "-") s year)
full_grouped w s year = four (day_name w) (day_name_rest w) (codes ", ") (day_month_year (codes "-") s year)
  where
    four : (a b c d : List ℕ) → a ++ b ++ c ++ d ≡ a ++ (b ++ (c ++ d))
    four a b c d = simp append_assoc

module _ (s : Stamp) (year : List ℕ) (h : Fits s) (dated : IsYearText year s.year) where
  fields_complete : (dash : List ℕ) → read_fields dash (fields_text dash s year) ≡ Some (year, s)
  unfolding read_fields
  fields_complete dash =
      let after_year = clock s ++ gmt in
      let after_month = year ++ 32 ∷ after_year in
      let after_day = month_name s.month ++ (dash ++ after_month) in
      rw (
        read_two_digits_complete s.day (dash ++ after_day) h.day,
        read_tag_complete dash after_day,
        read_name-month_name s.month (dash ++ after_month) h.month,
        read_tag_complete dash after_month,
        read_year_complete year (32 ∷ after_year) dated.digits refl,
        read_tag_complete (32 ∷ []) after_year,
        read_time_complete s.hour s.minute s.second gmt h.hour h.minute h.second,
        stamp_of-same s year dated,
      )

  year_last_complete : (day : List ℕ) → IsPaddedDay day s.day → read_year_last (last_text s day year) ≡ Some s
  unfolding read_year_last
  year_last_complete day padded =
      let after_day = clock s ++ 32 ∷ year in
      let after_month = day ++ 32 ∷ after_day in
      rw (
        read_name-month_name s.month (32 ∷ after_month) h.month,
        read_tag_complete (32 ∷ []) after_month,
        padded_complete s.day day (32 ∷ after_day) padded h.day,
        read_tag_complete (32 ∷ []) after_day,
        read_time_complete s.hour s.minute s.second (32 ∷ year) h.hour h.minute h.second,
        read_tag_complete (32 ∷ []) year,
        whole_year year dated.digits,
        stamp_of-same s year dated,
      )

-- a text with dashes isn't one with spaces
dashed_not_spaced : (s : Stamp) (year : List ℕ) → s.day < 100
    → read_fields (codes " ") (fields_text (codes "-") s year) ≡ None
unfolding read_fields read_tag
dashed_not_spaced s year small = rw (read_two_digits_complete s.day
    (45 ∷ (month_name s.month ++ 45 ∷ (year ++ 32 ∷ (clock s ++ gmt)))) small) refl

module _ (s : Stamp) (year : List ℕ) (h : Fits s) (dated : IsYearText year s.year) where
  spaced_complete : read_short (day_month_year (codes " ") s year) ≡ Some s
  unfolding read_short
  spaced_complete = rw (fields_grouped (codes " ") s year, fields_complete s year h dated (codes " ")) refl

  dashed_complete : read_short (day_month_year (codes "-") s year) ≡ Some s
  unfolding read_short
  dashed_complete =
      rw (fields_grouped (codes "-") s year, dashed_not_spaced s year h.day, fields_complete s year h dated (codes "-"))
      refl

  two_digit_complete : length year ≡ 2 → read_two_digit_year (day_month_year (codes "-") s year) ≡ Some s
  unfolding read_two_digit_year
  two_digit_complete two =
      rw (fields_grouped (codes "-") s year, fields_complete s year h dated (codes "-"), eq-eqb (length year) 2 two)
      refl

-- the rest of a weekday's name begins with a letter
rest_begins : (n : ℕ) (rest : List ℕ) → IsInRange 1 7 n → ((get_or (day_name_rest n ++ rest) 0 0 == 44) ≡ false)
    × ((get_or (day_name_rest n ++ rest) 0 0 == 32) ≡ false)
rest_begins n rest h =
    let some : 0 < length (day_name_rest n) =
    ltb-true _ _ (agree_below_at (λ k. nat_lt 0 (length (day_name_rest k))) (λ _. true) 8 n refl (omega arith)) in
    let first : get_or (day_name_rest n ++ rest) 0 0 ≡ get_or (day_name_rest n) 0 0 = get_or-append
    (day_name_rest n) rest 0 0 some in (
      ap (λ b. b == 44) first ∙ agree_below_at (λ k. get_or (day_name_rest k) 0 0 == 44) (λ _. false) 8 n refl
          (omega arith),
      ap (λ b. b == 32) first ∙ agree_below_at (λ k. get_or (day_name_rest k) 0 0 == 32) (λ _. false) 8 n refl
          (omega arith),
    )

-- each form is read
module _ (w : ℕ) (s : Stamp) (year : List ℕ) (named : IsInRange 1 7 w) (h : Fits s)
    (dated : IsYearText year s.year) where
  read_spaced : read_date (spaced w s year) ≡ Some s
  unfolding read_date read_tag
  read_spaced =
      rw (short_grouped w (codes " ") s year, read_name-day_name w (44 ∷ 32 ∷ day_month_year (codes " ") s year) named)
      (spaced_complete s year h dated)

  read_dashed : read_date (dashed w s year) ≡ Some s
  unfolding read_date read_tag
  read_dashed =
      rw (short_grouped w (codes "-") s year, read_name-day_name w (44 ∷ 32 ∷ day_month_year (codes "-") s year) named)
      (dashed_complete s year h dated)

  read_full_name : length year ≡ 2 → read_date (full_name w s year) ≡ Some s
  unfolding read_date
  read_full_name two =
      let rest = 44 ∷ 32 ∷ day_month_year (codes "-") s year in
      let first = rest_begins w rest named in
      rw (
        full_grouped w s year,
        read_name-day_name w (day_name_rest w ++ rest) named,
        first.0,
        first.1,
        read_tag_complete (day_name_rest w) rest,
        read_tag_complete (codes ", ") (day_month_year (codes "-") s year),
      )
      (two_digit_complete s year h dated two)

  read_last : (day : List ℕ) → IsPaddedDay day s.day → read_date (year_last w s day year) ≡ Some s
  unfolding read_date read_tag
  read_last day padded =
      rw (last_grouped w s day year, read_name-day_name w (32 ∷ last_text s day year) named)
      (year_last_complete s year h dated day padded)

pub read_date_complete : (text : List ℕ) (s : Stamp) → IsDateText text s → read_date text ≡ Some s
read_date_complete text s h = go h.form
  where
    fits : Fits s
    fits = Fits-IsStamp s h.exists

    go : IsForm text h.weekday s h.day h.year → read_date text ≡ Some s
    go (inl e) = ap read_date e ∙ read_spaced h.weekday s h.year h.named fits h.dated
    go (inr (inl e)) = ap read_date e ∙ read_dashed h.weekday s h.year h.named fits h.dated
    go (inr (inr (inl e))) = ap read_date e.0 ∙ read_full_name h.weekday s h.year h.named fits h.dated e.1
    go (inr (inr (inr e))) = ap read_date e ∙ read_last h.weekday s h.year h.named fits h.dated h.day h.padded

-- the fields that were read stand there
fields_sound : (dash text year : List ℕ) (s : Stamp) → read_fields dash text ≡ Some (year, s)
    → (text ≡ fields_text dash s year) × IsYearText year s.year
unfolding read_fields
fields_sound dash text year s e =
    and_then_some _ (read_two_digits text) _ e λ day read_day e₁.
    and_then_some _ (option_and_then (read_name month_name 12) (read_tag dash day.1)) _ e₁ λ month led_month e₂.
    after_tag_sound dash day.1 (read_name month_name 12) month led_month λ at_month tag_month got_month.
    and_then_some _ (option_and_then read_year (read_tag dash month.1)) _ e₂ λ digits led_digits e₃.
    after_tag_sound dash month.1 read_year digits led_digits λ at_digits tag_digits got_digits.
    and_then_some _ (option_and_then read_time (read_tag (32 ∷ []) digits.1)) _ e₃ λ time led_time e₄.
    after_tag_sound (32 ∷ []) digits.1 read_time time led_time λ at_time tag_time got_time.
    let t : Stamp = stamp_of day.0 month.0 time.0 digits.0 in
    let (test, same) = cond_some _ (digits.0, t) (year, s) e₄ in
    let end = (bytes_eq-Decides time.1 gmt).0 test in
    let d = (read_two_digits_sound text day.1 day.0 read_day).1 in
    let m = (read_name_sound month_name 12 at_month month.1 month.0 got_month).1 in
    let y = read_year_sound at_digits digits.1 digits.0 got_digits in
    let k = read_time_sound at_time time.1 time.0 got_time in
    let shown : text ≡ fields_text dash t digits.0 = cc in
    subst (λ p. (text ≡ fields_text dash p.1 p.0) × IsYearText p.0 p.1.year) same
    (shown, record { digits = y.0; value = refl })

year_last_sound : (text : List ℕ) (s : Stamp) → read_year_last text ≡ Some s → (day : List ℕ) × (year : List ℕ)
    × (text ≡ last_text s day year) × IsPaddedDay day s.day × IsYearText year s.year
unfolding read_year_last
year_last_sound text s e =
    and_then_some _ (read_name month_name 12 text) _ e λ month read_month e₁.
    and_then_some _ (option_and_then read_padded_day (read_tag (32 ∷ []) month.1)) _ e₁ λ day led_day e₂.
    after_tag_sound (32 ∷ []) month.1 read_padded_day day led_day λ at_day tag_day got_day.
    and_then_some _ (option_and_then read_time (read_tag (32 ∷ []) day.1)) _ e₂ λ time led_time e₃.
    after_tag_sound (32 ∷ []) day.1 read_time time led_time λ at_time tag_time got_time.
    and_then_some _ (option_and_then read_year (read_tag (32 ∷ []) time.1)) _ e₃ λ digits led_digits e₄.
    after_tag_sound (32 ∷ []) time.1 read_year digits led_digits λ at_digits tag_digits got_digits.
    let t : Stamp = stamp_of day.0 month.0 time.0 digits.0 in
    let (test, same) = cond_some _ t s e₄ in
    let end = nil_from_length digits.1 (eqb-true _ _ test) in
    let m = (read_name_sound month_name 12 text month.1 month.0 read_month).1 in
    let k = read_time_sound at_time time.1 time.0 got_time in
    let y = read_year_sound at_digits digits.1 digits.0 got_digits in
    let whole : at_digits ≡ digits.0 = y.1 ∙ ap (λ r. digits.0 ++ r) end ∙ append-nil digits.0 in
    let Shown : Stamp → Type 0 = λ r. (day : List ℕ) × (year : List ℕ) × (text ≡ last_text r day year)
    × IsPaddedDay day r.day × IsYearText year r.year in
    let dated : IsYearText digits.0 t.year = record { digits = y.0; value = refl } in
    let shown : Shown t = elim (read_padded_day_sound at_day day.1 day.0 got_day) [
      | inl d ↦ (two_digits day.0, digits.0, cc, inl refl, dated)
      | inr d ↦ (32 ∷ (48 + day.0) ∷ [], digits.0, cc d.0, inr (refl, d.1), dated)
    ] in
    subst Shown same shown

short_sound : (text : List ℕ) (s : Stamp) → read_short text ≡ Some s → (year : List ℕ) × IsYearText year s.year
    × ((text ≡ fields_text (codes " ") s year) ⊎ (text ≡ fields_text (codes "-") s year))
unfolding read_short
short_sound text s e = go (read_fields (codes " ") text) (read_fields (codes "-") text) refl refl e
  where
    Shown : Stamp → Type 0
    Shown t = (year : List ℕ) × IsYearText year t.year × ((text ≡ fields_text (codes " ") t year)
        ⊎ (text ≡ fields_text (codes "-") t year))

    go : (a b : Option (List ℕ × Stamp)) → read_fields (codes " ") text ≡ a → read_fields (codes "-") text ≡ b
        → option_or (option_map (λ p. p.1) a) (option_map (λ p. p.1) b) ≡ Some s → Shown s
    go (Some x) b ea eb found =
        let h = fields_sound (codes " ") text x.0 x.1 ea in
        subst Shown (same_Some _ _ found) (x.0, h.1, inl h.0)
    go None (Some y) ea eb found =
        let h = fields_sound (codes "-") text y.0 y.1 eb in
        subst Shown (same_Some _ _ found) (y.0, h.1, inr h.0)
    go None None ea eb found = absurd (none-some _ found)

two_digit_sound : (text : List ℕ) (s : Stamp) → read_two_digit_year text ≡ Some s → (year : List ℕ)
    × IsYearText year s.year × (text ≡ fields_text (codes "-") s year) × (length year ≡ 2)
unfolding read_two_digit_year
two_digit_sound text s e =
    and_then_some _ (read_fields (codes "-") text) _ e λ fields read e₁.
    let (test, same) = cond_some _ fields.1 s e₁ in
    let h = fields_sound (codes "-") text fields.0 fields.1 read in
    subst (λ t. (year : List ℕ) × IsYearText year t.year × (text ≡ fields_text (codes "-") t year) × (length year ≡ 2))
    same
    (fields.0, h.1, h.0, eqb-true _ _ test)

-- the text shows these numbers, whether or not the calendar has them
record Shows (text : List ℕ) (s : Stamp) : Type 0 where
  weekday : ℕ
  day : List ℕ
  year : List ℕ
  named : IsInRange 1 7 weekday
  padded : IsPaddedDay day s.day
  dated : IsYearText year s.year
  form : IsForm text weekday s day year

-- by what follows the first three letters
module _ (text rest : List ℕ) (w : ℕ) (s : Stamp) (named : IsInRange 1 7 w) (begins : text ≡ day_name w ++ rest) where
  after_comma : option_and_then read_short (read_tag (44 ∷ 32 ∷ []) rest) ≡ Some s → Shows text s
  after_comma e =
      after_tag_sound (44 ∷ 32 ∷ []) rest read_short s e λ at tag got.
      let h = short_sound at s got in
      let short : (dash : List ℕ) → at ≡ fields_text dash s h.0
      → text ≡ day_name w ++ codes ", " ++ day_month_year dash s h.0 =
      λ dash t. begins ∙ ap (λ r. day_name w ++ r) (tag ∙ ap (λ r. 44 ∷ 32 ∷ r) (t ∙ sym (fields_grouped dash s h.0)))
      ∙ sym (short_grouped w dash s h.0) in
      record {
        weekday = w;
        day = two_digits s.day;
        year = h.0;
        named = named;
        padded = inl refl;
        dated = h.1;
        form = elim h.2 [ inl t ↦ inl (short (codes " ") t) | inr t ↦ inr (inl (short (codes "-") t)) ];
      }

  after_space : option_and_then read_year_last (read_tag (32 ∷ []) rest) ≡ Some s → Shows text s
  after_space e =
      after_tag_sound (32 ∷ []) rest read_year_last s e λ at tag got.
      let h = year_last_sound at s got in
      record {
        weekday = w;
        day = h.0;
        year = h.1;
        named = named;
        padded = h.3;
        dated = h.4;
        form = inr (inr (inr (begins ∙ ap (λ r. day_name w ++ r) (tag ∙ ap (λ r. 32 ∷ r) h.2)
            ∙ sym (last_grouped w s h.0 h.1))));
      }

  after_letter : option_and_then (λ r. option_and_then read_two_digit_year (read_tag (44 ∷ 32 ∷ []) r))
      (read_tag (day_name_rest w) rest) ≡ Some s → Shows text s
  after_letter e =
      after_tag_sound (day_name_rest w) rest _ s e λ comma long led.
      after_tag_sound (44 ∷ 32 ∷ []) comma read_two_digit_year s led λ at tag got.
      let h = two_digit_sound at s got in
      let shown : rest ≡ day_name_rest w ++ 44 ∷ 32 ∷ day_month_year (codes "-") s h.0 =
      long ∙ ap (λ r. day_name_rest w ++ r) (tag ∙ ap (λ r. 44 ∷ 32 ∷ r) (h.2 ∙ sym (fields_grouped (codes "-") s h.0)))
      in
      record {
        weekday = w;
        day = two_digits s.day;
        year = h.0;
        named = named;
        padded = inl refl;
        dated = h.1;
        form = inr (inr (inl (begins ∙ ap (λ r. day_name w ++ r) shown ∙ sym (full_grouped w s h.0), h.3)));
      }

  by_next : (comma space : Bool) → cond comma (option_and_then read_short (read_tag (44 ∷ 32 ∷ []) rest))
      (cond space (option_and_then read_year_last (read_tag (32 ∷ []) rest))
      (option_and_then (λ r. option_and_then read_two_digit_year (read_tag (44 ∷ 32 ∷ []) r))
      (read_tag (day_name_rest w) rest))) ≡ Some s → Shows text s
  by_next true space e = after_comma e
  by_next false true e = after_space e
  by_next false false e = after_letter e

-- what is read is shown
read_date_sound : (text : List ℕ) (s : Stamp) → read_date text ≡ Some s → Shows text s
unfolding read_date
read_date_sound text s e =
    and_then_some _ (read_name day_name 7 text) _ e λ w read e₁.
    let name = read_name_sound day_name 7 text w.1 w.0 read in
    by_next text w.1 w.0 s name.0 name.1 _ _ e₁

IsDateText-shown : (text : List ℕ) (s : Stamp) → Shows text s → IsStamp s → IsDateText text s
IsDateText-shown text s h exists = record {
  weekday = h.weekday;
  day = h.day;
  year = h.year;
  named = h.named;
  padded = h.padded;
  dated = h.dated;
  exists = exists;
  form = h.form;
}

-- a text shows one date at most
pub one_date : (text : List ℕ) (s t : Stamp) → IsDateText text s → IsDateText text t → s ≡ t
one_date text s t h k = same_Some _ _ (sym (read_date_complete text s h) ∙ read_date_complete text t k)

-- what reading a date comes to
abbrev pub ReadsDate : List ℕ → Option DateTime → Type 0
ReadsDate text o = MatchOption o ((s : Stamp) → ¬ (IsDateText text s))
    (λ d. (s : Stamp) × IsDateText text s × IsMoment s d)

pub no_date : (text : List ℕ) → read_date text ≡ None → ReadsDate text None
no_date text none s h = none-some _ (sym none ∙ read_date_complete text s h)

pub dated : (text : List ℕ) (s : Stamp) (o : Option DateTime) → read_date text ≡ Some s
    → MatchOption o (¬ (IsStamp s)) (λ d. IsStamp s × IsMoment s d) → ReadsDate text o
dated text s None read none =
    λ t h. none (subst IsStamp (same_Some _ _ (sym (read_date_complete text t h) ∙ read)) h.exists)
dated text s (Some d) read found = (s, IsDateText-shown text s (read_date_sound text s read) found.0, found.1)
