-- A session's lines pass the rules as they stand.
use Rattle.std.proofs.Common.{◌≡◌, ℕ, ℤ, pos, negsuc, suc, ◌<◌, ◌≤◌, ◌+◌, ◌+ℤ◌, ◌*ℤ◌, ◌≤ℤ◌, ◌<ℤ◌, ◌==◌, ◌&&◌}
use Rattle.std.proofs.Common.{◌||◌, ◌^◌, Bool, true, false, cond, List, [], ◌∷◌, ◌++◌, length, Option, Some, None}
use Rattle.std.proofs.Common.{option_map, Ok, refl, sym, ap, subst, ◌∙◌, inl, inr, arith, codes, lit<}
use Rattle.std.proofs.Common.{IsTrue, bytes_eq}
use Rattle.std.specs.Prelude.{filter, map, IfSome, int_lt, nat_le, is_none}
use Rattle.std.specs.Char.{is_ascii_digit}
use Rattle.std.specs.Fmt.{decimal, signed_decimal}
use Rattle.std.specs.Int.{IsInRange}
use Rattle.std.specs.List.{All, AllByRecursion, flat_map, list_all, list_any}
use Rattle.std.specs.Str.{trim_start, trim_end, chars}
use lib.Utf8.{encode}
use Rattle.std.proofs.lemmas.Bool.{agree_below_at, and_parts, both_ways, cond-false, cond-true}
use Rattle.std.proofs.lemmas.Bool.Decides.{nat_tests}
use Rattle.std.proofs.lemmas.Fmt.{digits_decimal, length-decimal-le}
use Rattle.std.proofs.lemmas.List.{length-append}
use Rattle.std.proofs.lemmas.List.Elements.{All-cons, All-head, All-tail, All-weaker}
use Rattle.std.proofs.lemmas.List.Folds.{list_any-append}
use Rattle.std.proofs.lemmas.Option.{none-some}
use Rattle.std.proofs.lemmas.Slice.Eq.{bytes_eq-Decides}
use Rattle.httpdate.specs.Text.{day_name, month_name, two_digits}
use Rattle.jiff_core.proofs.CalendarLemmas.{weekday_number_bound}
use Rattle.jiff_core.proofs.SignedLemmas.{signed_arith}
use Rattle.jiff_core.specs.Date.{epoch_day}
use Rattle.jiff_core.specs.DateTime.{civil_nanos}
use Rattle.jiff_core.specs.Timestamp.{IsDurationNanos}
use Rattle.jiff.specs.Types.{DateTime}
use Rattle.jiff.specs.Words.{weekday_of}
use Rattle.publicsuffix.specs.Rules.{Rule}
use Rattle.url.specs.Parts.{Parts}
use Rattle.cookie.specs.ByName.{HaveOwnNames, value_in}
use Rattle.cookie.specs.Jar.{under_names}
use Rattle.cookie_text.specs.Attribute.{Attribute, HttpOnly, Secure, Partitioned, OfSite, MaxAge, Path, Domain, Expires}
use Rattle.cookie_text.specs.Attribute.{Gives}
use Rattle.cookie_text.specs.declared.draft.SameSite.{SameSite}
use Rattle.cookie_text.specs.declared.draft.SameSite.TheVariants.{Strict, Lax, None as Unrestricted}
use Rattle.cookie_text.specs.declared.expiration.Expiration.{Expiration}
use Rattle.cookie_text.specs.declared.expiration.Expiration.TheVariants.{DateTime as At}
use Rattle.cookie_text.specs.Date.{dated, with_weekday}
use Rattle.cookie_text.specs.Normal.{is_short_year, kept, normal, not_below_zero, whole_moment}
use Rattle.cookie_text.specs.Pieces.{equals, pieces, semicolon, text_after, value_of}
use Rattle.cookie_text.specs.Printing.{attribute_text, attributes_of, date_text, encoded, encoded_pair, escaped}
use Rattle.cookie_text.specs.Printing.{is_set, is_unrestricted, prints_secure, stripped, time_text}
use Rattle.cookie_text.specs.Printing.{whole_seconds}
use Rattle.cookie_text.specs.Reading.{ReadsPlain, first_piece}
use Rattle.cookie_text.specs.ReadingBack.{Pairwise}
use Rattle.cookie_text.specs.Record.{Record, Seen, domain_of, moment_of, without_dot}
use Rattle.cookie_text.proofs.DateLemmas.{month_length}
use Rattle.cookie_text.proofs.DateNumbers.{own}
use Rattle.cookie_text.proofs.NormalLemmas.{pieces_of, printed_pieces}
use Rattle.cookie_text.proofs.PrintedAttributes.{clean_of, reads-Expires, reads-HttpOnly, reads-MaxAge}
use Rattle.cookie_text.proofs.PrintedAttributes.{reads-Partitioned, reads-Path, reads-SameSite, reads-Secure}
use Rattle.cookie_text.proofs.PrintedAttributes.{AreSeconds, whole_seconds_fit}
use Rattle.cookie_text.proofs.PrintedCookies.{AllThere, there_end, there_flag, there_option, printed-pieces}
use Rattle.cookie_text.proofs.PrintedDates.{trim-printed}
use Rattle.cookie_text.proofs.PrintedPieces.{All-IsPlain-escaped, IsDigitByte, IsGraphic, IsPlain, digit_at_range}
use Rattle.cookie_text.proofs.PrintedPieces.{trim-graphic, value_cut}
use Rattle.cookie_text.proofs.ReadsBack.{reads_back}
use Rattle.cookie_text.proofs.UniqueLemmas.{one_age, one_end}
use Rattle.cookie_store.specs.Rows.{Row}
use Rattle.cookie_client.specs.Accept.{Accepts, AcceptsAll}
use Rattle.cookie_client.specs.Jar.{IsSent, lines_of}
use Rattle.cookie_client.specs.declared.outcome.LineEnd.{LineEnd}
use Rattle.store_parts.specs.Expiry.{seconds}
use Rattle.user_agent.specs.Agent.{IsDoneIf, IsHandedOn, TakesLine, TakesLines}
use Rattle.user_agent.specs.Controls.{IsFree}
use Rattle.user_agent.specs.CutLives.{IsBrief, IsCut, IsCutLine, longest}
use Rattle.user_agent.specs.KnownDates.{HasLooseDate, IsKnown, IsKnownLine, joined_behind}
use Rattle.user_agent.specs.LongAttributes.{IsShortLine, is_short}
use Rattle.user_agent.specs.Refusals.{CameByHttps, Refuses, RefusesCookie}
use Rattle.user_agent.specs.Refusals.{is_control, is_on}
use Rattle.user_agent.specs.SessionLines.{IsWithin, LivesShortly, Passes, SentLinesPass, SessionsAreTaken}
use Rattle.user_agent.specs.declared.rules.Outcome.{Outcome}
use Rattle.user_agent.specs.declared.rules.Outcome.TheVariants.{Taken}
use Rattle.user_agent.specs.declared.rules.Refusal.{Refusal}
use Rattle.user_agent.specs.declared.rules.Refusal.TheVariants.{Control, TooLong, SecurePrefix, HostPrefix}
use Rattle.user_agent.specs.declared.rules.Refusal.TheVariants.{SecureFromHttp, SecureOverlay, LacksSecure}
use Rattle.user_agent.specs.declared.rules.Rules.{Rules}
use Rattle.user_agent.proofs.CutLemmas.{IsOther, age_end_apart, age_or_end, one_kind, other_age, other_end}
use Rattle.user_agent.proofs.KnownLemmas.{first_is}

-- ---- no control character

pub free_join : (a b : List ℕ) → IsFree a → IsFree b → IsFree (a ++ b)
free_join a b ha hb = list_any-append is_control a b ∙ rw (ha, hb) refl

free_plain : (bs : List ℕ) → All IsPlain bs → IsFree bs
free_plain [] h = refl
free_plain (b ∷ bs) h =
    let p = All-head IsPlain b bs h in
    let first : is_control b ≡ false = grind (arith, nat_tests, p.0) in
    rw (first, free_plain bs (All-tail IsPlain b bs h)) refl

free_digits : (ds : List ℕ) → list_all is_ascii_digit ds ≡ true → IsFree ds
free_digits [] h = refl
free_digits (b ∷ ds) h =
    let p = and_parts (is_ascii_digit b) (list_all is_ascii_digit ds) h in
    let first : is_control b ≡ false = grind (arith, nat_tests, p.0) in
    rw (first, free_digits ds p.1) refl

free_name : (n : ℕ) → IsInRange 1 7 n → IsFree (day_name n)
free_name n h = agree_below_at (λ k. list_any is_control (day_name k)) (λ _. false) 8 n refl (omega arith)

free_month : (n : ℕ) → IsInRange 1 12 n → IsFree (month_name n)
free_month n h = agree_below_at (λ k. list_any is_control (month_name k)) (λ _. false) 13 n refl (omega arith)

free_two : (n : ℕ) → n < 100 → IsFree (two_digits n)
free_two n h = agree_below_at (λ k. list_any is_control (two_digits k)) (λ _. false) 100 n refl h

-- ---- a printed date

long_year : (z : ℤ) → int_lt z (pos 100) ≡ false → (y : ℕ) × (z ≡ pos y) × (100 ≤ y)
long_year (pos y) h = (y, refl, grind (arith, nat_tests))
long_year (negsuc n) h = absurd (cc)

module _ (d : DateTime) (y : ℕ) (year : d.date.year ≡ pos y) where
  abbrev w : ℕ
  w = weekday_of d.date + 1

  weekday_in : IsInRange 1 7 w
  weekday_in = let h = weekday_number_bound (epoch_day d.date) in (omega arith, omega arith)

  year_most : y ≤ 9999
  year_most =
      let h : pos y ≤ℤ pos 9999 = subst (λ z. z ≤ℤ pos 9999) year d.date.year_in.1 in
      omega (arith, signed_arith, h)

  wide : y < 2 ^ 64
  wide = omega (arith, year_most)

  -- what stands behind the weekday, up to the clock, and the clock
  abbrev front : List ℕ
  front = two_digits d.date.day ++ codes " " ++ month_name d.date.month ++ codes " " ++ decimal y

  date_is : date_text d ≡ day_name w ++ codes ", " ++ (front ++ codes " " ++ time_text d ++ codes " GMT")
  unfolding date_text
  date_is =
      ap (λ z. with_weekday w (dated (codes " ") d.date.day d.date.month (signed_decimal z) (time_text d))) year

  front_free : IsFree front
  front_free =
      let day = free_two d.date.day (omega (arith, d.date.day_in, month_length d.date.year d.date.month)) in
      let month = free_month d.date.month d.date.month_in in
      let numbers = free_digits (decimal y) (digits_decimal own y wide) in
      let dayed = two_digits d.date.day ++ codes " " in
      let monthed = dayed ++ month_name d.date.month in
      free_join (monthed ++ codes " ") (decimal y)
      (free_join monthed (codes " ")
      (free_join dayed (month_name d.date.month) (free_join (two_digits d.date.day) (codes " ") day refl) month) refl)
      numbers

  clock_free : IsFree (time_text d)
  clock_free =
      let hour = free_two d.time.hour (omega (arith, d.time.hour_in)) in
      let minute = free_two d.time.minute (omega (arith, d.time.minute_in)) in
      let second = free_two d.time.second (omega (arith, d.time.second_in)) in
      let houred = two_digits d.time.hour ++ codes ":" in
      let minuted = houred ++ two_digits d.time.minute in
      free_join (minuted ++ codes ":") (two_digits d.time.second)
      (free_join minuted (codes ":")
      (free_join houred (two_digits d.time.minute) (free_join (two_digits d.time.hour) (codes ":") hour refl) minute)
      refl) second

  pub date_free : IsFree (date_text d)
  date_free =
      let timed = front ++ codes " " ++ time_text d in
      subst IsFree (sym date_is)
      (free_join (day_name w ++ codes ", ") (timed ++ codes " GMT")
      (free_join (day_name w) (codes ", ") (free_name w weekday_in) refl)
      (free_join timed (codes " GMT")
      (free_join (front ++ codes " ") (time_text d) (free_join front (codes " ") front_free refl) clock_free) refl))

  date_short : length (date_text d) ≤ 1024
  date_short =
      let name : length (day_name w) ≤ 3 =
      let table = agree_below_at (λ k. nat_le (length (day_name k)) 3) (λ _. true) 8 w refl
      (omega (arith, weekday_in)) in grind (arith, nat_tests, table) in
      let month : length (month_name d.date.month) ≤ 3 =
      let table = agree_below_at (λ k. nat_le (length (month_name k)) 3) (λ _. true) 13 d.date.month refl
      (omega (arith, d.date.month_in)) in grind (arith, nat_tests, table) in
      let numbers : length (decimal y) ≤ 4 = length-decimal-le 4 y (omega arith) (omega (arith, year_most)) wide in
      let named = length-append (day_name w) (codes ", ") in
      let dayed = length-append (two_digits d.date.day) (codes " ") in
      let monthed = length-append (two_digits d.date.day ++ codes " ") (month_name d.date.month) in
      let parted = length-append (two_digits d.date.day ++ codes " " ++ month_name d.date.month) (codes " ") in
      let yeared = length-append (two_digits d.date.day ++ codes " " ++ month_name d.date.month ++ codes " ")
      (decimal y) in
      let spaced = length-append front (codes " ") in
      let timed = length-append (front ++ codes " ") (time_text d) in
      let ended = length-append (front ++ codes " " ++ time_text d) (codes " GMT") in
      let whole = ap length date_is
      ∙ length-append (day_name w ++ codes ", ") (front ++ codes " " ++ time_text d ++ codes " GMT") in
      let day : length (two_digits d.date.day) ≡ 2 = refl in
      let time : length (time_text d) ≡ 8 = refl in
      omega (arith, day, time, name, month, numbers, named, dayed, monthed, parted, yeared, spaced, timed, ended, whole)

-- the moment without its fraction isn't later
whole_is_before : (d : DateTime) → civil_nanos (whole_moment d) ≤ℤ civil_nanos d
unfolding civil_nanos
whole_is_before d = omega (arith, signed_arith)

-- ---- an attribute of a session's line

abbrev piece_of : Attribute → List ℕ
piece_of a = 32 ∷ attribute_text a

-- without a control character, short, in a strict form, and brief where lives are cut
record IsMeek (long : Bool) (now : ℤ) (a : Attribute) : Type 0 where
  clean : All (λ b. (b == semicolon) ≡ false) (attribute_text a)
  free : IsFree (attribute_text a)
  short : is_short (piece_of a) ≡ true
  strict : (m : DateTime) → ¬ (HasLooseDate (piece_of a) m)
  brief : IsTrue long → IsBrief now (piece_of a)

after_of : (p t : List ℕ) → value_of p ≡ Some t → text_after p ≡ t
unfolding value_of
after_of p t e = by _ e
  where
    by : (b : Bool) → cond b (Some (text_after p)) None ≡ Some t → text_after p ≡ t
    by true h = cc
    by false h = absurd (cc h)

short_of : (p t : List ℕ) → value_of p ≡ Some t → length t ≤ 1024 → is_short p ≡ true
short_of p t e h = rw (after_of p t e) (grind (arith, nat_tests, h))

module _ (long : Bool) (now : ℤ) where
  meek_other : (a : Attribute) → IsOther a → Gives (piece_of a) a
      → All (λ b. (b == semicolon) ≡ false) (attribute_text a) → IsFree (attribute_text a)
      → is_short (piece_of a) ≡ true → IsMeek long now a
  meek_other a o g clean free short = record {
    clean = clean;
    free = free;
    short = short;
    strict = λ m h. other_end a o (sym g.named ∙ h.is.named);
    brief = λ _. (
      λ h. other_age a o (one_kind (piece_of a) a (MaxAge h.0) g h.1),
      λ m h. other_end a o (one_kind (piece_of a) a (Expires h.date) g h.given),
    );
  }

  meek-HttpOnly : IsMeek long now HttpOnly
  unfolding text_after trim_start trim_end chars encode
  meek-HttpOnly = meek_other HttpOnly tt reads-HttpOnly.gives reads-HttpOnly.clean refl refl

  meek-Secure : IsMeek long now Secure
  unfolding text_after trim_start trim_end chars encode
  meek-Secure = meek_other Secure tt reads-Secure.gives reads-Secure.clean refl refl

  meek-Partitioned : IsMeek long now Partitioned
  unfolding text_after trim_start trim_end chars encode
  meek-Partitioned = meek_other Partitioned tt reads-Partitioned.gives reads-Partitioned.clean refl refl

  meek-SameSite : (s : SameSite) → IsMeek long now (OfSite s)
  unfolding text_after trim_start trim_end chars encode
  meek-SameSite Strict = let h = reads-SameSite Strict in meek_other (OfSite Strict) tt h.gives h.clean refl refl
  meek-SameSite Lax = let h = reads-SameSite Lax in meek_other (OfSite Lax) tt h.gives h.clean refl refl
  meek-SameSite Unrestricted =
      let h = reads-SameSite Unrestricted in meek_other (OfSite Unrestricted) tt h.gives h.clean refl refl

  meek-root : IsMeek long now (Path (codes "/"))
  unfolding text_after trim_start trim_end chars encode
  meek-root =
      let h = reads-Path (codes "/") (record { trimmed = refl; clean = clean_of (codes "/") refl }) in
      meek_other (Path (codes "/")) tt h.gives h.clean refl refl

  -- the digits of a number of seconds
  free_signed : (z : ℤ) → AreSeconds z → IsFree (signed_decimal z)
  free_signed (pos n) h =
      let wide : n < 2 ^ 64 = omega (arith, signed_arith, h.1) in
      free_digits (decimal n) (digits_decimal own n wide)
  free_signed (negsuc n) h =
      let wide : suc n < 2 ^ 64 = omega (arith, signed_arith, h.0) in
      free_digits (decimal (suc n)) (digits_decimal own (suc n) wide)

  graphic_digits : (ds : List ℕ) → list_all is_ascii_digit ds ≡ true → All IsGraphic ds
  graphic_digits ds h = All-weaker IsDigitByte IsGraphic (λ b k. (omega arith, omega arith)) ds (digit_at_range ds h)

  graphic_signed : (z : ℤ) → AreSeconds z → All IsGraphic (signed_decimal z)
  graphic_signed (pos n) h =
      let wide : n < 2 ^ 64 = omega (arith, signed_arith, h.1) in
      graphic_digits (decimal n) (digits_decimal own n wide)
  graphic_signed (negsuc n) h =
      let wide : suc n < 2 ^ 64 = omega (arith, signed_arith, h.0) in
      All-cons IsGraphic 45 (decimal (suc n)) (lit< tt, lit< tt)
      (graphic_digits (decimal (suc n)) (digits_decimal own (suc n) wide))

  signed_short : (z : ℤ) → AreSeconds z → length (signed_decimal z) ≤ 1024
  signed_short (pos n) h =
      omega (
        arith,
        length-decimal-le 20 n (omega arith) (omega (arith, signed_arith, h.1))
            (omega (arith, signed_arith, h.1)),
      )
  signed_short (negsuc n) h =
      omega (
        arith,
        length-decimal-le 20 (suc n) (omega arith) (omega (arith, signed_arith, h.0))
            (omega (arith, signed_arith, h.0)),
      )

  meek-MaxAge : (z : ℤ) → AreSeconds z → (IsTrue long → z ≤ℤ pos longest) → IsMeek long now (MaxAge z)
  meek-MaxAge z fit few =
      let h = reads-MaxAge z fit in
      let text = signed_decimal z in
      record {
        clean = h.clean;
        free = free_join (codes "Max-Age=") text refl (free_signed z fit);
        short = short_of (piece_of (MaxAge z)) text
            (value_cut (codes " Max-Age") text text refl (trim-graphic text (graphic_signed z fit)))
            (signed_short z fit);
        strict = λ m loose. age_end_apart (sym h.gives.named ∙ loose.is.named);
        brief = λ on. (
          λ (y, g, more).
              let same : y *ℤ pos 1_000_000_000 ≡ not_below_zero z *ℤ pos 1_000_000_000 =
              one_age (piece_of (MaxAge z)) _ _ (y, g, refl) (not_below_zero z, h.gives, refl) in
              not_over z y (few on) same more,
          λ m ends. age_or_end (not_below_zero z) ends.date (piece_of (MaxAge z)) h.gives ends.given,
        );
      }
    where
      not_over : (x y : ℤ) → x ≤ℤ pos longest → y *ℤ pos 1_000_000_000 ≡ not_below_zero x *ℤ pos 1_000_000_000
          → ¬ (pos longest <ℤ y)
      not_over (pos n) y least same more = omega (arith, signed_arith, least, same, more)
      not_over (negsuc n) y least same more = omega (arith, signed_arith, same, more)

  meek-Expires : (d : DateTime) → int_lt d.date.year (pos 100) ≡ false
      → (IsTrue long → civil_nanos d ≤ℤ (now +ℤ seconds longest)) → IsMeek long now (Expires d)
  meek-Expires d late soon =
      let h = reads-Expires d late in
      let (y, year, old) = long_year d.date.year late in
      record {
        clean = h.clean;
        free = free_join (codes "Expires=") (date_text d) refl (date_free d y year);
        short = short_of (piece_of (Expires d)) (date_text d)
            (value_cut (codes " Expires") (date_text d) (date_text d) refl (trim-printed d y year old))
            (date_short d y year);
        strict = λ m loose. loose.strict (whole_moment d) h.gives;
        brief = λ on. (
          λ long_age. age_or_end long_age.0 (whole_moment d) (piece_of (Expires d)) long_age.1 h.gives,
          λ m ends.
              let same : ends.date ≡ whole_moment d = same_end _ _ (one_end (piece_of (Expires d)) _ _
              (ends.date, ends.given, refl) (whole_moment d, h.gives, refl)) in
              let past = subst (λ t. civil_nanos m <ℤ civil_nanos t) same ends.late in
              let before = whole_is_before d in
              let limit = ends.limit.moment in
              let until = soon on in
              omega (arith, signed_arith, past, before, limit, until),
        );
      }
    where
      same_end : (a b : DateTime) → ◌≡◌ {A = Expiration} (At a) (At b) → a ≡ b
      same_end a b e = cc

  every : {A : Type 0} (P : A → Type 0) → ((x : A) → P x) → (o : Option A) → IfSome o P
  every P f None = tt
  every P f (Some x) = f x

  module _ (c : Record) (sent : IsSent c) (life : IsTrue long → LivesShortly now c) where
    abbrev M : Attribute → Type 0
    M = IsMeek long now

    ages : (o : Option ℤ) → IfSome o IsDurationNanos
        → (IsTrue long → IfSome o (λ nanos. whole_seconds nanos ≤ℤ pos longest))
        → IfSome o (λ nanos. M (MaxAge (whole_seconds nanos)))
    ages None fit few = tt
    ages (Some nanos) fit few = meek-MaxAge (whole_seconds nanos) (whole_seconds_fit nanos fit) few

    ends : (d : DateTime) → c.expires ≡ Some (At d) → M (Expires d)
    ends d e =
        meek-Expires d (subst (λ o. is_short_year o ≡ false) e sent.readable.expires)
        (λ on. subst (λ o. IfSome (moment_of o) (λ t. civil_nanos t ≤ℤ (now +ℤ seconds longest))) e (life on).end)

    all_meek : AllThere M (attributes_of c)
    all_meek =
        there_flag M (is_set c.http_only) HttpOnly _ meek-HttpOnly
        (there_option M OfSite c.same_site _ (every (λ s. M (OfSite s)) meek-SameSite c.same_site)
        (there_flag M (is_set c.partitioned) Partitioned _ meek-Partitioned
        (there_flag M (prints_secure c) Secure _ meek-Secure
        (there_option M Path c.path _ (subst (λ o. IfSome o (λ t. M (Path t))) (sym sent.path) meek-root)
        (there_option M Domain (domain_of c) _
        (subst (λ o. IfSome (option_map without_dot o) (λ t. M (Domain t))) (sym sent.domain) tt)
        (there_option M (λ nanos. MaxAge (whole_seconds nanos)) c.max_age _
        (ages c.max_age sent.age (λ on. (life on).age)) (there_end M c.expires [] ends tt)))))))

  -- ---- the pieces of such attributes stay

  there_clean : (os : List (Option Attribute)) → AllThere (IsMeek long now) os
      → AllThere (λ a. All (λ b. (b == semicolon) ≡ false) (attribute_text a)) os
  there_clean [] h = tt
  there_clean (None ∷ os) h = there_clean os h
  there_clean (Some a ∷ os) h = (h.0.clean, there_clean os h.1)

  there_free : (os : List (Option Attribute)) → AllThere (IsMeek long now) os
      → IsFree (flat_map (λ q. semicolon ∷ q) (pieces_of os))
  there_free [] h = refl
  there_free (None ∷ os) h = there_free os h
  there_free (Some a ∷ os) h =
      free_join (semicolon ∷ piece_of a) (flat_map (λ q. semicolon ∷ q) (pieces_of os)) h.0.free (there_free os h.1)

  there_short : (os : List (Option Attribute)) → AllThere (IsMeek long now) os
      → filter is_short (pieces_of os) ≡ pieces_of os
  there_short [] h = refl
  there_short (None ∷ os) h = there_short os h
  there_short (Some a ∷ os) h =
      cond-true (is_short (piece_of a)) (piece_of a ∷ filter is_short (pieces_of os)) (filter is_short (pieces_of os))
      h.0.short ∙ ap (λ ps. piece_of a ∷ ps) (there_short os h.1)

  there_known : (os : List (Option Attribute)) → AllThere (IsMeek long now) os → (ks : List (List ℕ))
      → Pairwise IsKnown (pieces_of os) ks → ks ≡ pieces_of os
  there_known [] h [] r = refl
  there_known [] h (k ∷ ks) r = absurd r
  there_known (None ∷ os) h ks r = there_known os h ks r
  there_known (Some a ∷ os) h [] r = absurd r
  there_known (Some a ∷ os) h (k ∷ ks) (inl (m, loose, is), rs) = absurd (h.0.strict m loose)
  there_known (Some a ∷ os) h (k ∷ ks) (inr (none, same), rs) = λ i. same i ∷ there_known os h.1 ks rs i

  there_cut : IsTrue long → (os : List (Option Attribute)) → AllThere (IsMeek long now) os → (ks : List (List ℕ))
      → Pairwise (IsCut now) (pieces_of os) ks → ks ≡ pieces_of os
  there_cut on [] h [] r = refl
  there_cut on [] h (k ∷ ks) r = absurd r
  there_cut on (None ∷ os) h ks r = there_cut on os h ks r
  there_cut on (Some a ∷ os) h [] r = absurd r
  there_cut on (Some a ∷ os) h (k ∷ ks) (inl (age, is), rs) = absurd ((h.0.brief on).0 age)
  there_cut on (Some a ∷ os) h (k ∷ ks) (inr (inl (m, end, is)), rs) = absurd ((h.0.brief on).1 m end)
  there_cut on (Some a ∷ os) h (k ∷ ks) (inr (inr (brief, near, same)), rs) =
      λ i. same i ∷ there_cut on os h.1 ks rs i

tails : (a b : List ℕ) (xs ys : List (List ℕ)) → a ∷ xs ≡ b ∷ ys → xs ≡ ys
tails a b xs ys h = cc

-- a step that would leave the line as it is
stays_if : (b : Bool) (Step : List ℕ → List ℕ → Type 0) (old new : List ℕ) → (IsTrue b → Step old new → new ≡ old)
    → IsDoneIf b Step old new → new ≡ old
stays_if true Step old new f h = f refl h
stays_if false Step old new f h = h

module _ (rules : Rules) (rows : List Row) (url : Parts) (now : ℤ) (c : Record) (sent : IsSent c)
    (https : CameByHttps url) (within : IsWithin rules now c) where
  abbrev line : List ℕ
  line = encoded c

  abbrev pair : List ℕ
  pair = stripped (encoded_pair c)

  abbrev os : List (Option Attribute)
  os = attributes_of c

  meek : AllThere (IsMeek rules.long_lives now) os
  meek = all_meek rules.long_lives now c sent within.life

  name_plain : All IsPlain (escaped c.name)
  name_plain = All-IsPlain-escaped c.name

  value_plain : All IsPlain (escaped c.value)
  value_plain = All-IsPlain-escaped c.value

  line_pieces : pieces line ≡ pair ∷ pieces_of os
  line_pieces = printed-pieces (encoded_pair c) name_plain value_plain (there_clean rules.long_lives now os meek)

  line_first : first_piece line ≡ pair
  line_first = first_is line pair (pieces_of os) line_pieces

  line_joined : line ≡ joined_behind pair (pieces_of os)
  line_joined = ap (λ t. pair ++ t) (printed_pieces os)

  whole : (others : List (List ℕ)) → others ≡ pieces_of os → joined_behind (first_piece line) others ≡ line
  whole others e = (λ i. joined_behind (line_first i) (e i)) ∙ sym line_joined

  short_same : (short : List ℕ) → IsShortLine line short → short ≡ line
  short_same short k =
      let same : k.rest ≡ pieces_of os = tails _ _ _ _ (sym k.cut ∙ line_pieces) in
      k.joined ∙ whole (filter is_short k.rest)
      (ap (filter is_short) same ∙ there_short rules.long_lives now os meek)

  known_same : (known : List ℕ) → IsKnownLine line known → known ≡ line
  known_same known k =
      let same : k.rest ≡ pieces_of os = tails _ _ _ _ (sym k.cut ∙ line_pieces) in
      k.joined ∙ whole k.others (there_known rules.long_lives now os meek k.others
      (subst (λ ps. Pairwise IsKnown ps k.others) same k.each))

  cut_same : IsTrue rules.long_lives → (cut : List ℕ) → IsCutLine now line cut → cut ≡ line
  cut_same on cut k =
      let same : k.rest ≡ pieces_of os = tails _ _ _ _ (sym k.parts ∙ line_pieces) in
      k.joined ∙ whole k.others (there_cut rules.long_lives now on os meek k.others
      (subst (λ ps. Pairwise (IsCut now) ps k.others) same k.each))

  pub handed_same : (handed : List ℕ) → IsHandedOn rules now line handed → handed ≡ line
  handed_same handed (inr (none, same)) = same
  handed_same handed (inl (text, h)) =
      let short : h.short ≡ line = stays_if rules.long_attributes IsShortLine line h.short (λ on. short_same h.short)
      h.shortened in
      let known : h.known ≡ line = stays_if rules.dates IsKnownLine line h.known (λ on. known_same h.known)
      (subst (λ l. IsDoneIf rules.dates IsKnownLine l h.known) short h.dated) in
      stays_if rules.long_lives (IsCutLine now) line handed (λ on. cut_same on handed)
      (subst (λ l. IsDoneIf rules.long_lives (IsCutLine now) l handed) known h.cut)

  line_free : IsFree line
  line_free =
      subst IsFree (sym line_joined)
      (free_join pair (flat_map (λ q. semicolon ∷ q) (pieces_of os))
      (free_join (escaped c.name) (equals ∷ escaped c.value) (free_plain (escaped c.name) name_plain)
      (free_plain (escaped c.value) value_plain)) (there_free rules.long_lives now os meek))

  is_secure : prints_secure (encoded_pair c) ≡ true
  is_secure = ap (λ o. is_set o || is_set c.partitioned || (is_unrestricted c.same_site && is_none o)) sent.secure

  module _ (seen : Seen) (reads : ReadsPlain line (Ok seen)) where
    pub read_is : seen.cookie ≡ normal (encoded_pair c)
    read_is = (reads_back c sent.readable sent.age (Ok seen) reads).normal

    read_secure : seen.cookie.secure ≡ Some true
    read_secure = ap (λ (r : Record). r.secure) read_is ∙ ap kept is_secure

    none_refuses : (rule : Refusal) → IsTrue (is_on rules rule) → ¬ (RefusesCookie rows url now seen rule)
    none_refuses Control on against = against
    none_refuses TooLong on against =
        let name : length seen.cookie.name ≡ length (escaped c.name) = ap (λ (r : Record). length r.name) read_is in
        let value : length seen.cookie.value ≡ length (escaped c.value) = ap (λ (r : Record). length r.value) read_is in
        let few = within.pair on in
        omega (arith, name, value, few, against)
    none_refuses SecurePrefix on against = against.1 (read_secure, https)
    none_refuses HostPrefix on against = against.1 (
      record {
        secure = read_secure;
        path = ap (λ (r : Record). r.path) read_is ∙ sent.path;
        domain = ap domain_of read_is ∙ ap (λ o. option_map without_dot (option_map without_dot o)) sent.domain;
      },
      https,
    )
    none_refuses SecureFromHttp on against = against.1 (inl https)
    none_refuses SecureOverlay on against = against.plain read_secure
    none_refuses LacksSecure on against = against.plain read_secure

  passes : Passes rules rows url now line
  passes = record {
    free = λ stopped. both_ways _ line_free stopped.1;
    same = handed_same;
    let_in = λ rule on against. none_refuses against.1.0 against.1.1 rule on against.1.2;
  }

pub sent_lines_pass : SentLinesPass
sent_lines_pass rules rows url now c sent https within = passes rules rows url now c sent https within

-- ---- the answer of a session

passed_line : (rules : Rules) (list : List Rule) (rows new : List Row) (url : Parts) (now : ℤ) (line : List ℕ)
    (outcome : Outcome) → Passes rules rows url now line → TakesLine rules list rows url now line outcome new
    → (end : LineEnd) × (outcome ≡ Taken end) × Accepts list rows url now line end new
passed_line rules list rows new url now line outcome p (inl (stopped, is, same)) = absurd (p.free stopped)
passed_line rules list rows new url now line outcome p
    (inr (free, (handed, is_handed, inl (rule, refused, is, same)))) =
    absurd (p.let_in rule refused.on
    (subst (λ l. Refuses rows url now l rule) (p.same handed is_handed) refused.against))
passed_line rules list rows new url now line outcome p
    (inr (free, (handed, is_handed, inr (let_in, (end, accepts, is))))) =
    (end, is, subst (λ l. Accepts list rows url now l end new) (p.same handed is_handed) accepts)

module _ (rules : Rules) (list : List Rule) (url : Parts) (now : ℤ) (https : CameByHttps url) where
  lines_taken : (cookies : List Seen) → AllByRecursion (λ s. IsSent s.cookie) cookies
      → AllByRecursion (λ s. IsWithin rules now s.cookie) cookies → (rows : List Row) (outcomes : List Outcome)
      (new : List Row) → TakesLines rules list rows url now (lines_of cookies) outcomes new
      → (ends : List LineEnd) × (outcomes ≡ map Taken ends)
      × AcceptsAll list rows url now (lines_of cookies) ends new
  lines_taken [] sent within rows outcomes new h = ([], h.0, (refl, h.1))
  lines_taken (s ∷ cookies) sent within rows [] new h = absurd h
  lines_taken (s ∷ cookies) sent within rows (outcome ∷ outcomes) new (mid, one, rest) =
      let p = passes rules rows url now s.cookie sent.0 https within.0 in
      let (end, is, accepts) = passed_line rules list rows mid url now (encoded s.cookie) outcome p one in
      let (ends, are, all) = lines_taken cookies sent.1 within.1 mid outcomes new rest in
      (end ∷ ends, (λ i. is i ∷ are i), (mid, accepts, all))

-- what holds of each cookie of a list by name holds of those that are listed
pub of_each : (P : Seen → Type 0) (cookies : List Seen) → HaveOwnNames (under_names cookies)
    → ((name : List ℕ) (s : Seen) → value_in (under_names cookies) name ≡ Some s → P s) → AllByRecursion P cookies
of_each P [] apart h = tt
of_each P (s ∷ cookies) apart h =
    let own_name : bytes_eq s.cookie.name s.cookie.name ≡ true = (bytes_eq-Decides s.cookie.name s.cookie.name).1 refl
    in
    let first : value_in (under_names (s ∷ cookies)) s.cookie.name ≡ Some s = cond-true
    (bytes_eq s.cookie.name s.cookie.name) (Some s) (value_in (under_names cookies) s.cookie.name) own_name in
    (h s.cookie.name s first, of_each P cookies apart.1 (λ name t e. h name t (later name t e)))
  where
    later : (name : List ℕ) (t : Seen) → value_in (under_names cookies) name ≡ Some t
        → value_in (under_names (s ∷ cookies)) name ≡ Some t
    later name t e = by (bytes_eq name s.cookie.name) refl
      where
        by : (b : Bool) → bytes_eq name s.cookie.name ≡ b → value_in (under_names (s ∷ cookies)) name ≡ Some t
        by true is =
            let same = (bytes_eq-Decides name s.cookie.name).0 is in
            absurd (none-some t (sym apart.0 ∙ ap (value_in (under_names cookies)) (sym same) ∙ e))
        by false is =
            cond-false (bytes_eq name s.cookie.name) (Some s) (value_in (under_names cookies) name) is ∙ e

pub sessions_are_taken : SessionsAreTaken
sessions_are_taken rules list rows url now jar lines outcomes new closed https within h =
    let each = of_each (λ s. IsWithin rules now s.cookie) closed.cookies closed.lists.apart
    (λ name s e. within name s (sym (closed.lists.each name) ∙ e)) in
    let (ends, are, all) = lines_taken rules list url now https closed.cookies closed.are_sent each rows outcomes new
    (subst (λ ls. TakesLines rules list rows url now ls outcomes new) closed.printed h) in
    (ends, are, subst (λ ls. AcceptsAll list rows url now ls ends new) (sym closed.printed) all)
