-- The tokens of a date in a strict form, and what is found of them.
use Rattle.std.proofs.Common.{◌≡◌, ◌⊎◌, ℕ, ◌+◌, ◌/◌, ◌%◌, ◌<◌, ◌≤◌, zero, suc, true, false, not}
use Rattle.std.proofs.Common.{List, [], ◌∷◌, ◌++◌, length, take, drop, map, sym, refl, ap, ◌∙◌}
use Rattle.std.proofs.Common.{subst, inl, inr, append_assoc, arith, pos}
use Rattle.std.specs.Prelude.{codes}
use Rattle.std.specs.Char.{is_ascii_digit, to_ascii_lowercase}
use Rattle.std.specs.Int.{IsInRange}
use Rattle.std.specs.List.{AllByRecursion, list_all, list_any, position_or_len}
use Rattle.std.specs.Str.Parse.{digits_value}
use Rattle.std.proofs.Math.Seq.{drop-length, take-length}
use Rattle.std.proofs.lemmas.Bool.{and_parts, cases_lt}
use Rattle.std.proofs.lemmas.Bool.Decides.{nat_tests}
use Rattle.std.proofs.lemmas.List.Splits.{slice_split_at, slice_split_none}
use Rattle.url.proofs.HostLemmas.{none_from_list_any}
use Rattle.httpdate.specs.Text.{day_name, day_name_rest, month_name, two_digits}
use Rattle.jiff_core.proofs.CalendarLemmas.{days_in_month_bounds}
use Rattle.cookie_text.specs.Date.{IsDateText, IsForm, IsPaddedDay, IsStamp, clock, clock_text}
use Rattle.cookie_text.specs.Date.{day_month_year, full_year}
use Rattle.user_agent.specs.Dates.{BeginsWithNumber, Date, IsDay, IsFirst, IsMonth, IsTime, IsYear, Shows}
use Rattle.user_agent.specs.Dates.{behind_digits}
use Rattle.user_agent.specs.Dates.{IsMomentOf, date_tokens, digits_of, is_delimiter}
use Rattle.user_agent.specs.Fields.{date_of}
use Rattle.user_agent.specs.StrictDates.{StrictDatesShowTheSame}
use Rattle.user_agent.proofs.FindingLemmas.{IsOneKind, first_here, first_more, first_passed, here_first}
use Rattle.user_agent.proofs.TokenLemmas.{number_of, of_name, one_month, one_number, one_time}

-- ---- the first of a kind is one

module _ {A : Type 0} (Kind : List ℕ → A → Type 0) (one : IsOneKind Kind) where
  same_first : (tokens : List (List ℕ)) (x y : A) (others left : List (List ℕ)) → IsFirst Kind tokens x others
      → IsFirst Kind tokens y left → (x ≡ y) × (others ≡ left)
  same_first tokens x y others left f g =
      let r = by f.before tokens left f.cut f.none_before g in (r.0, f.left ∙ r.1)
    where
      by : (before ts ls : List (List ℕ)) → ts ≡ before ++ f.token ∷ f.after
          → AllByRecursion (λ t. (z : A) → ¬ (Kind t z)) before → IsFirst Kind ts y ls
          → (x ≡ y) × (before ++ f.after ≡ ls)
      by [] ts ls cut all h =
          let here = first_here Kind one f.token f.after ls x y f.is (subst (λ t. IsFirst Kind t y ls) cut h) in
          (sym here.0, sym here.1)
      by (b ∷ bs) ts ls cut all h =
          let later = first_passed Kind one b (bs ++ f.token ∷ f.after) ls y all.0
          (subst (λ t. IsFirst Kind t y ls) cut h) in
          let rest = by bs (bs ++ f.token ∷ f.after) later.0 refl all.1 later.2 in
          (rest.0, ap (λ t. b ∷ t) rest.1 ∙ sym later.1)

  -- there is none among tokens that aren't of the kind
  no_first : (tokens : List (List ℕ)) (x : A) (others : List (List ℕ))
      → AllByRecursion (λ t. (z : A) → ¬ (Kind t z)) tokens → ¬ (IsFirst Kind tokens x others)
  no_first [] x others all f = by f.before f.cut
    where
      by : (before : List (List ℕ)) → [] ≡ before ++ f.token ∷ f.after → ⊥
      by [] e = cc
      by (b ∷ bs) e = cc
  no_first (t ∷ ts) x others all f =
      let later = first_passed Kind one t ts others x all.0 f in no_first ts x later.0 all.1 later.2

-- ---- tokens

-- it begins with no digit, names no month, and holds no delimiter: a weekday, `GMT`, or nothing
record IsWord (token : List ℕ) : Type 0 where
  bare : digits_of token ≡ []
  other : number_of (map to_ascii_lowercase (take 3 token)) ≡ 13
  whole : list_any is_delimiter token ≡ false

-- the name of a month
record IsNamed (token : List ℕ) (month : ℕ) : Type 0 where
  bare : digits_of token ≡ []
  named : IsMonth token month
  whole : list_any is_delimiter token ≡ false

-- digits alone, some of them
record AreDigits (token : List ℕ) (number : ℕ) : Type 0 where
  all : list_all is_ascii_digit token ≡ true
  some : 0 < length token
  value : digits_value 10 token ≡ number

-- a time of the day alone
record IsClock (token : List ℕ) (time : ℕ × ℕ × ℕ) : Type 0 where
  is : IsTime token time
  whole : list_any is_delimiter token ≡ false

-- no number in front of what begins with no digit
no_number : (least most : ℕ) (token : List ℕ) → digits_of token ≡ [] → 0 < least → (n : ℕ)
    → ¬ (BeginsWithNumber least most token n)
no_number least most token bare some n h =
    let none : length (digits_of token) ≡ 0 = ap length bare in omega (arith, none, some, h.enough)

no_time : (token : List ℕ) → digits_of token ≡ [] → (t : ℕ × ℕ × ℕ) → ¬ (IsTime token t)
no_time token bare t h = no_number 1 2 token bare (omega arith) t.0 h.hour

no_day : (token : List ℕ) → digits_of token ≡ [] → (n : ℕ) → ¬ (IsDay token n)
no_day token bare n h = no_number 1 2 token bare (omega arith) n h

no_year : (token : List ℕ) → digits_of token ≡ [] → (n : ℕ) → ¬ (IsYear token n)
no_year token bare n h = no_number 2 4 token bare (omega arith) n h

no_month : (token : List ℕ) → IsWord token → (m : ℕ) → ¬ (IsMonth token m)
no_month token w m h =
    let same : m ≡ 13 = sym (of_name m h.0) ∙ (ap number_of (sym h.1) ∙ w.other) in omega (arith, same, h.0.1)

-- ---- digits

all_front : (ds : List ℕ) → list_all is_ascii_digit ds ≡ true
    → position_or_len (λ b. not (is_ascii_digit b)) ds ≡ length ds
all_front [] h = refl
all_front (b ∷ bs) h =
    let parts = and_parts (is_ascii_digit b) (list_all is_ascii_digit bs) h in
    let rest = all_front bs parts.1 in
    rw parts.0 (omega (arith, rest))

own_digits : (ds : List ℕ) → list_all is_ascii_digit ds ≡ true → digits_of ds ≡ ds
own_digits ds h = ap (λ n. take n ds) (all_front ds h) ∙ take-length ds

nothing_behind : (ds : List ℕ) → list_all is_ascii_digit ds ≡ true → behind_digits ds ≡ []
nothing_behind ds h = ap (λ d. drop (length d) ds) (own_digits ds h) ∙ drop-length ds

digits_no_time : (ds : List ℕ) → list_all is_ascii_digit ds ≡ true → (t : ℕ × ℕ × ℕ) → ¬ (IsTime ds t)
digits_no_time ds h t is = let wrong : [] ≡ 58 ∷ is.minutes = sym (nothing_behind ds h) ∙ is.first_colon in cc

no_delimiter : (b : ℕ) → is_ascii_digit b ≡ true → is_delimiter b ≡ false
unfolding is_delimiter
no_delimiter b h = grind (arith, nat_tests)

digits_whole : (ds : List ℕ) → list_all is_ascii_digit ds ≡ true → list_any is_delimiter ds ≡ false
digits_whole [] h = refl
digits_whole (b ∷ bs) h =
    let parts = and_parts (is_ascii_digit b) (list_all is_ascii_digit bs) h in
    rw (no_delimiter b parts.0) (digits_whole bs parts.1)

digits_number : (least most : ℕ) (ds : List ℕ) (n : ℕ) → AreDigits ds n → least ≤ length ds → length ds ≤ most
    → BeginsWithNumber least most ds n
digits_number least most ds n h low high =
    let own = own_digits ds h.all in record {
      enough = subst (λ d. least ≤ length d) (sym own) low;
      few = subst (λ d. length d ≤ most) (sym own) high;
      value = ap (digits_value 10) own ∙ h.value;
    }

-- a number below 100 in two digits, alone or in front of a colon
first_digit : (n : ℕ) → n < 100 → is_ascii_digit (48 + n / 10) ≡ true
first_digit n h = grind (arith, nat_tests)

second_digit : (n : ℕ) → is_ascii_digit (48 + n % 10) ≡ true
second_digit n = grind (arith, nat_tests)

two_value : (n : ℕ) → n < 100 → digits_value 10 (two_digits n) ≡ n
two_value n h = grind (arith, nat_tests)

two_all : (n : ℕ) → n < 100 → list_all is_ascii_digit (two_digits n) ≡ true
two_all n h = rw (first_digit n h, second_digit n) refl

two_are : (n : ℕ) → n < 100 → AreDigits (two_digits n) n
two_are n h = record { all = two_all n h; some = omega arith; value = two_value n h }

front_two : (n : ℕ) (rest : List ℕ) → n < 100 → digits_of (two_digits n ++ 58 ∷ rest) ≡ two_digits n
front_two n rest h = rw (first_digit n h, second_digit n) refl

behind_two : (n : ℕ) (rest : List ℕ) → n < 100 → behind_digits (two_digits n ++ 58 ∷ rest) ≡ 58 ∷ rest
behind_two n rest h = ap (λ d. drop (length d) (two_digits n ++ 58 ∷ rest)) (front_two n rest h)

number_two : (n : ℕ) (rest : List ℕ) → n < 100 → BeginsWithNumber 1 2 (two_digits n ++ 58 ∷ rest) n
number_two n rest h =
    let front = front_two n rest h in record {
      enough = subst (λ d. 1 ≤ length d) (sym front) (omega arith);
      few = subst (λ d. length d ≤ 2) (sym front) (omega arith);
      value = ap (digits_value 10) front ∙ two_value n h;
    }

colon_whole : is_delimiter 58 ≡ false
unfolding is_delimiter
colon_whole = refl

clock_whole : (h m s : ℕ) → h < 100 → m < 100 → s < 100 → list_any is_delimiter (clock_text h m s) ≡ false
clock_whole h m s hh hm hs =
    rw (
      no_delimiter (48 + h / 10) (first_digit h hh),
      no_delimiter (48 + h % 10) (second_digit h),
      no_delimiter (48 + m / 10) (first_digit m hm),
      no_delimiter (48 + m % 10) (second_digit m),
      no_delimiter (48 + s / 10) (first_digit s hs),
      no_delimiter (48 + s % 10) (second_digit s),
      colon_whole,
    ) refl

clock_is : (h m s : ℕ) → h < 100 → m < 100 → s < 100 → IsClock (clock_text h m s) (h, m, s)
clock_is h m s hh hm hs = record {
  is = record {
    minutes = two_digits m ++ 58 ∷ two_digits s;
    seconds = two_digits s;
    hour = number_two h (two_digits m ++ 58 ∷ two_digits s) hh;
    first_colon = behind_two h (two_digits m ++ 58 ∷ two_digits s) hh;
    minute = number_two m (two_digits s) hm;
    second_colon = behind_two m (two_digits s) hm;
    second = digits_number 1 2 (two_digits s) s (two_are s hs) (omega arith) (omega arith);
  };
  whole = clock_whole h m s hh hm hs;
}

-- ---- names

nothing_is : IsWord []
nothing_is = record { bare = refl; other = refl; whole = refl }

gmt_is : IsWord (codes "GMT")
unfolding is_delimiter
gmt_is = record { bare = refl; other = refl; whole = refl }

day_is : (w : ℕ) → IsInRange 1 7 w → IsWord (day_name w)
unfolding is_delimiter
day_is zero h = absurd (omega arith)
day_is (suc zero) h = record { bare = refl; other = refl; whole = refl }
day_is (suc (suc zero)) h = record { bare = refl; other = refl; whole = refl }
day_is (suc (suc (suc zero))) h = record { bare = refl; other = refl; whole = refl }
day_is (suc (suc (suc (suc zero)))) h = record { bare = refl; other = refl; whole = refl }
day_is (suc (suc (suc (suc (suc zero))))) h = record { bare = refl; other = refl; whole = refl }
day_is (suc (suc (suc (suc (suc (suc zero)))))) h = record { bare = refl; other = refl; whole = refl }
day_is (suc (suc (suc (suc (suc (suc (suc zero))))))) h = record { bare = refl; other = refl; whole = refl }
day_is (suc (suc (suc (suc (suc (suc (suc (suc n)))))))) h = absurd (omega arith)

full_day_is : (w : ℕ) → IsInRange 1 7 w → IsWord (day_name w ++ day_name_rest w)
unfolding is_delimiter
full_day_is zero h = absurd (omega arith)
full_day_is (suc zero) h = record { bare = refl; other = refl; whole = refl }
full_day_is (suc (suc zero)) h = record { bare = refl; other = refl; whole = refl }
full_day_is (suc (suc (suc zero))) h = record { bare = refl; other = refl; whole = refl }
full_day_is (suc (suc (suc (suc zero)))) h = record { bare = refl; other = refl; whole = refl }
full_day_is (suc (suc (suc (suc (suc zero))))) h = record { bare = refl; other = refl; whole = refl }
full_day_is (suc (suc (suc (suc (suc (suc zero)))))) h = record { bare = refl; other = refl; whole = refl }
full_day_is (suc (suc (suc (suc (suc (suc (suc zero))))))) h = record { bare = refl; other = refl; whole = refl }
full_day_is (suc (suc (suc (suc (suc (suc (suc (suc n)))))))) h = absurd (omega arith)

abbrev IsPlain : ℕ → Type 0
IsPlain m = (digits_of (month_name m) ≡ []) × (take 3 (month_name m) ≡ month_name m)
    × (list_any is_delimiter (month_name m) ≡ false)

plain : (m : ℕ) → IsInRange 1 12 m → IsPlain m
unfolding is_delimiter
plain zero h = absurd (omega arith)
plain (suc zero) h = (refl, refl, refl)
plain (suc (suc zero)) h = (refl, refl, refl)
plain (suc (suc (suc zero))) h = (refl, refl, refl)
plain (suc (suc (suc (suc zero)))) h = (refl, refl, refl)
plain (suc (suc (suc (suc (suc zero))))) h = (refl, refl, refl)
plain (suc (suc (suc (suc (suc (suc zero)))))) h = (refl, refl, refl)
plain (suc (suc (suc (suc (suc (suc (suc zero))))))) h = (refl, refl, refl)
plain (suc (suc (suc (suc (suc (suc (suc (suc zero)))))))) h = (refl, refl, refl)
plain (suc (suc (suc (suc (suc (suc (suc (suc (suc zero))))))))) h = (refl, refl, refl)
plain (suc (suc (suc (suc (suc (suc (suc (suc (suc (suc zero)))))))))) h = (refl, refl, refl)
plain (suc (suc (suc (suc (suc (suc (suc (suc (suc (suc (suc zero))))))))))) h = (refl, refl, refl)
plain (suc (suc (suc (suc (suc (suc (suc (suc (suc (suc (suc (suc zero)))))))))))) h = (refl, refl, refl)
plain (suc (suc (suc (suc (suc (suc (suc (suc (suc (suc (suc (suc (suc n))))))))))))) h = absurd (omega arith)

month_is : (m : ℕ) → IsInRange 1 12 m → IsNamed (month_name m) m
month_is m h =
    let p = plain m h in
    record { bare = p.0; named = (h, ap (map to_ascii_lowercase) p.1); whole = p.2 }

-- ---- what is found of such tokens

-- time, day and month are found, and the digits of the year are left beside tokens that begin with none
record Leaves (tokens : List (List ℕ)) (time : ℕ × ℕ × ℕ) (day month written : ℕ) (year : List ℕ) : Type 0 where
  timeless : List (List ℕ)
  dayless : List (List ℕ)
  monthless : List (List ℕ)
  yearless : List (List ℕ)
  of_time : IsFirst IsTime tokens time timeless
  of_day : IsFirst IsDay timeless day dayless
  of_month : IsFirst IsMonth dayless month monthless
  of_year : 2 ≤ length year → IsFirst IsYear monthless written yearless
  no_year_there : length year < 2 → AllByRecursion (λ t. (z : ℕ) → ¬ (IsYear t z)) monthless

module _ (w d m t y : List ℕ) (time : ℕ × ℕ × ℕ) (day month written : ℕ) (word : IsWord w) (days : AreDigits d day)
    (short : length d ≤ 2) (named : IsNamed m month) (clocked : IsClock t time) (years : AreDigits y written)
    (few : length y ≤ 4) where
  year_number : 2 ≤ length y → IsYear y written
  year_number low = digits_number 2 4 y written years low few

  no_short_year : length y < 2 → (z : ℕ) → ¬ (IsYear y z)
  no_short_year low z h =
      let own : length (digits_of y) ≡ length y = ap length (own_digits y years.all) in
      omega (arith, own, low, h.enough)

  day_number : IsDay d day
  day_number = digits_number 1 2 d day days (omega (arith, days.some)) short

  -- `Sun`, nothing, `06`, `Nov`, `1994`, `08:49:37`, `GMT`
  leaves_dated : Leaves (w ∷ [] ∷ d ∷ m ∷ y ∷ t ∷ codes "GMT" ∷ []) time day month written y
  leaves_dated = record {
    timeless = w ∷ [] ∷ d ∷ m ∷ y ∷ codes "GMT" ∷ [];
    dayless = w ∷ [] ∷ m ∷ y ∷ codes "GMT" ∷ [];
    monthless = w ∷ [] ∷ y ∷ codes "GMT" ∷ [];
    yearless = w ∷ [] ∷ codes "GMT" ∷ [];
    of_time = first_more IsTime one_time w _ _ time (no_time w word.bare)
        (first_more IsTime one_time [] _ _ time (no_time [] refl)
        (first_more IsTime one_time d _ _ time (digits_no_time d days.all)
        (first_more IsTime one_time m _ _ time (no_time m named.bare)
        (first_more IsTime one_time y _ _ time (digits_no_time y years.all)
        (here_first IsTime one_time t (codes "GMT" ∷ []) time clocked.is)))));
    of_day = first_more IsDay one_number w _ _ day (no_day w word.bare)
        (first_more IsDay one_number [] _ _ day (no_day [] refl)
        (here_first IsDay one_number d (m ∷ y ∷ codes "GMT" ∷ []) day day_number));
    of_month = first_more IsMonth one_month w _ _ month (no_month w word)
        (first_more IsMonth one_month [] _ _ month (no_month [] nothing_is)
        (here_first IsMonth one_month m (y ∷ codes "GMT" ∷ []) month named.named));
    of_year = λ low. first_more IsYear one_number w _ _ written (no_year w word.bare)
        (first_more IsYear one_number [] _ _ written (no_year [] refl)
        (here_first IsYear one_number y (codes "GMT" ∷ []) written (year_number low)));
    no_year_there = λ low.
        (no_year w word.bare, (no_year [] refl, (no_short_year low, (no_year (codes "GMT") refl, tt))));
  }

  -- `Sun`, `Nov`, `06`, `08:49:37`, `1994`
  leaves_last : Leaves (w ∷ m ∷ d ∷ t ∷ y ∷ []) time day month written y
  leaves_last = record {
    timeless = w ∷ m ∷ d ∷ y ∷ [];
    dayless = w ∷ m ∷ y ∷ [];
    monthless = w ∷ y ∷ [];
    yearless = w ∷ [];
    of_time = first_more IsTime one_time w _ _ time (no_time w word.bare)
        (first_more IsTime one_time m _ _ time (no_time m named.bare)
        (first_more IsTime one_time d _ _ time (digits_no_time d days.all)
        (here_first IsTime one_time t (y ∷ []) time clocked.is)));
    of_day = first_more IsDay one_number w _ _ day (no_day w word.bare)
        (first_more IsDay one_number m _ _ day (no_day m named.bare)
        (here_first IsDay one_number d (y ∷ []) day day_number));
    of_month = first_more IsMonth one_month w _ _ month (no_month w word)
        (here_first IsMonth one_month m (y ∷ []) month named.named);
    of_year = λ low. first_more IsYear one_number w _ _ written (no_year w word.bare)
        (here_first IsYear one_number y [] written (year_number low));
    no_year_there = λ low. (no_year w word.bare, (no_short_year low, tt));
  }

  -- `Sun`, `Nov`, nothing, `6`, `08:49:37`, `1994`
  leaves_padded : Leaves (w ∷ m ∷ [] ∷ d ∷ t ∷ y ∷ []) time day month written y
  leaves_padded = record {
    timeless = w ∷ m ∷ [] ∷ d ∷ y ∷ [];
    dayless = w ∷ m ∷ [] ∷ y ∷ [];
    monthless = w ∷ [] ∷ y ∷ [];
    yearless = w ∷ [] ∷ [];
    of_time = first_more IsTime one_time w _ _ time (no_time w word.bare)
        (first_more IsTime one_time m _ _ time (no_time m named.bare)
        (first_more IsTime one_time [] _ _ time (no_time [] refl)
        (first_more IsTime one_time d _ _ time (digits_no_time d days.all)
        (here_first IsTime one_time t (y ∷ []) time clocked.is))));
    of_day = first_more IsDay one_number w _ _ day (no_day w word.bare)
        (first_more IsDay one_number m _ _ day (no_day m named.bare)
        (first_more IsDay one_number [] _ _ day (no_day [] refl)
        (here_first IsDay one_number d (y ∷ []) day day_number)));
    of_month = first_more IsMonth one_month w _ _ month (no_month w word)
        (here_first IsMonth one_month m ([] ∷ y ∷ []) month named.named);
    of_year = λ low. first_more IsYear one_number w _ _ written (no_year w word.bare)
        (first_more IsYear one_number [] _ _ written (no_year [] refl)
        (here_first IsYear one_number y [] written (year_number low)));
    no_year_there = λ low. (no_year w word.bare, (no_year [] refl, (no_short_year low, tt)));
  }

-- ---- texts cut at delimiters

is_space : is_delimiter 32 ≡ true
unfolding is_delimiter
is_space = refl

is_dash : is_delimiter 45 ≡ true
unfolding is_delimiter
is_dash = refl

is_comma : is_delimiter 44 ≡ true
unfolding is_delimiter
is_comma = refl

cut_at : (xs : List ℕ) (y : ℕ) (ys : List ℕ) (parts : List (List ℕ)) → list_any is_delimiter xs ≡ false
    → is_delimiter y ≡ true → date_tokens ys ≡ parts → date_tokens (xs ++ y ∷ ys) ≡ xs ∷ parts
cut_at xs y ys parts whole hit rest =
    slice_split_at is_delimiter xs y ys (none_from_list_any is_delimiter xs whole) hit ∙ ap (λ p. xs ∷ p) rest

cut_end : (xs : List ℕ) → list_any is_delimiter xs ≡ false → date_tokens xs ≡ xs ∷ []
cut_end xs whole = slice_split_none is_delimiter xs (none_from_list_any is_delimiter xs whole)

eight : (a b c d e f g h : List ℕ) → a ++ b ++ c ++ d ++ e ++ f ++ g ++ h ≡ a
    ++ (b ++ (c ++ (d ++ (e ++ (f ++ (g ++ h))))))
eight a b c d e f g h = simp append_assoc

nine : (a b c d e f g h j : List ℕ) → a ++ b ++ c ++ d ++ e ++ f ++ g ++ h ++ j ≡ a
    ++ (b ++ (c ++ (d ++ (e ++ (f ++ (g ++ (h ++ j)))))))
nine a b c d e f g h j = simp append_assoc

module _ (w : List ℕ) (s : _) (year : List ℕ) (word : IsWord w) (stamp : IsStamp s)
    (years : AreDigits year (digits_value 10 year)) (few : length year ≤ 4) where
  day_below : s.day < 100
  day_below =
      let most = (days_in_month_bounds (pos s.year) s.month).0 in
      let within = stamp.civil.2.1 in omega (arith, most, within)

  days : AreDigits (two_digits s.day) s.day
  days = two_are s.day day_below

  named : IsNamed (month_name s.month) s.month
  named = month_is s.month stamp.civil.1

  clocked : IsClock (clock s) (s.hour, s.minute, s.second)
  clocked =
      clock_is s.hour s.minute s.second (omega (arith, stamp.hour)) (omega (arith, stamp.minute))
      (omega (arith, stamp.second))

  gmt_end : date_tokens (codes "GMT") ≡ codes "GMT" ∷ []
  gmt_end = cut_end (codes "GMT") gmt_is.whole

  -- `Sun, 06 Nov 1994 08:49:37 GMT`, or with dashes
  dated_tokens : (dash : ℕ) → is_delimiter dash ≡ true
      → date_tokens (w ++ 44 ∷ 32 ∷ (two_digits s.day ++ dash ∷ (month_name s.month ++ dash ∷ (year
      ++ 32 ∷ (clock s ++ 32 ∷ codes "GMT")))))
      ≡ w ∷ [] ∷ two_digits s.day ∷ month_name s.month ∷ year ∷ clock s ∷ codes "GMT" ∷ []
  dated_tokens dash hit =
      let last : List ℕ = clock s ++ 32 ∷ codes "GMT" in
      let years_on : List ℕ = year ++ 32 ∷ last in
      let months_on : List ℕ = month_name s.month ++ dash ∷ years_on in
      cut_at w 44 (32 ∷ (two_digits s.day ++ dash ∷ months_on)) _ word.whole is_comma
      (cut_at [] 32 (two_digits s.day ++ dash ∷ months_on) _ refl is_space
      (cut_at (two_digits s.day) dash months_on _ (digits_whole (two_digits s.day) days.all) hit
      (cut_at (month_name s.month) dash years_on _ named.whole hit
      (cut_at year 32 last _ (digits_whole year years.all) is_space
      (cut_at (clock s) 32 (codes "GMT") _ clocked.whole is_space gmt_end)))))

  abbrev Found : List ℕ → Type 0
  Found text = Leaves (date_tokens text) (s.hour, s.minute, s.second) s.day s.month (digits_value 10 year) year

  of_tokens : (text : List ℕ) (tokens : List (List ℕ)) → date_tokens text ≡ tokens
      → Leaves tokens (s.hour, s.minute, s.second) s.day s.month (digits_value 10 year) year → Found text
  of_tokens text tokens e h =
      subst (λ ts. Leaves ts (s.hour, s.minute, s.second) s.day s.month (digits_value 10 year) year) (sym e) h

  found_dated : (dash : ℕ) → is_delimiter dash ≡ true
      → Found (w ++ codes ", " ++ day_month_year (dash ∷ []) s year)
  found_dated dash hit =
      of_tokens _ _ (ap date_tokens grouped ∙ dated_tokens dash hit)
      (leaves_dated w (two_digits s.day) (month_name s.month) (clock s) year (s.hour, s.minute, s.second) s.day s.month
      (digits_value 10 year) word days (omega arith) named clocked years few)
    where
      grouped : w ++ codes ", " ++ day_month_year (dash ∷ []) s year
          ≡ w ++ 44 ∷ 32 ∷ (two_digits s.day ++ dash ∷ (month_name s.month ++ dash ∷ (year
          ++ 32 ∷ (clock s ++ 32 ∷ codes "GMT"))))
      grouped =
          append_assoc w (codes ", ") (day_month_year (dash ∷ []) s year)
          ∙ ap (λ r. w ++ 44 ∷ 32 ∷ r)
          (eight (two_digits s.day) (dash ∷ []) (month_name s.month) (dash ∷ []) year (codes " ") (clock s)
          (codes " GMT"))

  -- `Sun Nov 06 08:49:37 1994`
  last_tokens : date_tokens (w ++ 32 ∷ (month_name s.month ++ 32 ∷ (two_digits s.day ++ 32 ∷ (clock s ++ 32 ∷ year))))
      ≡ w ∷ month_name s.month ∷ two_digits s.day ∷ clock s ∷ year ∷ []
  last_tokens =
      let last : List ℕ = clock s ++ 32 ∷ year in
      let days_on : List ℕ = two_digits s.day ++ 32 ∷ last in
      cut_at w 32 (month_name s.month ++ 32 ∷ days_on) _ word.whole is_space
      (cut_at (month_name s.month) 32 days_on _ named.whole is_space
      (cut_at (two_digits s.day) 32 last _ (digits_whole (two_digits s.day) days.all) is_space
      (cut_at (clock s) 32 year _ clocked.whole is_space (cut_end year (digits_whole year years.all)))))

  -- `Sun Nov  6 08:49:37 1994`
  padded_tokens : (one : List ℕ) → list_any is_delimiter one ≡ false
      → date_tokens (w ++ 32 ∷ (month_name s.month ++ 32 ∷ ((32 ∷ one) ++ 32 ∷ (clock s ++ 32 ∷ year))))
      ≡ w ∷ month_name s.month ∷ [] ∷ one ∷ clock s ∷ year ∷ []
  padded_tokens one whole =
      let last : List ℕ = clock s ++ 32 ∷ year in
      let days_on : List ℕ = one ++ 32 ∷ last in
      cut_at w 32 (month_name s.month ++ 32 ∷ 32 ∷ days_on) _ word.whole is_space
      (cut_at (month_name s.month) 32 (32 ∷ days_on) _ named.whole is_space
      (cut_at [] 32 days_on _ refl is_space
      (cut_at one 32 last _ whole is_space
      (cut_at (clock s) 32 year _ clocked.whole is_space (cut_end year (digits_whole year years.all))))))

  one_digit : (n : ℕ) → n < 10 → AreDigits ((48 + n) ∷ []) n
  one_digit n h = record { all = grind (arith, nat_tests); some = omega arith; value = grind (arith, nat_tests) }

  found_last : (day : List ℕ) → IsPaddedDay day s.day
      → Found (w ++ codes " " ++ month_name s.month ++ codes " " ++ day ++ codes " " ++ clock s ++ codes " " ++ year)
  found_last day padded =
      subst Found
      (sym (nine w (codes " ") (month_name s.month) (codes " ") day (codes " ") (clock s) (codes " ") year))
      (by padded)
    where
      Grouped : List ℕ → Type 0
      Grouped d = Found (w ++ 32 ∷ (month_name s.month ++ 32 ∷ (d ++ 32 ∷ (clock s ++ 32 ∷ year))))

      by : IsPaddedDay day s.day → Grouped day
      by (inl two) =
          subst Grouped (sym two)
          (of_tokens _ _ last_tokens
          (leaves_last w (two_digits s.day) (month_name s.month) (clock s) year (s.hour, s.minute, s.second) s.day
          s.month (digits_value 10 year) word days (omega arith) named clocked years few))
      by (inr (padded_one, below)) =
          let one = one_digit s.day below in
          subst Grouped (sym padded_one)
          (of_tokens _ _ (padded_tokens ((48 + s.day) ∷ []) (digits_whole ((48 + s.day) ∷ []) one.all))
          (leaves_padded w ((48 + s.day) ∷ []) (month_name s.month) (clock s) year (s.hour, s.minute, s.second) s.day
          s.month (digits_value 10 year) word one (omega arith) named clocked years few))

-- ---- the law

strict_found : (text : List ℕ) (s : _) (strict : IsDateText text s)
    → Leaves (date_tokens text) (s.hour, s.minute, s.second) s.day s.month (digits_value 10 strict.year) strict.year
strict_found text s strict = by strict.form
  where
    years : AreDigits strict.year (digits_value 10 strict.year)
    years = record { all = strict.dated.digits.digits; some = strict.dated.digits.some; value = refl }

    few : length strict.year ≤ 4
    few = strict.dated.digits.few

    word : IsWord (day_name strict.weekday)
    word = day_is strict.weekday strict.named

    Found : List ℕ → Type 0
    Found x =
        Leaves (date_tokens x) (s.hour, s.minute, s.second) s.day s.month (digits_value 10 strict.year) strict.year

    by : IsForm text strict.weekday s strict.day strict.year → Found text
    by (inl e) =
        subst Found (sym e)
        (found_dated (day_name strict.weekday) s strict.year word strict.exists years few 32 is_space)
    by (inr (inl e)) =
        subst Found (sym e)
        (found_dated (day_name strict.weekday) s strict.year word strict.exists years few 45 is_dash)
    by (inr (inr (inl e))) =
        subst Found (sym e.0)
        (found_dated (day_name strict.weekday ++ day_name_rest strict.weekday) s strict.year
        (full_day_is strict.weekday strict.named) strict.exists years few 45 is_dash)
    by (inr (inr (inr e))) =
        subst Found (sym e)
        (found_last (day_name strict.weekday) s strict.year word strict.exists years few strict.day strict.padded)

-- what is found is one: the time, the day, the month, and what is left
module _ (text : List ℕ) (time : ℕ × ℕ × ℕ) (day month written : ℕ) (year : List ℕ)
    (f : Leaves (date_tokens text) time day month written year) (d : Date) (shown : Shows text d) where
  same_time : ((d.hour, d.minute, d.second) ≡ time) × (shown.timeless ≡ f.timeless)
  same_time =
      same_first IsTime one_time (date_tokens text) (d.hour, d.minute, d.second) time shown.timeless f.timeless
      shown.time f.of_time

  same_day : (d.day ≡ day) × (shown.dayless ≡ f.dayless)
  same_day =
      same_first IsDay one_number f.timeless d.day day shown.dayless f.dayless
      (subst (λ ts. IsFirst IsDay ts d.day shown.dayless) same_time.1 shown.day) f.of_day

  same_month : (d.month ≡ month) × (shown.monthless ≡ f.monthless)
  same_month =
      same_first IsMonth one_month f.dayless d.month month shown.monthless f.monthless
      (subst (λ ts. IsFirst IsMonth ts d.month shown.monthless) same_day.1 shown.month) f.of_month

  year_left : IsFirst IsYear f.monthless shown.written shown.yearless
  year_left = subst (λ ts. IsFirst IsYear ts shown.written shown.yearless) same_month.1 shown.year

  same_year : 2 ≤ length year → shown.written ≡ written
  same_year low =
      (same_first IsYear one_number f.monthless shown.written written shown.yearless f.yearless year_left
      (f.of_year low)).0

  no_short : length year < 2 → ⊥
  no_short low = no_first IsYear one_number f.monthless shown.written shown.yearless (f.no_year_there low) year_left

pub strict_dates_show_the_same : StrictDatesShowTheSame
strict_dates_show_the_same text s strict m is =
    let f = strict_found text s strict in record {
      same = λ low late. (
        date_of s.year s.month s.day (s.hour, s.minute, s.second),
        shows f low late,
        record {
          year = is.year;
          month = is.month;
          day = is.day;
          hour = is.hour;
          minute = is.minute;
          second = is.second;
          whole = is.whole;
        },
      );
      alone = λ d shown. alone f d shown;
      none = λ short d shown. refuted f short d shown;
    }
  where
    Found : Type 0
    Found =
        Leaves (date_tokens text) (s.hour, s.minute, s.second) s.day s.month (digits_value 10 strict.year) strict.year

    shows : Found → 2 ≤ length strict.year → 1601 ≤ s.year
        → Shows text (date_of s.year s.month s.day (s.hour, s.minute, s.second))
    shows f low late = record {
      timeless = f.timeless;
      dayless = f.dayless;
      monthless = f.monthless;
      yearless = f.yearless;
      written = digits_value 10 strict.year;
      time = f.of_time;
      day = f.of_day;
      month = f.of_month;
      year = f.of_year low;
      full = strict.dated.value;
      late = late;
      exists = record {
        civil = strict.exists.civil;
        hour = strict.exists.hour;
        minute = strict.exists.minute;
        second = strict.exists.second;
      };
    }

    year_is : Found → (d : Date) → Shows text d → d.year ≡ s.year
    year_is f d shown = by (cases_lt (length strict.year) 2)
      where
        by : (length strict.year < 2) ⊎ (2 ≤ length strict.year) → d.year ≡ s.year
        by (inl short) = absurd (no_short text _ _ _ _ _ f d shown short)
        by (inr low) =
            sym shown.full ∙ (ap full_year (same_year text _ _ _ _ _ f d shown low)
            ∙ strict.dated.value)

    alone : Found → (d : Date) → Shows text d → IsMomentOf d m
    alone f d shown =
        let time = (same_time text _ _ _ _ _ f d shown).0 in
        let day = (same_day text _ _ _ _ _ f d shown).0 in
        let month = (same_month text _ _ _ _ _ f d shown).0 in
        record {
          year = is.year ∙ ap pos (sym (year_is f d shown));
          month = is.month ∙ sym month;
          day = is.day ∙ sym day;
          hour = is.hour ∙ sym (ap (λ (t : ℕ × ℕ × ℕ). t.0) time);
          minute = is.minute ∙ sym (ap (λ (t : ℕ × ℕ × ℕ). t.1) time);
          second = is.second ∙ sym (ap (λ (t : ℕ × ℕ × ℕ). t.2) time);
          whole = is.whole;
        }

    refuted : Found → (length strict.year < 2) ⊎ (s.year < 1601) → (d : Date) → ¬ (Shows text d)
    refuted f (inl short) d shown = no_short text _ _ _ _ _ f d shown short
    refuted f (inr early) d shown =
        let year = year_is f d shown in let late = shown.late in omega (arith, year, late, early)
