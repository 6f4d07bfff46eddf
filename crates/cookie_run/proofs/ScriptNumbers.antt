-- The numbers of a script's texts, and the cookies that its sets make.
use Rattle.std.proofs.Common.{◌≡◌, ◌≢◌, ℕ, ℤ, pos, ◌^◌, ◌<◌, ◌≤◌, Bool, true, false, List, [], ◌∷◌, length}
use Rattle.std.proofs.Common.{get_or, Option, Some, None, Result, Ok, Err, refl, sym, ap, ◌∙◌, ⊎_elim, arith, w64}
use Rattle.std.proofs.Common.{subst}
use Rattle.std.proofs.Common.{eqb-true, eq-eqb, le-leb, leb-true, lt-ltb, ltb-true}
use Rattle.std.specs.Prelude.{neg_ℤ, option_and_then, if◌then◌else◌, nat_le, nat_lt, ◌==◌}
use Rattle.std.specs.Char.{is_ascii_digit}
use Rattle.std.specs.List.{list_all}
use Rattle.std.specs.Result.{result_ok, OkIff}
use Rattle.std.specs.Str.Parse.{digits_value, ParsesSigned}
use Rattle.std.proofs.lemmas.Bool.{cases_Bool, false≢true}
use Rattle.std.proofs.lemmas.Str.Parse.{parse_signed_minus, parse_signed_plain}
use Rattle.std.specs.Prelude.{IfSome, ◌≤ℤ◌}
use Rattle.std.specs.Int.{int_min}
use Rattle.std.proofs.lemmas.Int.{ints}
use Rattle.jiff.specs.Types.{DateTime}
use Rattle.jiff.specs.Words.{civil_nanos}
use Rattle.jiff.proofs.Family.{civil_nanos-civil_seconds, civil_nanos_range, same_datetime}
use Rattle.jiff.proofs.SpanFacts.{signed_arith}
use Rattle.cookie_text.specs.declared.expiration.Expiration.{Expiration}
use Rattle.cookie_text.specs.declared.expiration.Expiration.TheVariants.{DateTime as At, Session}
use Rattle.cookie_text.specs.Record.{Seen, bare, unsliced}
use Rattle.cookie_text.specs.Setting.{IsKept, SetsExpires, latest_end, with_expires, with_max_age}
use Rattle.cookie_text.proofs.DateNumbers.{own}
use Rattle.cookie_run.specs.ScriptLine.{dated, number_of, below_zero, from_zero, seconds_of}

number_yes : (ds : List ℕ) → list_all is_ascii_digit ds ≡ true → 0 < length ds
    → number_of ds ≡ Some (digits_value 10 ds)
number_yes [] digits some = absurd (omega (arith, some))
number_yes (b ∷ bs) digits some = ap (λ t. if t then Some (digits_value 10 (b ∷ bs)) else None) digits

number_some : (ds : List ℕ) (n : ℕ) → number_of ds ≡ Some n
    → (list_all is_ascii_digit ds ≡ true) × (0 < length ds) × (n ≡ digits_value 10 ds)
number_some [] n e = absurd (none_some n e)
  where
    none_some : (n : ℕ) → None ≡ Some n → ⊥
    none_some n e = cc
number_some (b ∷ bs) n e = by_test (list_all is_ascii_digit (b ∷ bs)) refl e
  where
    by_test : (t : Bool) → list_all is_ascii_digit (b ∷ bs) ≡ t
        → (if t then Some (digits_value 10 (b ∷ bs)) else None) ≡ Some n
        → (list_all is_ascii_digit (b ∷ bs) ≡ true) × (0 < length (b ∷ bs)) × (n ≡ digits_value 10 (b ∷ bs))
    by_test true is e = (is, omega arith, cc)
    by_test false is e = absurd (none_some n e)
      where
        none_some : (n : ℕ) → None ≡ Some n → ⊥
        none_some n e = cc

-- a number that has to pass a test
module _ (ds : List ℕ) (value : ℕ → ℤ) (test : ℕ → Bool) (Fits : ℕ → Type 0)
    (yes : (n : ℕ) → Fits n → test n ≡ true) (so : (n : ℕ) → test n ≡ true → Fits n) where
  abbrev taken : ℕ → Option ℤ
  taken n = if test n then Some (value n) else None

  refused : (o : Option ℕ) → number_of ds ≡ o
      → ¬ ((list_all is_ascii_digit ds ≡ true) × (0 < length ds) × Fits (digits_value 10 ds))
      → None ≡ option_and_then taken o
  refused None e wrong = refl
  refused (Some n) e wrong =
      let is = number_some ds n e in
      ⊎_elim (λ (t : test n ≡ true). absurd (wrong (is.0, is.1, subst Fits is.2 (so n t))))
      (λ (f : test n ≡ false). sym (ap (λ t. if t then Some (value n) else None) f)) (cases_Bool (test n))

  read_as : {E : Type 0} (r : Result ℤ E)
      → OkIff r ((list_all is_ascii_digit ds ≡ true) × (0 < length ds) × Fits (digits_value 10 ds))
      (value (digits_value 10 ds))
      → result_ok r ≡ option_and_then taken (number_of ds)
  read_as (Ok z) h =
      ap Some h.1 ∙ (sym (ap (λ t. if t then Some (value (digits_value 10 ds)) else None)
      (yes (digits_value 10 ds) h.0.2)) ∙ sym (ap (option_and_then taken) (number_yes ds h.0.0 h.0.1)))
  read_as (Err e) h = refused (number_of ds) refl h

at_most : (n : ℕ) → n ≤ 2 ^ 63 → nat_le n (2 ^ 63) ≡ true
at_most n h = le-leb n (2 ^ 63) h

at_most_so : (n : ℕ) → nat_le n (2 ^ 63) ≡ true → n ≤ 2 ^ 63
at_most_so n h = leb-true n (2 ^ 63) h

less : (n : ℕ) → n < 2 ^ 63 → nat_lt n (2 ^ 63) ≡ true
less n h = lt-ltb n (2 ^ 63) h

less_so : (n : ℕ) → nat_lt n (2 ^ 63) ≡ true → n < 2 ^ 63
less_so n h = ltb-true n (2 ^ 63) h

-- what std reads of a text without a plus sign
pub seconds_are : {E : Type 0} (text : List ℕ) (r : Result ℤ E) → ParsesSigned w64 10 text r → get_or text 0 0 ≢ 43
    → result_ok r ≡ seconds_of text
seconds_are [] r parsed plain =
    read_as [] pos (λ n. nat_lt n (2 ^ 63)) (λ n. n < 2 ^ 63) less less_so r
    (parse_signed_plain own w64 [] r parsed plain (λ (e : 0 ≡ 45). omega (arith, e)))
seconds_are (b ∷ bs) r parsed plain =
    ⊎_elim
    (λ (t : (b == 45) ≡ true).
    read_as bs (λ n. neg_ℤ (pos n)) (λ n. nat_le n (2 ^ 63)) (λ n. n ≤ 2 ^ 63) at_most at_most_so r
    (parse_signed_minus own w64 (b ∷ bs) r parsed (eqb-true b 45 t)) ∙ sym (ap choice t))
    (λ (f : (b == 45) ≡ false).
    read_as (b ∷ bs) pos (λ n. nat_lt n (2 ^ 63)) (λ n. n < 2 ^ 63) less less_so r
    (parse_signed_plain own w64 (b ∷ bs) r parsed plain (λ e. false≢true (sym f ∙ eq-eqb b 45 e))) ∙ sym (ap choice f))
    (cases_Bool (b == 45))
  where
    choice : Bool → Option ℤ
    choice t =
        if t then option_and_then below_zero (number_of bs) else option_and_then from_zero (number_of (b ∷ bs))

-- ---- when a cookie ends

no_later : (d : DateTime) → d.time.subsec_nanosecond ≡ 0 → civil_nanos d ≤ℤ latest_end
no_later d whole = omega (arith, signed_arith, civil_nanos-civil_seconds d, civil_nanos_range d, whole)

least : (n : ℤ) → n ≤ℤ latest_end → int_min n latest_end ≡ n
least n h = grind (arith, ints)

kept_end : (d : DateTime) (kept : Expiration) → d.time.subsec_nanosecond ≡ 0 → IsKept (At d) kept → kept ≡ At d
kept_end d Session whole h = absurd h
kept_end d (At k) whole h = ap (λ m. At m) (same_datetime k d (h ∙ least (civil_nanos d) (no_later d whole)))

-- an expiry without a fraction is kept as it is
pub dated_is : (name value : List ℕ) (age : Option ℤ) (end : Option DateTime) (d : DateTime) (mid new : Seen)
    → mid ≡ with_max_age (unsliced (bare name value)) age → end ≡ Some d
    → IfSome end (λ date. date.time.subsec_nanosecond ≡ 0) → SetsExpires mid (At d) new
    → new ≡ unsliced (dated name value age end)
dated_is name value age end d mid new aged some whole sets =
    let kept = kept_end d sets.0 (subst (λ o. IfSome o (λ date. date.time.subsec_nanosecond ≡ 0)) some whole) sets.1 in
    sets.2 ∙ ((λ i. with_expires (aged i) (Some (kept i)))
    ∙ sym (ap (λ o. unsliced (dated name value age o)) some))
