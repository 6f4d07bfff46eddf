-- Digits at the front of a token, and the names of months.
use Rattle.std.proofs.Common.{◌≡◌, ℕ, ◌+◌, ◌-◌, ◌*◌, ◌<◌, ◌≤◌, true, List, length, get_or, take, refl, sym, ap}
use Rattle.std.proofs.Common.{◌∙◌, arith}
use Rattle.std.proofs.Common.{rules, zero, suc, Bool, false, not, cond, [], ◌∷◌}
use Rattle.std.specs.Char.{is_ascii_digit, digit_value}
use Rattle.std.specs.Int.{IsInRange}
use Rattle.std.specs.List.{list_all}
use Rattle.std.specs.Str.Parse.{digits_value}
use Rattle.std.proofs.lemmas.Bool.Decides.{nat_tests}
use Rattle.std.proofs.lemmas.Int.Digits.{digits_value_more}
use Rattle.std.proofs.lemmas.Str.Parse.{IsNumeralModel, numerals_by_value, digit_at, digits_value_short}
use Rattle.std.proofs.lemmas.Str.Parse.{digits_value-take-le}
use Rattle.std.specs.List.{position_or_len}
use Rattle.std.specs.Char.{to_ascii_lowercase}
use Rattle.std.proofs.Common.{bytes_eq, map, subst}
use Rattle.httpdate.specs.Text.{month_name}
use Rattle.user_agent.specs.Dates.{BeginsWithNumber, IsTime, IsMonth, behind_digits}

-- the words for digits are std's
pub own : IsNumeralModel (λ ds. list_all is_ascii_digit ds ≡ true) (digits_value 10)
own = numerals_by_value _ (search rules)

digit_value-digit : (c : ℕ) → IsInRange 48 57 c → digit_value c ≡ c - 48
digit_value-digit c h = grind (arith, nat_tests)

-- the number of at most four digits, and of at most two
pub four_small : (ds : List ℕ) → list_all is_ascii_digit ds ≡ true → length ds ≤ 4 → digits_value 10 ds ≤ 9999
four_small ds h few = let short : digits_value 10 ds < 10000 = digits_value_short own ds 4 h few in omega arith

pub two_small : (ds : List ℕ) → list_all is_ascii_digit ds ≡ true → length ds ≤ 2 → digits_value 10 ds < 100
two_small ds h few = digits_value_short own ds 2 h few

-- the number, digit by digit
pub next_digit : (ds : List ℕ) (i : ℕ) → list_all is_ascii_digit ds ≡ true → length ds ≤ 4 → i < length ds
    → (digits_value 10 (take i ds) * 10 + (get_or ds i 0 - 48) ≡ digits_value 10 (take (i + 1) ds))
    × (digits_value 10 (take (i + 1) ds) ≤ 9999)
next_digit ds i h few within =
    let digit : IsInRange 48 57 (get_or ds i 0) = digit_at ds i (own.to ds h) within in
    let next = digits_value_more 10 ds i within in
    let most = digits_value-take-le 10 ds (i + 1) (omega arith) in
    let small = four_small ds h few in
    (sym (next ∙ ap (λ d. digits_value 10 (take i ds) * 10 + d) (digit_value-digit _ digit)), omega arith)

-- the digits at the front are digits
pub digits_in_front : (text : List ℕ)
    → list_all is_ascii_digit (take (position_or_len (λ b. not (is_ascii_digit b)) text) text) ≡ true
digits_in_front [] = refl
digits_in_front (b ∷ bs) = go (is_ascii_digit b) refl (digits_in_front bs)
  where
    n : ℕ
    n = position_or_len (λ x. not (is_ascii_digit x)) bs

    go : (d : Bool) → is_ascii_digit b ≡ d → list_all is_ascii_digit (take n bs) ≡ true
        → list_all is_ascii_digit (take (cond (not (not d)) (1 + n) 0) (b ∷ bs)) ≡ true
    go false e rest = refl
    go true e rest =
        let one : 1 + n ≡ suc n = omega arith in
        rw (one, e, rest)

-- ---- each kind says one thing of a token

pub one_number : {least most : ℕ} (token : List ℕ) (x y : ℕ) → BeginsWithNumber least most token x
    → BeginsWithNumber least most token y → x ≡ y
one_number token x y a b = sym a.value ∙ b.value

pub one_time : (token : List ℕ) (x y : ℕ × ℕ × ℕ) → IsTime token x → IsTime token y → x ≡ y
one_time token (h, m, s) (i, n, t) a b =
    let minutes : a.minutes ≡ b.minutes = tail_same (sym a.first_colon ∙ b.first_colon) in
    let hour : h ≡ i = one_number token h i a.hour b.hour in
    let minute : m ≡ n = one_number b.minutes m n (subst (λ r. BeginsWithNumber 1 2 r m) minutes a.minute) b.minute in
    let seconds : a.seconds ≡ b.seconds = tail_same
    (sym a.second_colon ∙ (ap behind_digits minutes ∙ b.second_colon)) in
    let second : s ≡ t = one_number b.seconds s t (subst (λ r. BeginsWithNumber 1 2 r s) seconds a.second) b.second in
    cc
  where
    tail_same : {x : ℕ} {xs ys : List ℕ} → x ∷ xs ≡ x ∷ ys → xs ≡ ys
    tail_same e = cc

-- the number of a month by the letters of its name
abbrev pub number_of : List ℕ → ℕ
number_of letters = position_or_len (λ name. bytes_eq name letters)
    (map (λ m. map to_ascii_lowercase (month_name (m + 1))) (0 ∷ 1 ∷ 2 ∷ 3 ∷ 4 ∷ 5 ∷ 6 ∷ 7 ∷ 8 ∷ 9 ∷ 10 ∷ 11 ∷ [])) + 1

pub of_name : (m : ℕ) → IsInRange 1 12 m → number_of (map to_ascii_lowercase (month_name m)) ≡ m
of_name zero h = absurd (omega arith)
of_name (suc zero) h = refl
of_name (suc (suc zero)) h = refl
of_name (suc (suc (suc zero))) h = refl
of_name (suc (suc (suc (suc zero)))) h = refl
of_name (suc (suc (suc (suc (suc zero))))) h = refl
of_name (suc (suc (suc (suc (suc (suc zero)))))) h = refl
of_name (suc (suc (suc (suc (suc (suc (suc zero))))))) h = refl
of_name (suc (suc (suc (suc (suc (suc (suc (suc zero)))))))) h = refl
of_name (suc (suc (suc (suc (suc (suc (suc (suc (suc zero))))))))) h = refl
of_name (suc (suc (suc (suc (suc (suc (suc (suc (suc (suc zero)))))))))) h = refl
of_name (suc (suc (suc (suc (suc (suc (suc (suc (suc (suc (suc zero))))))))))) h = refl
of_name (suc (suc (suc (suc (suc (suc (suc (suc (suc (suc (suc (suc zero)))))))))))) h = refl
of_name (suc (suc (suc (suc (suc (suc (suc (suc (suc (suc (suc (suc (suc n))))))))))))) h = absurd (omega arith)

pub one_month : (token : List ℕ) (x y : ℕ) → IsMonth token x → IsMonth token y → x ≡ y
one_month token x y a b = sym (of_name x a.0) ∙ (ap number_of (sym a.1 ∙ b.1) ∙ of_name y b.0)
