-- The expiry of a line.
use Rattle.std.proofs.Common.{◌≡◌, ◌≢◌, ◌<◌, ◌≤◌, ◌^◌, min, ℕ, Bool, true, false, cond, List, [], ◌∷◌, ◌++◌, All}
use Rattle.std.proofs.Common.{length, get_or, Option, Some, None, MatchOption, Result, Ok, Err, refl, sym, ap, subst}
use Rattle.std.proofs.Common.{◌∙◌, MatchResult, arith, rules}
use Rattle.std.specs.Borrow.{Bor}
use Rattle.std.specs.Prelude.{◌==◌, ◌&&◌, not}
use Rattle.std.specs.Char.{is_ascii_digit}
use Rattle.std.specs.List.{AllByRecursion, slice_split, onto_first, list_all}
use Rattle.std.specs.Result.{OkIff}
use Rattle.std.specs.Str.Parse.{digits_value}
use Rattle.std.proofs.lemmas.Bool.Decides.{nat_tests}
use Rattle.std.proofs.lemmas.List.{get_or_default}
use Rattle.std.proofs.lemmas.List.Elements.{All-from_recursion}
use Rattle.std.proofs.lemmas.List.Splits.{slice_split_at, slice_split_none}
use Rattle.std.proofs.lemmas.Result.{OkIff-at_err}
use Rattle.std.proofs.lemmas.Str.Parse.{IsNumeralModel, numerals_by_value}
use Rattle.store_parts.specs.DomainMatch.{dot}
use Rattle.cookies_txt.specs.Reading.{are_decimal, dotted_parts, is_decimal, is_expiry, is_number, second_of}
use Rattle.cookies_txt.specs.Reading.{whole_in, whole_second_of}
use Rattle.cookies_txt.specs.Writing.{latest_second}
use Rattle.cookies_txt.specs.declared.error.LineFault.{LineFault}
use Rattle.cookies_txt.specs.declared.error.LineFault.TheVariants.{Number}
use Rattle.cookies_txt.proofs.FieldLemmas.{HasFirst, first_part}

-- ---- digits

-- the words for digits are std's
pub own : IsNumeralModel (λ ds. list_all is_ascii_digit ds ≡ true) (digits_value 10)
own = numerals_by_value _ (search rules)

-- digits that are no number of 64 bits are of the latest second
pub largest_second : {E : Type 0} (text : List ℕ) (r : Result ℕ E) (e : E)
    → 0 < length text → OkIff r ((0 < length text) × (digits_value 10 text < 2 ^ 64)) (digits_value 10 text)
    → r ≡ Err e → latest_second ≡ min (digits_value 10 text) latest_second
largest_second text r e some parsed failed =
    let large : 2 ^ 64 ≤ digits_value 10 text = omega (
      arith,
      λ (h : digits_value 10 text < 2 ^ 64). OkIff-at_err r _ _ e parsed failed (some, h),
    ) in
    omega arith

-- what the test of digits means
pub digits_in : (text : List ℕ) → is_number text ≡ true
    → (0 < length text) × (list_all is_ascii_digit text ≡ true)
digits_in [] h = cc
digits_in (b ∷ bs) h =
    let some : (length (b ∷ bs) == 0) ≡ false = grind (arith, nat_tests) in
    (omega arith, sym (ap (λ e. not e && list_all is_ascii_digit (b ∷ bs)) some) ∙ h)

-- ---- what dots part

abbrev pub is_dot : ℕ → Bool
is_dot b = b == dot

no_dot : (b : ℕ) → b ≢ 46 → is_dot b ≡ false
no_dot b other = grind (arith, nat_tests)

both_true : (x y : Bool) → (x && y) ≡ true → (x ≡ true) × (y ≡ true)
both_true true y h = (refl, h)
both_true false y h = cc

digits_lack_dot : (text : List ℕ) → list_all is_ascii_digit text ≡ true
    → AllByRecursion (λ b. is_dot b ≡ false) text
digits_lack_dot [] h = tt
digits_lack_dot (b ∷ bs) h =
    let here = both_true (is_ascii_digit b) (list_all is_ascii_digit bs) h in
    (none b here.0, digits_lack_dot bs here.1)
  where
    none : (b : ℕ) → is_ascii_digit b ≡ true → is_dot b ≡ false
    none b h = grind (arith, nat_tests)

-- digits are one part
pub number_parts : (text : List ℕ) → list_all is_ascii_digit text ≡ true → dotted_parts text ≡ text ∷ []
unfolding dotted_parts
number_parts text h = slice_split_none is_dot text (All-from_recursion _ text (digits_lack_dot text h))

lacks_dot : (xs : List ℕ) → ((i : ℕ) → i < length xs → get_or xs i 0 ≢ 46) → All (λ b. is_dot b ≡ false) xs
lacks_dot xs lacks = λ k d inside.
    no_dot _ (subst (λ b. b ≢ 46) (get_or_default xs k 0 d inside) (lacks k inside))

-- a text that is cut at its first dot
pub cut_dotted : (text : List ℕ) (r : Option (Bor (List ℕ) × Bor (List ℕ)))
    → MatchOption r ((i : ℕ) → i < length text → get_or text i 0 ≢ 46)
    (λ x. (text ≡ x.0.now ++ (46 ∷ x.1.now)) × ((i : ℕ) → i < length x.0.now → get_or x.0.now i 0 ≢ 46))
    → MatchOption r (dotted_parts text ≡ text ∷ [])
    (λ cut. dotted_parts text ≡ cut.0.now ∷ dotted_parts cut.1.now)
unfolding dotted_parts
cut_dotted text None lacks = slice_split_none is_dot text (lacks_dot text lacks)
cut_dotted text (Some (x, y)) (e, lacks) =
    ap (slice_split is_dot) e ∙ slice_split_at is_dot x.now 46 y.now (lacks_dot x.now lacks) refl

-- one part is the text
single_part : (p : ℕ → Bool) (text part : List ℕ) → slice_split p text ≡ part ∷ [] → part ≡ text
single_part p [] part e = cc
single_part p (x ∷ xs) part e = by (p x) (slice_split p xs) (first_part p xs) (single_part p xs) e
  where
    by : (b : Bool) (ps : List (List ℕ)) → HasFirst ps → ((q : List ℕ) → ps ≡ q ∷ [] → q ≡ xs)
        → cond b ([] ∷ ps) (onto_first x ps) ≡ part ∷ [] → part ≡ x ∷ xs
    by true ps (q, more, is) one e = cc
    by false [] (q, more, is) one e = cc
    by false (q ∷ []) some one e =
        let same : q ≡ xs = one q refl in
        cc
    by false (q ∷ r ∷ more) some one e = cc

-- a number and a second part
pub two_parts : (whole fraction : List ℕ)
    → are_decimal (whole ∷ dotted_parts fraction) ≡ (is_number whole && is_number fraction)
unfolding dotted_parts
two_parts whole fraction =
    by (is_number fraction) refl (slice_split is_dot fraction) refl (first_part is_dot fraction)
  where
    and_false : (b : Bool) → false ≡ (b && false)
    and_false true = refl
    and_false false = refl

    by : (b : Bool) → is_number fraction ≡ b → (ps : List (List ℕ)) → slice_split is_dot fraction ≡ ps → HasFirst ps
        → are_decimal (whole ∷ ps) ≡ (is_number whole && is_number fraction)
    by b is [] e (q, more, none) = cc
    by b is (q ∷ []) e some =
        ap (λ t. is_number whole && is_number t) (single_part is_dot fraction q e)
    by true is (q ∷ r ∷ more) e some =
        let one : slice_split is_dot fraction ≡ fraction ∷ [] = number_parts fraction (digits_in fraction is).1 in
        cc
    by false is (q ∷ r ∷ more) e some = rw is (and_false (is_number whole))

pub decimal_cut : (text whole fraction : List ℕ) → dotted_parts text ≡ whole ∷ dotted_parts fraction
    → is_decimal text ≡ (is_number whole && is_number fraction)
decimal_cut text whole fraction e = ap are_decimal e ∙ two_parts whole fraction

pub decimal_whole : (text whole fraction : List ℕ) → dotted_parts text ≡ whole ∷ dotted_parts fraction
    → (is_number whole && is_number fraction) ≡ true
    → (is_decimal text ≡ true) × (whole ≡ whole_in (dotted_parts text)) × (is_number whole ≡ true)
decimal_whole text whole fraction e are = (
  decimal_cut text whole fraction e ∙ are,
  sym (ap whole_in e),
  (both_true (is_number whole) (is_number fraction) are).0,
)

-- ---- an expiry

-- one that begins with no minus
pub no_minus : (text : List ℕ) → 0 < length text → ((rest : List ℕ) → text ≢ 45 ∷ rest)
    → (is_expiry text ≡ is_decimal text) × (second_of text ≡ whole_second_of text)
no_minus [] some none = absurd (omega arith)
no_minus (b ∷ bs) some none =
    let other : b ≢ 45 = λ e. none bs (ap (λ c. c ∷ bs) e) in
    let apart : (b == 45) ≡ false = grind (arith, nat_tests) in
    (rw apart refl, rw apart refl)

-- what is read of one that begins with no minus
pub unsigned_second : (text : List ℕ) (r : Result ℕ LineFault) (stripped : Option (Bor (List ℕ)))
    → (length text == 0) ≡ false → stripped ≡ None
    → MatchOption stripped ((rest : List ℕ) → text ≢ 45 ∷ rest) (λ x. text ≡ 45 ∷ x.now)
    → MatchResult r (λ second. (is_decimal text ≡ true) × (second ≡ whole_second_of text))
    (λ fault. (is_decimal text ≡ false) × (fault ≡ Number))
    → MatchResult r (λ second. (is_expiry text ≡ true) × (second ≡ second_of text))
    (λ fault. (is_expiry text ≡ false) × (fault ≡ Number))
unsigned_second text r stripped some none cases read =
    let long : 0 < length text = grind (arith, nat_tests, some) in
    let unsigned = no_minus text long
    (subst (λ s. MatchOption s ((rest : List ℕ) → text ≢ 45 ∷ rest) (λ x. text ≡ 45 ∷ x.now)) none cases) in
    by r read unsigned
  where
    by : (r : Result ℕ LineFault) → MatchResult r
        (λ second. (is_decimal text ≡ true) × (second ≡ whole_second_of text))
        (λ fault. (is_decimal text ≡ false) × (fault ≡ Number))
        → (is_expiry text ≡ is_decimal text) × (second_of text ≡ whole_second_of text)
        → MatchResult r (λ second. (is_expiry text ≡ true) × (second ≡ second_of text))
        (λ fault. (is_expiry text ≡ false) × (fault ≡ Number))
    by (Ok second) read unsigned = (unsigned.0 ∙ read.0, read.1 ∙ sym unsigned.1)
    by (Err fault) read unsigned = (unsigned.0 ∙ read.0, read.1)
