-- Rows that are asked for.
use Rattle.std.proofs.Common.{◌≡◌, ◌<◌, ◌∙◌, ◌++◌, ◌∷◌, ℕ, zero, suc, Bool, true, false, List, [], length, take, get_or}
use Rattle.std.proofs.Common.{Option, Some, None, Result, Ok, Err, ap, arith, inr, refl, subst, sym}
use Rattle.std.specs.Prelude.{IfOk, IsSomeAnd, cond, option_map}
use Rattle.std.specs.Borrow.{Bor}
use Rattle.std.specs.List.{find}
use Rattle.std.specs.Option.{option_or}
use Rattle.store_parts.specs.DomainMatch.{DomainMatches}
use Rattle.cookie_store.specs.Given.{ArePicked, lent_row}
use Rattle.cookie_store.specs.Rows.{Key, Row, domain_text, found, key, key_of, removed}
use Rattle.cookie_store.specs.declared.stored_cookie.Cookie.{Cookie}
use Rattle.cookie_jar.specs.Asking.{AreUnder, domain_form, first_value, has_name, is_printed_so, meant, without}
use Rattle.cookie_jar.specs.Rows.{lent_rows}

-- ---- the rows of a domain

abbrev IsOf : Option (List ℕ) → Row → Type 0
IsOf form row = IsSomeAnd form (DomainMatches (domain_text row))

-- those that match the form
under_form : (domain form : List ℕ) (rows picked : List Row) → Some form ≡ domain_form domain
    → ArePicked (λ row. DomainMatches (domain_text row) form) rows picked → AreUnder domain rows picked
under_form domain form rows picked is are = subst (λ o. ArePicked (IsOf o) rows picked) is are

pub under_found : {V E : Type 0} (r : Result V E) (rows_of : V → List Row) (domain form : List ℕ) (rows : List Row)
    → Some form ≡ domain_form domain
    → IfOk r (λ v. ArePicked (λ row. DomainMatches (domain_text row) form) rows (rows_of v))
    → IfOk r (λ v. AreUnder domain rows (rows_of v))
under_found (Ok v) rows_of domain form rows is are = under_form domain form rows (rows_of v) is are
under_found (Err e) rows_of domain form rows is are = tt

picks_no_row : (rows : List Row) → ArePicked (IsOf None) rows []
picks_no_row [] = refl
picks_no_row (row ∷ rows) = ([], picks_no_row rows, inr (λ h. h, refl))

-- none where there is no form
pub under_none : (domain : List ℕ) (rows : List Row) → None ≡ domain_form domain → AreUnder domain rows []
under_none domain rows is = subst (λ o. ArePicked (IsOf o) rows []) is (picks_no_row rows)

-- ---- the value of a name

-- the first that passes, of which those before it were looked at
pub found_at : (test : Row → Bool) (items : List (Bor Cookie)) (n : ℕ) (cookie : Bor Cookie) → n < length items
    → cookie ≡ get_or items n cookie → find test (lent_rows (take n items)) ≡ None → test (lent_row cookie) ≡ true
    → find test (lent_rows items) ≡ Some (lent_row cookie)
found_at test [] n cookie within is none passes = absurd (omega (arith, within))
found_at test (x ∷ xs) zero cookie within is none passes =
    let here : test (lent_row x) ≡ true = subst (λ (c : Bor Cookie). test (lent_row c) ≡ true) is passes in
    ap (λ b. cond b (Some (lent_row x)) (find test (lent_rows xs))) here
    ∙ ap (λ (c : Bor Cookie). Some (lent_row c)) (sym is)
found_at test (x ∷ xs) (suc n) cookie within is none passes =
    by (test (lent_row x)) (λ h. found_at test xs n cookie (omega (arith, within)) is h passes) none
  where
    by : (b : Bool)
        → (find test (lent_rows (take n xs)) ≡ None → find test (lent_rows xs) ≡ Some (lent_row cookie))
        → cond b (Some (lent_row x)) (find test (lent_rows (take n xs))) ≡ None
        → cond b (Some (lent_row x)) (find test (lent_rows xs)) ≡ Some (lent_row cookie)
    by true more h = absurd (cc)
    by false more h = more h

-- one more that doesn't pass
pub none_more : (test : Row → Bool) (looked : List (Bor Cookie)) (cookie : Bor Cookie)
    → find test (lent_rows looked) ≡ None → test (lent_row cookie) ≡ false
    → find test (lent_rows (looked ++ cookie ∷ [])) ≡ None
none_more test [] cookie none not_so = ap (λ b. cond b (Some (lent_row cookie)) None) not_so
none_more test (x ∷ xs) cookie none not_so =
    by (test (lent_row x)) (λ h. none_more test xs cookie h not_so) none
  where
    by : (b : Bool)
        → (find test (lent_rows xs) ≡ None → find test (lent_rows (xs ++ cookie ∷ [])) ≡ None)
        → cond b (Some (lent_row x)) (find test (lent_rows xs)) ≡ None
        → cond b (Some (lent_row x)) (find test (lent_rows (xs ++ cookie ∷ []))) ≡ None
    by true more h = absurd (cc)
    by false more h = more h

pub value_is : (name : List ℕ) (rows : List Row) (row : Row) → Some row ≡ find (has_name name) rows
    → Some (row.raw.cookie.value) ≡ first_value name rows
value_is name rows row is = ap (option_map (λ (r : Row). r.raw.cookie.value)) is

pub value_none : (name : List ℕ) (rows : List Row) → None ≡ find (has_name name) rows
    → None ≡ first_value name rows
value_none name rows is = ap (option_map (λ (r : Row). r.raw.cookie.value)) is

-- ---- the row that is meant

pub meant_key : (domain path name : List ℕ) (rows : List Row) (row : Row)
    → Some row ≡ found (key domain path name) rows → Some row ≡ meant domain path name rows
meant_key domain path name rows row is =
    ap (λ o. option_or o (find (is_printed_so domain path name) rows)) is

pub meant_printed : (domain path name : List ℕ) (rows : List Row) (row : Option Row)
    → None ≡ found (key domain path name) rows → row ≡ find (is_printed_so domain path name) rows
    → row ≡ meant domain path name rows
meant_printed domain path name rows row none is =
    is ∙ ap (λ o. option_or o (find (is_printed_so domain path name) rows)) none

pub meant_out : (domain path name : List ℕ) (rows : List Row) (row : Row) (k : Key) → k ≡ key_of row
    → Some row ≡ meant domain path name rows → removed k rows ≡ without (meant domain path name rows) rows
meant_out domain path name rows row k same is =
    ap (λ l. removed l rows) same ∙ ap (λ o. without o rows) is

pub none_out : (domain path name : List ℕ) (rows : List Row) → None ≡ meant domain path name rows
    → rows ≡ without (meant domain path name rows) rows
none_out domain path name rows is = ap (λ o. without o rows) is
