-- Rows that are lent, copied and picked.
use Rattle.std.proofs.Common.{◌≡◌, ℤ, Bool, true, false, List, [], ◌∷◌, ◌++◌, map}
use Rattle.std.proofs.Common.{Option, Result, Ok, Err, sym, refl, ap, ◌∙◌, subst, inl, inr, append_assoc}
use Rattle.std.specs.Prelude.{◌&&◌, cond, not, filter, if◌then◌else◌, IfOk}
use Rattle.std.specs.Borrow.{Bor}
use Rattle.std.specs.Iterator.{AlwaysYields}
use Rattle.std.specs.List.{AllByRecursion, list_all, list_any}
use Rattle.std.proofs.lemmas.List.{append-nil, map-append}
use Rattle.store_parts.specs.declared.error.Error.{Error}
use Rattle.cookie_store.specs.Given.{ArePicked, lent_row}
use Rattle.cookie_store.specs.Grouped.{AreGrouped, IsSublist, PartsStay}
use Rattle.cookie_store.specs.LoadedLines.{GivesStore}
use Rattle.cookie_store.specs.Placing.{loaded, loaded_store, put_all}
use Rattle.cookie_store.specs.Rows.{Row, Store, behind_last, has_domain_of, has_key_of, has_place_of, inserted, is_live}
use Rattle.cookie_store.specs.Rows.{live, put, put_in_place, replaced}
use Rattle.cookie_store.specs.StoredCookie.{stored_of}
use Rattle.cookie_store.specs.declared.stored_cookie.Cookie.{Cookie}
use Rattle.cookie_client.proofs.HeldCopies.{drained, ok_of, picked_part, same_cookies}
use Rattle.cookie_client.proofs.RowsKept.{later}
use Rattle.cookie_jar.specs.Keeping.{AreKept, IsTaken}
use Rattle.cookie_jar.specs.Rows.{AreCopies, lent_rows}
use Rattle.cookie_jar.specs.declared.form.Form.{Form}

-- ---- lent rows

-- what was lent, and what is left to lend
pub lent_next : (rows left rest : List Row) (items new : List (Bor Cookie)) (cookie : Bor Cookie)
    → left ≡ lent_row cookie ∷ rest → new ≡ items ++ cookie ∷ [] → lent_rows items ++ left ≡ rows
    → lent_rows new ++ rest ≡ rows
lent_next rows left rest items new cookie is pushed far =
    ap (λ xs. lent_rows xs ++ rest) pushed
    ∙ (ap (λ xs. xs ++ rest) (map-append lent_row items (cookie ∷ []))
    ∙ (append_assoc (lent_rows items) (lent_row cookie ∷ []) rest
    ∙ (ap (λ xs. lent_rows items ++ xs) (sym is) ∙ far)))

pub lent_all : (rows left : List Row) (items : List (Bor Cookie)) → left ≡ [] → lent_rows items ++ left ≡ rows
    → lent_rows items ≡ rows
lent_all rows left items none far =
    sym (append-nil (lent_rows items)) ∙ (ap (λ xs. lent_rows items ++ xs) (sym none) ∙ far)

-- ---- picked rows

pub picked_all : {A : Type 0} (Is : A → Type 0) (xs picked : List A) → ArePicked Is xs picked
    → AllByRecursion Is picked
picked_all Is [] picked p = subst (AllByRecursion Is) (sym p) tt
picked_all Is (x ∷ xs) picked (later, rest, inl h) =
    subst (AllByRecursion Is) (sym h.1) (h.0, picked_all Is xs later rest)
picked_all Is (x ∷ xs) picked (later, rest, inr h) =
    subst (AllByRecursion Is) (sym h.1) (picked_all Is xs later rest)

-- what is picked of the rows that are left stands behind what was lent
abbrev pub PicksSoFar : (Row → Type 0) → List Row → List Row → List Row → List Row → Type 0
PicksSoFar Is own others lent left =
    (done : List Row) × (lent ≡ own ++ done)
    × ((picked : List Row) → ArePicked Is left picked → ArePicked Is others (done ++ picked))

pub picks_none : (Is : Row → Type 0) (own others lent : List Row) → lent ≡ own → PicksSoFar Is own others lent others
picks_none Is own others lent same = ([], same ∙ sym (append-nil own), λ picked p. p)

pub picks_more : (Is : Row → Type 0) (own others left rest : List Row) (items new : List (Bor Cookie))
    (cookie : Bor Cookie) → left ≡ lent_row cookie ∷ rest → new ≡ items ++ cookie ∷ [] → Is (lent_row cookie)
    → PicksSoFar Is own others (lent_rows items) left → PicksSoFar Is own others (lent_rows new) rest
picks_more Is own others left rest items new cookie is pushed held (done, same, far) = (
  done ++ lent_row cookie ∷ [],
  ap lent_rows pushed
      ∙ (map-append lent_row items (cookie ∷ [])
      ∙ (ap (λ xs. xs ++ lent_row cookie ∷ []) same ∙ append_assoc own done (lent_row cookie ∷ []))),
  λ picked p. subst (ArePicked Is others) (sym (append_assoc done (lent_row cookie ∷ []) picked))
      (far (lent_row cookie ∷ picked)
      (subst (λ l. ArePicked Is l (lent_row cookie ∷ picked)) (sym is) (picked, p, inl (held, refl)))),
)

pub picks_same : (Is : Row → Type 0) (own others lent left rest : List Row) (row : Row) → left ≡ row ∷ rest
    → ¬ (Is row) → PicksSoFar Is own others lent left → PicksSoFar Is own others lent rest
picks_same Is own others lent left rest row is other (done, same, far) = (
  done,
  same,
  λ picked p. far picked (subst (λ l. ArePicked Is l picked) (sym is) (picked, p, inr (other, refl))),
)

pub picks_all : (Is : Row → Type 0) (own others lent left : List Row) → left ≡ []
    → PicksSoFar Is own others lent left
    → (taken : List Row) × ArePicked Is others taken × (lent ≡ own ++ taken)
picks_all Is own others lent left none (done, same, far) = (
  done,
  subst (ArePicked Is others) (append-nil done) (far [] (subst (λ l. ArePicked Is l []) (sym none) refl)),
  same,
)

-- what is picked behind nothing
pub picks_alone : (Is : Row → Type 0) (others lent left : List Row) → left ≡ [] → PicksSoFar Is [] others lent left
    → ArePicked Is others lent
picks_alone Is others lent left none far =
    let (taken, picked, same) = picks_all Is [] others lent left none far in
    subst (ArePicked Is others) (sym same) picked

-- ---- what an iterator gives

-- the store of cookies that an iterator gives
pub store_of : {S : Type 0} (steps : S → Option (Result Cookie Error) → S → Type 0) (iter : S) (expired : Bool)
    (now : ℤ) (cookies : List Cookie) (items : List (Result Cookie Error)) (store : Store) → items ≡ map ok_of cookies
    → AlwaysYields steps (λ x. x) iter items → GivesStore steps iter expired now store
    → store ≡ loaded_store expired now (map stored_of cookies)
store_of steps iter expired now cookies items store are always (given, drains, is) =
    is ∙ ap (λ cs. loaded_store expired now (map stored_of cs))
    (same_cookies given cookies (drained steps iter (map ok_of given) items always drains ∙ are))

-- ---- copies

pub copies_more : (new made : List (Result Cookie Error)) (rows : List Row) (row : Row) (cookie : Cookie)
    → AreCopies rows made → new ≡ made ++ ok_of cookie ∷ [] → stored_of cookie ≡ row
    → AreCopies (rows ++ row ∷ []) new
copies_more new made rows row cookie (copies, is, are) pushed same = (
  copies ++ cookie ∷ [],
  pushed ∙ (ap (λ xs. xs ++ ok_of cookie ∷ []) is ∙ sym (map-append ok_of copies (cookie ∷ []))),
  map-append stored_of copies (cookie ∷ [])
      ∙ (ap (λ xs. xs ++ stored_of cookie ∷ []) are ∙ ap (λ r. rows ++ r ∷ []) same),
)

-- the store of copies of these rows
pub placed_of : {S : Type 0} (steps : S → Option (Result Cookie Error) → S → Type 0) (iter : S) (expired : Bool)
    (now : ℤ) (rows : List Row) (items : List (Result Cookie Error)) (store : Store) → AreCopies rows items
    → AlwaysYields steps (λ x. x) iter items → GivesStore steps iter expired now store
    → store ≡ loaded_store expired now rows
placed_of steps iter expired now rows items store (copies, is, are) always gives =
    store_of steps iter expired now copies items store is always gives ∙ ap (loaded_store expired now) are

-- ---- what holds of each row

-- what holds of all holds of those that pass a test
pub filter_all : (P : Row → Type 0) (test : Row → Bool) (rows : List Row) → AllByRecursion P rows
    → AllByRecursion P (filter test rows)
filter_all P test [] all = tt
filter_all P test (r ∷ rs) all = by (test r) (filter_all P test rs all.1)
  where
    by : (b : Bool) → AllByRecursion P (filter test rs)
        → AllByRecursion P (if b then r ∷ filter test rs else filter test rs)
    by true rest = (all.0, rest)
    by false rest = rest

either : (P : Row → Type 0) (b : Bool) (x y : Row) → P x → P y → P (if b then x else y)
either P true x y px py = px
either P false x y px py = py

either_all : (P : Row → Type 0) (b : Bool) (xs ys : List Row) → AllByRecursion P xs → AllByRecursion P ys
    → AllByRecursion P (if b then xs else ys)
either_all P true xs ys px py = px
either_all P false xs ys px py = py

in_place : (P : Row → Type 0) (test : Row → Bool) (x : Row) (ys : List Row) → P x → AllByRecursion P ys
    → AllByRecursion P (put_in_place test x ys)
in_place P test x [] px all = tt
in_place P test x (y ∷ ys) px all = (either P (test y) x y px all.0, in_place P test x ys px all.1)

behind : (P : Row → Type 0) (test : Row → Bool) (x : Row) (ys : List Row) → P x → AllByRecursion P ys
    → AllByRecursion P (behind_last test x ys)
behind P test x [] px all = (px, tt)
behind P test x (y ∷ ys) px all =
    either_all P (test y && not (list_any test ys)) (y ∷ x ∷ ys) (y ∷ behind_last test x ys)
    (all.0, (px, all.1)) (all.0, behind P test x ys px all.1)

put_keeps : (P : Row → Type 0) (row : Row) (rows : List Row) → P row → AllByRecursion P rows
    → AllByRecursion P (put row rows)
put_keeps P row rows p all =
    either_all P (list_any (has_key_of row) rows) (replaced row rows) (inserted row rows)
    (in_place P (has_key_of row) row rows p all)
    (either_all P (list_any (has_place_of row) rows) (behind_last (has_place_of row) row rows)
    (behind_last (has_domain_of row) row rows) (behind P (has_place_of row) row rows p all)
    (behind P (has_domain_of row) row rows p all))

put_all_keeps : (P : Row → Type 0) (rows old : List Row) → AllByRecursion P rows → AllByRecursion P old
    → AllByRecursion P (put_all rows old)
put_all_keeps P [] old own all = all
put_all_keeps P (r ∷ rs) old own all = put_all_keeps P rs (put r old) own.1 (put_keeps P r old own.0 all)

both_all : (P : Row → Type 0) (xs ys : List Row) → AllByRecursion P xs → AllByRecursion P ys
    → AllByRecursion P (xs ++ ys)
both_all P [] ys px py = py
both_all P (x ∷ xs) ys px py = (px.0, both_all P xs ys px.1 py)

-- what holds of rows holds of them placed
pub placed_all : (P : Row → Type 0) (now : ℤ) (xs ys : List Row) → AllByRecursion P xs → AllByRecursion P ys
    → AllByRecursion P (loaded false now (xs ++ ys))
placed_all P now xs ys hx hy =
    put_all_keeps P (live now (xs ++ ys)) [] (filter_all P (is_live now) (xs ++ ys) (both_all P xs ys hx hy)) tt

-- rows that are taken are kept
pub taken_kept : (form : Form) (rows : List Row) → AllByRecursion (IsTaken form) rows → AreKept rows
taken_kept form [] all = tt
taken_kept form (r ∷ rs) all = (all.0.kept, taken_kept form rs all.1)

-- ---- live rows

pub live_part : (now : ℤ) (rows : List Row) → IsSublist (live now rows) rows
live_part now [] = tt
live_part now (r ∷ rs) = by (is_live now r) (live_part now rs)
  where
    by : (b : Bool) → IsSublist (live now rs) rs
        → IsSublist (if b then r ∷ live now rs else live now rs) (r ∷ rs)
    by true rest = inl (refl, rest)
    by false rest = later (live now rs) rs r rest

picked_stay : (Is : Row → Type 0) (parts : PartsStay) (now : ℤ) (rows picked : List Row) (left : Store)
    → AreGrouped rows → ArePicked Is rows picked → left ≡ loaded_store true now picked → ArePicked Is rows left.rows
picked_stay Is parts now rows picked left grouped are placed =
    subst (ArePicked Is rows) (sym (ap (λ (s : Store). s.rows) placed
    ∙ parts.stay rows picked grouped (picked_part Is rows picked are))) are

pub only_picked : {E : Type 0} (r : Result Store E) (Is : Row → Type 0) (parts : PartsStay) (now : ℤ)
    (rows picked : List Row) → AreGrouped rows → ArePicked Is rows picked
    → IfOk r (λ left. left ≡ loaded_store true now picked) → IfOk r (λ left. ArePicked Is rows left.rows)
only_picked (Ok left) Is parts now rows picked grouped are placed =
    picked_stay Is parts now rows picked left grouped are placed
only_picked (Err e) Is parts now rows picked grouped are placed = tt

-- a store of its live rows has them as they stood
pub live_stay : (parts : PartsStay) (now : ℤ) (rows lent : List Row) → AreGrouped rows → lent ≡ rows
    → loaded false now lent ≡ live now rows
live_stay parts now rows lent grouped same =
    ap (loaded false now) same ∙ parts.stay rows (live now rows) grouped (live_part now rows)

-- where no row is dead all of them are the live ones
pub all_live : (now : ℤ) (rows : List Row) → list_all (is_live now) rows ≡ true → live now rows ≡ rows
all_live now [] all = refl
all_live now (row ∷ rows) all = by (is_live now row) (all_live now rows) all
  where
    by : (b : Bool) → (list_all (is_live now) rows ≡ true → live now rows ≡ rows)
        → (b && list_all (is_live now) rows) ≡ true → cond b (row ∷ live now rows) (live now rows) ≡ row ∷ rows
    by true more h = ap (λ rest. row ∷ rest) (more h)
    by false more h = cc
