-- What putting a row leaves of the other rows, and that it is found.
use Rattle.std.proofs.Common.{◌≡◌, Bool, true, false, cond, not, ◌&&◌, ◌||◌, List, [], ◌∷◌, ◌++◌, filter, refl, sym, ap}
use Rattle.std.proofs.Common.{◌∙◌}
use Rattle.std.specs.Prelude.{Some, None}
use Rattle.std.specs.List.{find, list_any}
use Rattle.std.specs.Str.{bytes_eq}
use Rattle.std.proofs.lemmas.Bool.{cond-true, cond-false, or_parts, or_from, and_from, false≢true}
use Rattle.std.proofs.lemmas.Option.{same_Some}
use Rattle.cookie_store.specs.Laws.{IsLastOfPlace}
use Rattle.cookie_store.specs.Rows.{Row, Key, key_of, has_key, has_key_of, has_place, has_domain, has_place_of}
use Rattle.cookie_store.specs.Rows.{behind_last, put_in_place, put, found, removed}
use Rattle.cookie_store.proofs.PlaceLemmas.{put_by, no_place}
use Rattle.cookie_store.proofs.TextLemmas.{text_is}

module _ {A : Type 0} (t : A → Bool) (x : A) (out : t x ≡ false) where
  filter-behind_last : (test : A → Bool) (ys : List A) → filter t (behind_last test x ys) ≡ filter t ys
  filter-behind_last test [] = cond-false (t x) _ _ out
  filter-behind_last test (y ∷ ys) = by (test y && not (list_any test ys)) (filter-behind_last test ys)
    where
      by : (b : Bool) → filter t (behind_last test x ys) ≡ filter t ys
          → filter t (cond b (y ∷ x ∷ ys) (y ∷ behind_last test x ys)) ≡ filter t (y ∷ ys)
      by true rest = ap (λ l. cond (t y) (y ∷ l) l) (cond-false (t x) (x ∷ filter t ys) (filter t ys) out)
      by false rest = ap (λ l. cond (t y) (y ∷ l) l) rest

  filter-put_in_place : (test : A → Bool) → ((y : A) → test y ≡ true → t y ≡ false) → (ys : List A)
      → filter t (put_in_place test x ys) ≡ filter t ys
  filter-put_in_place test replaced [] = refl
  filter-put_in_place test replaced (y ∷ ys) = by (test y) refl (filter-put_in_place test replaced ys)
    where
      by : (b : Bool) → test y ≡ b → filter t (put_in_place test x ys) ≡ filter t ys
          → filter t (cond b x y ∷ put_in_place test x ys) ≡ filter t (y ∷ ys)
      by true is rest = cond-false (t x) _ _ out ∙ rest ∙ sym (cond-false (t y) _ _ (replaced y is))
      by false is rest = ap (λ l. cond (t y) (y ∷ l) l) rest

-- rows that a test tells from those of the key stay, in their order
pub others_stay : (t : Row → Bool) (key : Key) (row : Row) → t row ≡ false
    → ((r : Row) → has_key key r ≡ true → t r ≡ false) → (rows : List Row)
    → filter t (put_by key row rows) ≡ filter t rows
others_stay t key row out apart rows = by (list_any (has_key key) rows) (list_any (has_place key) rows)
  where
    by : (k p : Bool) → filter t (cond k (put_in_place (has_key key) row rows)
        (cond p (behind_last (has_place key) row rows) (behind_last (has_domain key) row rows)))
        ≡ filter t rows
    by true p = filter-put_in_place t row out (has_key key) apart rows
    by false true = filter-behind_last t row out (has_place key) rows
    by false false = filter-behind_last t row out (has_domain key) rows

module _ {A : Type 0} (test : A → Bool) (x : A) (own : test x ≡ true) where
  found_behind : (other : A → Bool) (ys : List A) → list_any test ys ≡ false
      → find test (behind_last other x ys) ≡ Some x
  found_behind other [] none = cond-true (test x) (Some x) None own
  found_behind other (y ∷ ys) none =
      let p = or_parts (test y) (list_any test ys) none in
      by (other y && not (list_any other ys)) p.0 (found_behind other ys p.1)
    where
      by : (b : Bool) → test y ≡ false → find test (behind_last other x ys) ≡ Some x
          → find test (cond b (y ∷ x ∷ ys) (y ∷ behind_last other x ys)) ≡ Some x
      by true fails rest = cond-false (test y) _ _ fails ∙ cond-true (test x) _ _ own
      by false fails rest = cond-false (test y) _ _ fails ∙ rest

  found_in_place : (ys : List A) → list_any test ys ≡ true → find test (put_in_place test x ys) ≡ Some x
  found_in_place [] any = absurd (false≢true any)
  found_in_place (y ∷ ys) any = by (test y) refl any (found_in_place ys)
    where
      by : (b : Bool) → test y ≡ b → (b || list_any test ys) ≡ true
          → (list_any test ys ≡ true → find test (put_in_place test x ys) ≡ Some x)
          → find test (cond b x y ∷ put_in_place test x ys) ≡ Some x
      by true is any rest = cond-true (test x) _ _ own
      by false is any rest = cond-false (test y) _ _ is ∙ rest any

pub has_own_key : (row : Row) → has_key_of row row ≡ true
has_own_key row =
    let k = key_of row in
    and_from (has_place k row) (bytes_eq k.name k.name)
    (and_from (bytes_eq k.domain k.domain) (bytes_eq k.path k.path) (text_is k.domain k.domain refl)
    (text_is k.path k.path refl))
    (text_is k.name k.name refl)

-- a row that was put is found
pub put_is_found : (row : Row) (rows : List Row) → found (key_of row) (put row rows) ≡ Some row
put_is_found row rows = by (list_any (has_key_of row) rows) refl (list_any (has_place_of row) rows)
  where
    by : (k : Bool) → list_any (has_key_of row) rows ≡ k → (p : Bool)
        → found (key_of row) (cond k (put_in_place (has_key_of row) row rows)
        (cond p (behind_last (has_place_of row) row rows) (behind_last (has_domain (key_of row)) row rows)))
        ≡ Some row
    by true any p = found_in_place (has_key_of row) row (has_own_key row) rows any
    by false none true = found_behind (has_key_of row) row (has_own_key row) (has_place_of row) rows none
    by false none false =
        found_behind (has_key_of row) row (has_own_key row) (has_domain (key_of row)) rows none

-- the first that passes a test, and another one too, is the first that passes both
pub find_both : {A : Type 0} (test other : A → Bool) (x : A) → other x ≡ true → (ys : List A)
    → find test ys ≡ Some x → find (λ y. test y && other y) ys ≡ Some x
find_both test other x passes [] at = at
find_both {A} test other x passes (y ∷ ys) at = by (test y) at (find_both test other x passes ys)
  where
    same : Some y ≡ Some x → y ≡ x
    same e = same_Some y x e

    by : (b : Bool) → cond b (Some y) (find test ys) ≡ Some x
        → (find test ys ≡ Some x → find (λ z. test z && other z) ys ≡ Some x)
        → cond (b && other y) (Some y) (find (λ z. test z && other z) ys) ≡ Some x
    by true at rest = cond-true (other y) _ _ (ap other (same at) ∙ passes) ∙ at
    by false at rest = rest at

-- ---- the last of its domain and path

module _ {A : Type 0} (test : A → Bool) (x : A) where
  -- what stands behind x
  record StandsLast (ys : List A) : Type 0 where
    pub before : List A
    pub after : List A
    pub split : behind_last test x ys ≡ before ++ x ∷ after
    pub last : list_any test after ≡ false

  stands_last : (ys : List A) → StandsLast ys
  stands_last [] = record { before = []; after = []; split = refl; last = refl }
  stands_last (y ∷ ys) = by (test y && not (list_any test ys)) refl (stands_last ys)
    where
      none_left : (a b : Bool) → (a && not b) ≡ true → b ≡ false
      none_left a false e = refl
      none_left true true e = absurd (false≢true e)
      none_left false true e = absurd (false≢true e)

      by : (b : Bool) → (test y && not (list_any test ys)) ≡ b → StandsLast ys → StandsLast (y ∷ ys)
      by true e rest = record {
        before = y ∷ [];
        after = ys;
        split = cond-true (test y && not (list_any test ys)) _ _ e;
        last = none_left (test y) (list_any test ys) e;
      }
      by false e rest = record {
        before = y ∷ rest.before;
        after = rest.after;
        split = cond-false (test y && not (list_any test ys)) _ _ e ∙ ap (λ l. y ∷ l) rest.split;
        last = rest.last;
      }

none_of_removed : (key : Key) (rows : List Row) → list_any (has_key key) (removed key rows) ≡ false
none_of_removed key [] = refl
none_of_removed key (r ∷ rows) = by (has_key key r) refl (none_of_removed key rows)
  where
    by : (b : Bool) → has_key key r ≡ b → list_any (has_key key) (removed key rows) ≡ false
        → list_any (has_key key) (cond (not b) (r ∷ removed key rows) (removed key rows)) ≡ false
    by true is rest = rest
    by false is rest = or_from (has_key key r) _ is rest

pub comes_last : (row : Row) (rows : List Row) → IsLastOfPlace row (put row (removed (key_of row) rows))
comes_last row rows = by (list_any (has_place_of row) left) refl
  where
    left : List Row
    left = removed (key_of row) rows

    new : put row left ≡ cond (list_any (has_place_of row) left) (behind_last (has_place_of row) row left)
        (behind_last (has_domain (key_of row)) row left)
    new = cond-false (list_any (has_key_of row) left) _ _ (none_of_removed (key_of row) rows)

    by : (p : Bool) → list_any (has_place_of row) left ≡ p → IsLastOfPlace row (put row left)
    by true any =
        let s = stands_last (has_place_of row) row left in
        record {
          before = s.before;
          after = s.after;
          split = new ∙ cond-true (list_any (has_place_of row) left) _ _ any ∙ s.split;
          last = s.last;
        }
    by false none =
        let s = stands_last (has_domain (key_of row)) row left in
        record {
          before = s.before;
          after = s.after;
          split = new ∙ cond-false (list_any (has_place_of row) left) _ _ none ∙ s.split;
          last = no_place (key_of row) s.after s.last;
        }
