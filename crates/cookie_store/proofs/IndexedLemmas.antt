-- Rows in a vector with an index: where a row stands, and what becomes of them where one is put in, written over or
-- taken out.
use Rattle.std.proofs.Common.{◌≡◌, ◌⊎◌, ◌+◌, ◌-◌, ◌<◌, ◌≤◌, ◌&&◌, ◌||◌, ℕ, zero, suc, Bool, true, false, not}
use Rattle.std.proofs.Common.{List, [], ◌∷◌, ◌++◌, map, filter, length, set, take, drop, refl, sym, ap, subst, ◌∙◌}
use Rattle.std.proofs.Common.{get_or, inl, inr, arith, true≢false}
use Rattle.std.specs.Prelude.{Box, Option, Some, None, IsSomeAnd, slice_get, option_map, if◌then◌else◌}
use Rattle.std.specs.List.{find, list_any, insert, remove}
use Rattle.std.specs.Str.{bytes_eq}
use Rattle.std.proofs.lemmas.Bool.{cond-true, cond-false, or_left, or_right, and_from}
use Rattle.std.proofs.lemmas.List.{map-append, map-set, take-map, drop-map, length-map, set-get_or}
use Rattle.std.proofs.lemmas.Option.{none-some, same_Some, slice_get-map, slice_get_read, slice_get_within}
use Rattle.std.proofs.lemmas.Option.{get_or_from_slice_get}
use Rattle.std.specs.declared.vec.Vec.{Vec}
use Rattle.place_index.specs.Index.{Index, Agrees, IsIndex, StandsAt as PlaceStands, last}
use Rattle.place_index.specs.Places.{Place, is_at, is_of, is_same}
use Rattle.place_index.specs.Putting.{IsReady, PutsAt, end_of, end_at}
use Rattle.place_index.specs.Taking.{HasRow, TakesAt}
use Rattle.place_index.proofs.EndLemmas.{any_at}
use Rattle.cookie_store.specs.Indexed.{place_of, places_of, IsIndexed, StandsAt}
use Rattle.cookie_store.specs.Rows.{Row, Key, HaveOwnKeys, domain_text, key_of, has_domain, has_key, has_key_of}
use Rattle.cookie_store.specs.Rows.{has_place}
use Rattle.cookie_store.specs.Rows.{has_place_of, has_domain_of, put_in_place, behind_last, inserted, put, found}
use Rattle.cookie_store.specs.Rows.{removed}
use Rattle.cookie_store.specs.StoredCookie.{stored_in}
use Rattle.cookie_store.specs.declared.stored_cookie.Cookie.{Cookie}
use Rattle.cookie_store.proofs.ApartLemmas.{key_is, none_behind, put_apart, filter_apart}
use Rattle.cookie_store.proofs.PlaceLemmas.{put_in_place-none, filter-none}
use Rattle.cookie_store.proofs.TextLemmas.{text_is}

-- ---- a list and its image

module _ {A B : Type 0} (f : A → B) where
  any_map : (test : B → Bool) (xs : List A) → list_any test (map f xs) ≡ list_any (λ x. test (f x)) xs
  any_map test [] = refl
  any_map test (x ∷ xs) = ap (λ b. test (f x) || b) (any_map test xs)

  end_of_map : (test : B → Bool) (xs : List A) → end_of test (map f xs) ≡ end_of (λ x. test (f x)) xs
  end_of_map test [] = refl
  end_of_map test (x ∷ xs) =
      λ i. if test (f x) && not (any_map test xs i) then 1 else suc (end_of_map test xs i)

  pub map-insert : (xs : List A) (i : ℕ) (x : A) → map f (insert xs i x) ≡ insert (map f xs) i (f x)
  map-insert xs i x =
      map-append f (take i xs) (x ∷ drop i xs)
      ∙ (λ j. sym (take-map f i xs) j ++ f x ∷ sym (drop-map f i xs) j)

  pub map-remove : (xs : List A) (i : ℕ) → map f (remove xs i) ≡ remove (map f xs) i
  map-remove xs i =
      map-append f (take i xs) (drop (suc i) xs)
      ∙ (λ j. sym (take-map f i xs) j ++ sym (drop-map f (suc i) xs) j)

-- ---- the one element that passes a test

module _ {A : Type 0} (test : A → Bool) (x : A) where
  insert_behind : (ys : List A) → insert ys (end_of test ys) x ≡ behind_last test x ys
  insert_behind [] = refl
  insert_behind (y ∷ ys) = by (test y && not (list_any test ys)) (insert_behind ys)
    where
      by : (b : Bool) → insert ys (end_of test ys) x ≡ behind_last test x ys
          → insert (y ∷ ys) (if b then 1 else suc (end_of test ys)) x
          ≡ (if b then y ∷ x ∷ ys else y ∷ behind_last test x ys)
      by true rest = refl
      by false rest = ap (λ l. y ∷ l) rest

  -- x is at the index, and no other element passes
  abbrev IsOnly : List A → ℕ → Type 0
  IsOnly [] at = ⊥
  IsOnly (y ∷ ys) zero = (y ≡ x) × (test y ≡ true) × (list_any test ys ≡ false)
  IsOnly (y ∷ ys) (suc at) = (test y ≡ false) × IsOnly ys at

  any_only : (ys : List A) (at : ℕ) → IsOnly ys at → list_any test ys ≡ true
  any_only [] at only = absurd only
  any_only (y ∷ ys) zero only = or_left (test y) (list_any test ys) only.1
  any_only (y ∷ ys) (suc at) only = or_right (test y) (list_any test ys) (any_only ys at only.1)

  find_only : (ys : List A) (at : ℕ) → IsOnly ys at → find test ys ≡ Some x
  find_only [] at only = absurd only
  find_only (y ∷ ys) zero only = cond-true (test y) _ _ only.1 ∙ ap Some only.0
  find_only (y ∷ ys) (suc at) only = cond-false (test y) _ _ only.0 ∙ find_only ys at only.1

  set_only : (z : A) (ys : List A) (at : ℕ) → IsOnly ys at → put_in_place test z ys ≡ set ys at z
  set_only z [] at only = absurd only
  set_only z (y ∷ ys) zero only =
      λ i. cond-true (test y) z y only.1 i ∷ put_in_place-none test z ys only.2 i
  set_only z (y ∷ ys) (suc at) only = λ i. cond-false (test y) z y only.0 i ∷ set_only z ys at only.1 i

  remove_only : (ys : List A) (at : ℕ) → IsOnly ys at → filter (λ y. not (test y)) ys ≡ remove ys at
  remove_only [] at only = absurd only
  remove_only (y ∷ ys) zero only =
      cond-false (not (test y)) _ _ (ap not only.1) ∙ filter-none test ys only.2
  remove_only (y ∷ ys) (suc at) only =
      cond-true (not (test y)) _ _ (ap not only.0) ∙ ap (λ l. y ∷ l) (remove_only ys at only.1)

-- ---- the row of a key

only_there : (key : Key) (rows : List Row) (at : ℕ) (row : Row) → HaveOwnKeys rows → slice_get rows at ≡ Some row
    → has_key key row ≡ true → IsOnly (has_key key) row rows at
only_there key [] at row apart is has = absurd (none-some row is)
only_there key (r ∷ rows) zero row apart is has =
    let same = same_Some r row is in
    let own = ap (has_key key) same ∙ has in (same, own, none_behind key r rows own apart.0)
only_there key (r ∷ rows) (suc at) row apart is has =
    (by (has_key key r) refl, only_there key rows at row apart.1 is has)
  where
    by : (b : Bool) → has_key key r ≡ b → has_key key r ≡ false
    by true own =
        absurd (true≢false (sym (any_at (has_key key) rows at row is has) ∙ none_behind key r rows own apart.0))
    by false fails = fails

module _ (key : Key) (rows : List Row) (at : ℕ) (row : Row) (apart : HaveOwnKeys rows)
    (is : slice_get rows at ≡ Some row) (has : has_key key row ≡ true) where
  pub found_there : found key rows ≡ Some row
  found_there = find_only (has_key key) row rows at (only_there key rows at row apart is has)

  pub removed_there : remove rows at ≡ removed key rows
  removed_there = sym (remove_only (has_key key) row rows at (only_there key rows at row apart is has))

-- ---- its place

abbrev place_at : Key → Place
place_at key = record { domain = key.domain; path = key.path; name = key.name }

place_is : (key : Key) (row : Row) → has_key key row ≡ true → place_of row ≡ place_at key
place_is key row has = ap place_at (sym (key_is key row has))

-- no row is the key's where none has it
none_same : (key : Key) (rows : List Row)
    → list_any (is_same (place_at key)) (places_of rows) ≡ list_any (has_key key) rows
none_same key rows = any_map place_of (is_same (place_at key)) rows

-- a row by its key, where its place is known
pub key_stands : (key : Key) (rows : List Row) (at : Option ℕ) → PlaceStands (place_at key) (places_of rows) at
    → StandsAt key rows at
key_stands key rows None none = sym (none_same key rows) ∙ none
key_stands key rows (Some at) there = by (slice_get rows at) (sym (slice_get-map place_of rows at) ∙ there)
  where
    by : (o : Option Row) → option_map place_of o ≡ Some (place_at key)
        → IsSomeAnd o (λ row. has_key key row ≡ true)
    by None e = absurd (none-some (place_at key) e)
    by (Some row) e =
        let is = same_Some (place_of row) (place_at key) e in
        and_from (has_place key row) (bytes_eq key.name row.raw.cookie.name)
        (and_from (has_domain key row) (bytes_eq key.path row.path.text)
        (text_is key.domain (domain_text row) (sym (ap (λ p. p.domain) is)))
        (text_is key.path row.path.text (sym (ap (λ p. p.path) is))))
        (text_is key.name row.raw.cookie.name (sym (ap (λ p. p.name) is)))

module _ (key : Key) (rows : List Row) (at : ℕ) (row : Row) (index : Index) (indexed : IsIndexed rows index)
    (is : slice_get rows at ≡ Some row) (has : has_key key row ≡ true) where
  place_there : slice_get (places_of rows) at ≡ Some (place_at key)
  place_there = slice_get-map place_of rows at ∙ ap (option_map place_of) is ∙ ap Some (place_is key row has)

  pub has_row : length rows ≤ last → HasRow key.domain key.path at index
  has_row fits = record {
    places = places_of rows;
    agrees = indexed.agrees;
    name = key.name;
    there = place_there;
    room = subst (λ n. n ≤ last) (sym (length-map rows place_of)) fits;
  }

  pub removed_indexed : (new : Index) → TakesAt key.domain key.path at index new
      → IsIndexed (remove rows at) new
  removed_indexed new takes = record {
    agrees = subst (λ places. Agrees places new) (sym (map-remove place_of rows at))
        (takes key.name (places_of rows) indexed.agrees place_there);
    apart = subst HaveOwnKeys (sym (removed_there key rows at row indexed.apart is has))
        (filter_apart (λ r. not (has_key key r)) rows indexed.apart);
  }

module _ (new : Row) (rows : List Row) (at : ℕ) (row : Row) (is : slice_get rows at ≡ Some row)
    (has : has_key_of new row ≡ true) where
  pub set_there : HaveOwnKeys rows → set rows at new ≡ put new rows
  set_there apart =
      let only = only_there (key_of new) rows at row apart is has in
      sym (set_only (has_key_of new) row new rows at only)
      ∙ sym (cond-true (list_any (has_key_of new) rows) _ _ (any_only (has_key_of new) row rows at only))

  places_stay : places_of (set rows at new) ≡ places_of rows
  places_stay =
      let there = get_or_from_slice_get rows at row row is in
      map-set place_of rows at new
      ∙ ap (set (places_of rows) at) (sym (place_is (key_of new) row has) ∙ ap place_of (sym there))
      ∙ sym (map-set place_of rows at _) ∙ ap places_of (set-get_or rows at row)

  pub set_indexed : (index : Index) → IsIndexed rows index → IsIndexed (set rows at new) index
  set_indexed index indexed = record {
    agrees = subst (λ places. Agrees places index) (sym places_stay) indexed.agrees;
    apart = subst HaveOwnKeys (sym (set_there indexed.apart)) (put_apart new rows indexed.apart);
  }

-- ---- a row more

goes_behind : (row : Row) (rows : List Row) (at : ℕ) → at ≡ end_at (place_of row) (places_of rows)
    → insert rows at row ≡ inserted row rows
goes_behind row rows at is = ap (λ i. insert rows i row) (is ∙ same) ∙ by (list_any (has_place_of row) rows)
  where
    of : Place → Bool
    of = is_of (place_of row).domain

    beside : Place → Bool
    beside = is_at (place_of row).domain (place_of row).path

    same : end_at (place_of row) (places_of rows)
        ≡ (if list_any (has_place_of row) rows then end_of (has_place_of row) rows
        else end_of (has_domain_of row) rows)
    same = λ i. if any_map place_of beside rows i then end_of_map place_of beside rows i
        else end_of_map place_of of rows i

    by : (b : Bool)
        → insert rows (if b then end_of (has_place_of row) rows else end_of (has_domain_of row) rows) row
        ≡ (if b then behind_last (has_place_of row) row rows else behind_last (has_domain_of row) row rows)
    by true = insert_behind (has_place_of row) row rows
    by false = insert_behind (has_domain_of row) row rows

end_low : {A : Type 0} (test : A → Bool) (xs : List A) → end_of test xs ≤ length xs
end_low test [] = omega arith
end_low test (x ∷ xs) = by (test x && not (list_any test xs)) (end_low test xs)
  where
    by : (b : Bool) → end_of test xs ≤ length xs → (if b then 1 else suc (end_of test xs)) ≤ suc (length xs)
    by true low = omega arith
    by false low = omega (arith, low)

end_at_low : (place : Place) (places : List Place) → end_at place places ≤ length places
end_at_low place places = by (list_any (is_at place.domain place.path) places)
  where
    by : (b : Bool) → (if b then end_of (is_at place.domain place.path) places else end_of (is_of place.domain) places)
        ≤ length places
    by true = end_low (is_at place.domain place.path) places
    by false = end_low (is_of place.domain) places

pub is_ready : (row : Row) (rows : List Row) (index : Index) (place : Place) (count : ℕ) → place ≡ place_of row
    → IsIndexed rows index → count ≡ length rows → count < last → list_any (has_key_of row) rows ≡ false
    → IsReady place count index
is_ready row rows index place count own indexed counted room none = record {
  places = places_of rows;
  agrees = indexed.agrees;
  absent = ap (λ p. list_any (is_same p) (places_of rows)) own ∙ none_same (key_of row) rows ∙ none;
  counted = length-map rows place_of ∙ sym counted;
  room = room;
}

module _ (row : Row) (rows : List Row) (at : ℕ) (index new : Index) (indexed : IsIndexed rows index)
    (place : Place) (count : ℕ) (own : place ≡ place_of row) (counted : count ≡ length rows)
    (puts : PutsAt place count index new at) where
  put_at : Agrees (insert (places_of rows) at (place_of row)) new × (at ≡ end_at (place_of row) (places_of rows))
  put_at =
      subst (λ p. Agrees (insert (places_of rows) at p) new × (at ≡ end_at p (places_of rows))) own
      (puts (places_of rows) indexed.agrees (length-map rows place_of ∙ sym counted))

  pub insert_within : at ≤ count
  insert_within =
      let e = put_at.1 in
      omega (arith, e, end_at_low (place_of row) (places_of rows), length-map rows place_of, counted)

  pub insert_there : insert rows at row ≡ inserted row rows
  insert_there = goes_behind row rows at put_at.1

  pub insert_indexed : list_any (has_key_of row) rows ≡ false → IsIndexed (insert rows at row) new
  insert_indexed none = record {
    agrees = subst (λ places. Agrees places new) (sym (map-insert place_of rows at row)) put_at.0;
    apart = subst HaveOwnKeys (cond-false (list_any (has_key_of row) rows) _ _ none ∙ sym insert_there)
        (put_apart row rows indexed.apart);
  }

-- ---- a vector of cookies

pub fits : {X Y Z : Type 0} (f : X → Y) (v : Vec X Z) → length (map f v.items) ≤ last
fits f v =
    let small = v.small in
    let own = v.ok in
    omega (arith, length-map v.items f, own.0, own.1, small)

pub is_index : (rows : List Row) (index : Index) → IsIndexed rows index → length rows ≤ last → IsIndex index
is_index rows index indexed low = record {
  places = places_of rows;
  agrees = indexed.agrees;
  room = subst (λ n. n ≤ last) (sym (length-map rows place_of)) low;
}

pub row_read : {Z : Type 0} (items : List (Box Cookie Z)) (at : ℕ) (cookie : Box Cookie Z)
    → at < length (map stored_in items) → cookie ≡ get_or items at cookie
    → slice_get (map stored_in items) at ≡ Some (stored_in cookie)
row_read items at cookie within read =
    slice_get-map stored_in items at
    ∙ ap (option_map stored_in)
    (slice_get_read items (length items) at cookie refl (omega (arith, length-map items stored_in, within)) read)

-- the row that stands there
pub stands : (key : Key) (rows : List Row) (at : ℕ) → StandsAt key rows (Some at)
    → (row : Row) × (slice_get rows at ≡ Some row) × (has_key key row ≡ true)
stands key rows at there = by (slice_get rows at) refl there
  where
    by : (o : Option Row) → slice_get rows at ≡ o → IsSomeAnd o (λ row. has_key key row ≡ true)
        → (row : Row) × (slice_get rows at ≡ Some row) × (has_key key row ≡ true)
    by None is there = absurd there
    by (Some row) is there = (row, is, there)

pub any_there : (key : Key) (rows : List Row) (at : ℕ) → StandsAt key rows (Some at)
    → list_any (has_key key) rows ≡ true
any_there key rows at there =
    let row = stands key rows at there in any_at (has_key key) rows at row.0 row.1 row.2

module _ {Z : Type 0} (key : Key) (items : List (Box Cookie Z)) (at : ℕ)
    (there : StandsAt key (map stored_in items) (Some at)) where
  within_items : at < length (map stored_in items)
  within_items = let row = stands key (map stored_in items) at there in
      slice_get_within (map stored_in items) at row.0 row.1

  pub within_vec : (len : ℕ) → len ≡ length items → at < len
  within_vec len own = omega (arith, own, length-map items stored_in, within_items)

  module _ (cookie : Box Cookie Z) (read : cookie ≡ get_or items at cookie) where
    pub read_there : slice_get (map stored_in items) at ≡ Some (stored_in cookie)
    read_there = row_read items at cookie within_items read

    pub key_there : has_key key (stored_in cookie) ≡ true
    key_there = let row = stands key (map stored_in items) at there in
        ap (has_key key) (same_Some (stored_in cookie) row.0 (sym read_there ∙ row.1)) ∙ row.2
