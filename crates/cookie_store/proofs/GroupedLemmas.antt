-- Rows in a vector with an index are grouped, and so is each part of them; rows that are grouped stand where they are
-- put.
use Rattle.std.proofs.Common.{◌≡◌, ◌+◌, ◌<◌, ◌&&◌, ℕ, zero, suc, Bool, true, false, cond, List, [], ◌∷◌, ◌++◌, ℤ}
use Rattle.std.proofs.Common.{map, filter, take, drop, refl, sym, ap, subst, ◌∙◌, inl, inr, append_assoc, append-nil}
use Rattle.std.proofs.Common.{arith, true≢false}
use Rattle.std.specs.Prelude.{Option, Some, None, slice_get, option_map}
use Rattle.std.specs.List.{list_any, AllByRecursion}
use Rattle.std.specs.Str.{bytes_eq}
use Rattle.std.proofs.lemmas.Bool.{cond-false, or_parts, or_from, or_left, or_right, and_from}
use Rattle.std.proofs.lemmas.List.{take-append-drop}
use Rattle.std.proofs.lemmas.List.Folds.{list_any-append}
use Rattle.std.proofs.lemmas.Option.{none-some, slice_get-map}
use Rattle.cookie_text.specs.ReadingBack.{Pairwise}
use Rattle.place_index.specs.Entries.{value_at}
use Rattle.place_index.specs.Index.{Index, DomainPart, IsNowhere, DomainAgrees, PathAgrees, IsPart as IsPartAt}
use Rattle.place_index.specs.Places.{is_of, is_at}
use Rattle.place_index.specs.Parts.{Part}
use Rattle.place_index.proofs.EndLemmas.{none_any}
use Rattle.store_parts.specs.DomainMatch.{text_or_empty}
use Rattle.cookie_store.specs.Grouped.{StandTogether, AreGrouped, IsSublist, PartsStay}
use Rattle.cookie_store.specs.Indexed.{IsIndexed, place_of, places_of}
use Rattle.cookie_store.specs.Placing.{chosen, loaded, put_all}
use Rattle.cookie_store.specs.Rows.{Row, Key, HaveOwnKeys, key_of, has_key, has_key_of, has_place, has_place_of}
use Rattle.cookie_store.specs.Rows.{has_domain, has_domain_of, behind_last, is_live, put}
use Rattle.cookie_store.specs.SavedRows.{IsReread}
use Rattle.cookie_store.proofs.ApartLemmas.{key_is}
use Rattle.cookie_store.proofs.PlaceLaws.{has_own_key}
use Rattle.cookie_store.proofs.PlaceLemmas.{behind_last-none, behind_last-all, behind_last-within}
use Rattle.cookie_store.proofs.TextLemmas.{text_is}

-- ---- those that stand together

module _ {A : Type 0} where
  all_at : (P : A → Type 0) (xs : List A) → ((i : ℕ) (x : A) → slice_get xs i ≡ Some x → P x) → AllByRecursion P xs
  all_at P [] h = tt
  all_at P (x ∷ xs) h = (h zero x refl, all_at P xs (λ i y e. h (suc i) y e))

  in_take : (n : ℕ) (xs : List A) (i : ℕ) (x : A) → slice_get (take n xs) i ≡ Some x
      → (i < n) × (slice_get xs i ≡ Some x)
  in_take zero xs i x e = absurd (none-some x e)
  in_take (suc n) [] i x e = absurd (none-some x e)
  in_take (suc n) (y ∷ ys) zero x e = (omega arith, e)
  in_take (suc n) (y ∷ ys) (suc i) x e = let r = in_take n ys i x e in let l = r.0 in (omega (arith, l), r.1)

  in_drop : (n : ℕ) (xs : List A) (i : ℕ) → slice_get xs (n + i) ≡ slice_get (drop n xs) i
  in_drop zero xs i = ap (slice_get xs) (omega arith)
  in_drop (suc n) [] i = refl
  in_drop (suc n) (x ∷ xs) i =
      let e : suc n + i ≡ suc (n + i) = omega arith in
      ap (slice_get (x ∷ xs)) e ∙ in_drop n xs i

module _ {A B : Type 0} (f : A → B) (test : B → Bool) (xs : List A) where
  at_image : (i : ℕ) (x : A) → slice_get xs i ≡ Some x → slice_get (map f xs) i ≡ Some (f x)
  at_image i x e = slice_get-map f xs i ∙ ap (option_map f) e

  nowhere_together : IsNowhere test (map f xs) → StandTogether (λ x. test (f x)) xs
  nowhere_together none = record {
    before = xs;
    own = [];
    after = [];
    split = sym (append-nil xs);
    none_before = none_any (λ x. test (f x)) xs (λ i x e. none i (f x) (at_image i x e));
    all_own = tt;
    none_after = refl;
  }

  span_together : (start len : ℕ) → IsPartAt test (map f xs) start len → StandTogether (λ x. test (f x)) xs
  span_together start len part =
      let rest = drop start xs in
      record {
        before = take start xs;
        own = take len rest;
        after = drop len rest;
        split = sym (take-append-drop start xs)
            ∙ ap (λ l. take start xs ++ l) (sym (take-append-drop len rest));
        none_before = none_any (λ x. test (f x)) (take start xs) before;
        all_own = all_at (λ x. test (f x) ≡ true) (take len rest) inside;
        none_after = none_any (λ x. test (f x)) (drop len rest) after;
      }
    where
      before : (i : ℕ) (x : A) → slice_get (take start xs) i ≡ Some x → test (f x) ≡ false
      before i x e = let t = in_take start xs i x e in part.before i (f x) t.0 (at_image i x t.1)

      inside : (i : ℕ) (x : A) → slice_get (take len (drop start xs)) i ≡ Some x → test (f x) ≡ true
      inside i x e =
          let t = in_take len (drop start xs) i x e in
          let l = t.0 in
          part.inside (start + i) (f x) (omega arith) (omega (arith, l))
          (at_image (start + i) x (in_drop start xs i ∙ t.1))

      after : (i : ℕ) (x : A) → slice_get (drop len (drop start xs)) i ≡ Some x → test (f x) ≡ false
      after i x e =
          part.after (start + (len + i)) (f x) (omega arith)
          (at_image (start + (len + i)) x (in_drop start xs (len + i) ∙ in_drop len (drop start xs) i ∙ e))

-- ---- rows in a vector with an index

module _ (rows : List Row) (index : Index) (indexed : IsIndexed rows index) (key : Key) where
  domains_together : StandTogether (has_domain key) rows
  domains_together = by (value_at key.domain index) (indexed.agrees.parts key.domain)
    where
      by : (o : Option DomainPart) → DomainAgrees (places_of rows) key.domain o → StandTogether (has_domain key) rows
      by None none = nowhere_together place_of (is_of key.domain) rows none
      by (Some part) own = span_together place_of (is_of key.domain) rows part.start part.len own.0

  places_together : StandTogether (has_place key) rows
  places_together = by (value_at key.domain index) (indexed.agrees.parts key.domain)
    where
      at_path : (start : ℕ) (o : Option Part) → PathAgrees (places_of rows) key.domain start key.path o
          → StandTogether (has_place key) rows
      at_path start None none = nowhere_together place_of (is_at key.domain key.path) rows none
      at_path start (Some part) own =
          span_together place_of (is_at key.domain key.path) rows (start + part.start) part.len own

      by : (o : Option DomainPart) → DomainAgrees (places_of rows) key.domain o → StandTogether (has_place key) rows
      by None none =
          nowhere_together place_of (is_at key.domain key.path) rows
          (λ i place e. ap (λ b. b && bytes_eq key.path place.path) (none i place e))
      by (Some part) own = at_path part.start (value_at key.path part.paths) (own.1 key.path)

pub indexed_grouped : (rows : List Row) (index : Index) → IsIndexed rows index → AreGrouped rows
indexed_grouped rows index indexed = record {
  domains = λ key. domains_together rows index indexed key;
  places = λ key. places_together rows index indexed key;
  apart = indexed.apart;
}

-- ---- a list behind whose last x goes

heads : {A : Type 0} (x y : A) (xs ys : List A) → x ∷ xs ≡ y ∷ ys → x ≡ y
heads x y xs ys e = cc

tails : {A : Type 0} (x y : A) (xs ys : List A) → x ∷ xs ≡ y ∷ ys → xs ≡ ys
tails x y xs ys e = cc

module _ {A : Type 0} (test : A → Bool) (x : A) (rest : List A) (own_test : test x ≡ true) where
  -- those that pass are the last ones
  record EndsSo (ys : List A) : Type 0 where
    pub front : List A
    pub own : List A
    pub split : ys ≡ front ++ own
    pub none : list_any test front ≡ false
    pub all : AllByRecursion (λ y. test y ≡ true) own

  x_passes : (ys : List A) → list_any test (ys ++ x ∷ rest) ≡ true
  x_passes ys =
      list_any-append test ys (x ∷ rest)
      ∙ or_right (list_any test ys) (list_any test (x ∷ rest)) (or_left (test x) (list_any test rest) own_test)

  run : (ys own after : List A) → ys ++ x ∷ rest ≡ own ++ after → AllByRecursion (λ y. test y ≡ true) own
      → list_any test after ≡ false → AllByRecursion (λ y. test y ≡ true) ys
  run [] own after e all none = tt
  run (y ∷ ys) [] after e all none =
      absurd (true≢false (sym (x_passes (y ∷ ys)) ∙ ap (list_any test) e ∙ none))
  run (y ∷ ys) (o ∷ own) after e all none = (
    ap test (heads y o (ys ++ x ∷ rest) (own ++ after) e) ∙ all.0,
    run ys own after (tails y o (ys ++ x ∷ rest) (own ++ after) e) all.1 none,
  )

  ends_so : (ys before own after : List A) → ys ++ x ∷ rest ≡ before ++ (own ++ after) → list_any test before ≡ false
      → AllByRecursion (λ y. test y ≡ true) own → list_any test after ≡ false → EndsSo ys
  ends_so [] before own after e first all last =
      record { front = []; own = []; split = refl; none = refl; all = tt }
  ends_so (y ∷ ys) [] own after e first all last =
      record { front = []; own = y ∷ ys; split = refl; none = refl; all = run (y ∷ ys) own after e all last }
  ends_so (y ∷ ys) (b ∷ before) own after e first all last =
      let p = or_parts (test b) (list_any test before) first in
      let r = ends_so ys before own after (tails y b (ys ++ x ∷ rest) (before ++ (own ++ after)) e) p.1 all last in
      record {
        front = y ∷ r.front;
        own = r.own;
        split = ap (λ l. y ∷ l) r.split;
        none = or_from (test y) (list_any test r.front)
            (ap test (heads y b (ys ++ x ∷ rest) (before ++ (own ++ after)) e) ∙ p.0) r.none;
        all = r.all;
      }

  goes_last : (ys : List A) → EndsSo ys → behind_last test x ys ≡ ys ++ x ∷ []
  goes_last ys e = by e.own e.split e.all
    where
      by : (own : List A) → ys ≡ e.front ++ own → AllByRecursion (λ y. test y ≡ true) own
          → behind_last test x ys ≡ ys ++ x ∷ []
      by [] split all =
          behind_last-none test x ys (ap (list_any test) (split ∙ append-nil e.front) ∙ e.none)
      by (o ∷ os) split all =
          ap (behind_last test x) (split ∙ ap (λ l. e.front ++ l) (sym (append-nil (o ∷ os))))
          ∙ behind_last-within test x e.front (o ∷ os) [] (or_left (test o) (list_any test os) all.0) refl
          ∙ ap (λ l. e.front ++ l)
          (append-nil (behind_last test x (o ∷ os)) ∙ behind_last-all test x (o ∷ os) all)
          ∙ sym (append_assoc e.front (o ∷ os) (x ∷ []))
          ∙ ap (λ l. l ++ x ∷ []) (sym split)

  pub put_behind : (ys : List A) → StandTogether test (ys ++ x ∷ rest) → behind_last test x ys ≡ ys ++ x ∷ []
  put_behind ys s =
      goes_last ys (ends_so ys s.before s.own s.after s.split s.none_before s.all_own s.none_after)

-- ---- rows that are grouped stay

other_key : (row r : Row) → has_key_of r row ≡ false → has_key_of row r ≡ false
other_key row r differs = by (has_key_of row r) refl
  where
    by : (b : Bool) → has_key_of row r ≡ b → has_key_of row r ≡ false
    by true is =
        absurd (true≢false (sym (ap (λ k. has_key k row) (sym (key_is (key_of row) r is)) ∙ has_own_key row)
        ∙ differs))
    by false is = is

none_of_key : (done rest : List Row) (row : Row) → HaveOwnKeys (done ++ row ∷ rest)
    → list_any (has_key_of row) done ≡ false
none_of_key [] rest row apart = refl
none_of_key (d ∷ done) rest row apart =
    let later = or_parts (list_any (has_key_of d) done) (list_any (has_key_of d) (row ∷ rest))
    (sym (list_any-append (has_key_of d) done (row ∷ rest)) ∙ apart.0) in
    or_from (has_key_of row d) (list_any (has_key_of row) done)
    (other_key row d (or_parts (has_key_of d row) (list_any (has_key_of d) rest) later.1).0)
    (none_of_key done rest row apart.1)

pub put_last : (done rest : List Row) (row : Row) → AreGrouped (done ++ row ∷ rest) → put row done ≡ done ++ row ∷ []
put_last done rest row g =
    cond-false (list_any (has_key_of row) done) _ _ (none_of_key done rest row g.apart)
    ∙ by (list_any (has_place_of row) done)
  where
    k : Key
    k = key_of row

    of_domain : has_domain_of row row ≡ true
    of_domain = text_is k.domain k.domain refl

    of_place : has_place_of row row ≡ true
    of_place = and_from (has_domain_of row row) (bytes_eq k.path k.path) of_domain (text_is k.path k.path refl)

    by : (b : Bool) → cond b (behind_last (has_place_of row) row done) (behind_last (has_domain_of row) row done)
        ≡ done ++ row ∷ []
    by true = put_behind (has_place_of row) row rest of_place done (g.places k)
    by false = put_behind (has_domain_of row) row rest of_domain done (g.domains k)

stay_behind : (rest done : List Row) → AreGrouped (done ++ rest) → put_all rest done ≡ done ++ rest
stay_behind [] done g = sym (append-nil done)
stay_behind (r ∷ rs) done g =
    ap (put_all rs) (put_last done rs r g)
    ∙ stay_behind rs (done ++ r ∷ []) (subst AreGrouped (sym (append_assoc done (r ∷ []) rs)) g)
    ∙ append_assoc done (r ∷ []) rs

pub grouped_stay : (rows : List Row) → AreGrouped rows → put_all rows [] ≡ rows
grouped_stay rows g = stay_behind rows [] g

-- ---- parts

module _ {A : Type 0} where
  part_of_more : (xs ys : List A) (y : A) → IsSublist xs ys → IsSublist xs (y ∷ ys)
  part_of_more [] ys y h = tt
  part_of_more (x ∷ xs) ys y h = inr h

  -- a part of two lists is a part of the one and a part of the other
  record CutPart (part xs ys : List A) : Type 0 where
    pub first : List A
    pub second : List A
    pub split : part ≡ first ++ second
    pub of_first : IsSublist first xs
    pub of_second : IsSublist second ys

  cut_part : (part xs ys : List A) → IsSublist part (xs ++ ys) → CutPart part xs ys
  cut_part part [] ys h = record { first = []; second = part; split = refl; of_first = tt; of_second = h }
  cut_part [] (x ∷ xs) ys h = record { first = []; second = []; split = refl; of_first = tt; of_second = tt }
  cut_part (p ∷ part) (x ∷ xs) ys (inl (is, h)) =
      let c = cut_part part xs ys h in
      record {
        first = p ∷ c.first;
        second = c.second;
        split = ap (λ l. p ∷ l) c.split;
        of_first = inl (is, c.of_first);
        of_second = c.of_second;
      }
  cut_part (p ∷ part) (x ∷ xs) ys (inr h) =
      let c = cut_part (p ∷ part) xs ys h in
      record {
        first = c.first;
        second = c.second;
        split = c.split;
        of_first = part_of_more c.first xs x c.of_first;
        of_second = c.of_second;
      }

  none_in_part : (test : A → Bool) (part xs : List A) → IsSublist part xs → list_any test xs ≡ false
      → list_any test part ≡ false
  none_in_part test [] xs h none = refl
  none_in_part test (p ∷ part) [] h none = absurd h
  none_in_part test (p ∷ part) (x ∷ xs) (inl (is, h)) none =
      let q = or_parts (test x) (list_any test xs) none in
      or_from (test p) (list_any test part) (ap test is ∙ q.0) (none_in_part test part xs h q.1)
  none_in_part test (p ∷ part) (x ∷ xs) (inr h) none =
      none_in_part test (p ∷ part) xs h (or_parts (test x) (list_any test xs) none).1

  all_in_part : (P : A → Type 0) (part xs : List A) → IsSublist part xs → AllByRecursion P xs → AllByRecursion P part
  all_in_part P [] xs h all = tt
  all_in_part P (p ∷ part) [] h all = absurd h
  all_in_part P (p ∷ part) (x ∷ xs) (inl (is, h)) all = (subst P (sym is) all.0, all_in_part P part xs h all.1)
  all_in_part P (p ∷ part) (x ∷ xs) (inr h) all = all_in_part P (p ∷ part) xs h all.1

  part_together : (test : A → Bool) (part xs : List A) → IsSublist part xs → StandTogether test xs
      → StandTogether test part
  part_together test part xs h s =
      let c = cut_part part s.before (s.own ++ s.after) (subst (IsSublist part) s.split h) in
      let d = cut_part c.second s.own s.after c.of_second in
      record {
        before = c.first;
        own = d.first;
        after = d.second;
        split = c.split ∙ ap (λ l. c.first ++ l) d.split;
        none_before = none_in_part test c.first s.before c.of_first s.none_before;
        all_own = all_in_part (λ x. test x ≡ true) d.first s.own d.of_first s.all_own;
        none_after = none_in_part test d.second s.after d.of_second s.none_after;
      }

  filter_part : (test : A → Bool) (xs : List A) → IsSublist (filter test xs) xs
  filter_part test [] = tt
  filter_part test (x ∷ xs) = by (test x) (filter_part test xs)
    where
      by : (b : Bool) → IsSublist (filter test xs) xs
          → IsSublist (cond b (x ∷ filter test xs) (filter test xs)) (x ∷ xs)
      by true rest = inl (refl, rest)
      by false rest = part_of_more (filter test xs) xs x rest

part_apart : (part rows : List Row) → IsSublist part rows → HaveOwnKeys rows → HaveOwnKeys part
part_apart [] rows h apart = tt
part_apart (p ∷ part) [] h apart = absurd h
part_apart (p ∷ part) (r ∷ rows) (inl (is, h)) apart = (
  ap (λ x. list_any (has_key_of x) part) is ∙ none_in_part (has_key_of r) part rows h apart.0,
  part_apart part rows h apart.1,
)
part_apart (p ∷ part) (r ∷ rows) (inr h) apart = part_apart (p ∷ part) rows h apart.1

pub part_grouped : (rows part : List Row) → AreGrouped rows → IsSublist part rows → AreGrouped part
part_grouped rows part g h = record {
  domains = λ key. part_together (has_domain key) part rows h (g.domains key);
  places = λ key. part_together (has_place key) part rows h (g.places key);
  apart = part_apart part rows h g.apart;
}

pub filter_grouped : (test : Row → Bool) (rows : List Row) → AreGrouped rows → AreGrouped (filter test rows)
filter_grouped test rows g = part_grouped rows (filter test rows) g (filter_part test rows)

pub parts_stay : PartsStay
parts_stay = record {
  grouped = part_grouped;
  stay = λ rows part g h. grouped_stay part (part_grouped rows part g h);
}

-- ---- rows that were reread

module _ {A B : Type 0} (P : A → B → Type 0) where
  -- what goes with two lists goes with the one and with the other
  record CutPairs (xs ys : List A) (zs : List B) : Type 0 where
    pub first : List B
    pub second : List B
    pub split : zs ≡ first ++ second
    pub with_first : Pairwise P xs first
    pub with_second : Pairwise P ys second

  cut_pairs : (xs ys : List A) (zs : List B) → Pairwise P (xs ++ ys) zs → CutPairs xs ys zs
  cut_pairs [] ys zs h = record { first = []; second = zs; split = refl; with_first = tt; with_second = h }
  cut_pairs (x ∷ xs) ys [] h = absurd h
  cut_pairs (x ∷ xs) ys (z ∷ zs) h =
      let c = cut_pairs xs ys zs h.1 in
      record {
        first = z ∷ c.first;
        second = c.second;
        split = ap (λ l. z ∷ l) c.split;
        with_first = (h.0, c.with_first);
        with_second = c.with_second;
      }

module _ (P : Row → Row → Type 0) (test : Row → Bool) (same : (r o : Row) → P r o → test o ≡ test r) where
  none_with : (xs ys : List Row) → Pairwise P xs ys → list_any test xs ≡ false → list_any test ys ≡ false
  none_with [] [] h none = refl
  none_with [] (y ∷ ys) h none = absurd h
  none_with (x ∷ xs) [] h none = absurd h
  none_with (x ∷ xs) (y ∷ ys) h none =
      let q = or_parts (test x) (list_any test xs) none in
      or_from (test y) (list_any test ys) (same x y h.0 ∙ q.0) (none_with xs ys h.1 q.1)

  all_with : (xs ys : List Row) → Pairwise P xs ys → AllByRecursion (λ x. test x ≡ true) xs
      → AllByRecursion (λ y. test y ≡ true) ys
  all_with [] [] h all = tt
  all_with [] (y ∷ ys) h all = absurd h
  all_with (x ∷ xs) [] h all = absurd h
  all_with (x ∷ xs) (y ∷ ys) h all = (same x y h.0 ∙ all.0, all_with xs ys h.1 all.1)

  together_with : (xs ys : List Row) → Pairwise P xs ys → StandTogether test xs → StandTogether test ys
  together_with xs ys h s =
      let c = cut_pairs P s.before (s.own ++ s.after) ys (subst (λ l. Pairwise P l ys) s.split h) in
      let d = cut_pairs P s.own s.after c.second c.with_second in
      record {
        before = c.first;
        own = d.first;
        after = d.second;
        split = c.split ∙ ap (λ l. c.first ++ l) d.split;
        none_before = none_with s.before c.first c.with_first s.none_before;
        all_own = all_with s.own d.first d.with_first s.all_own;
        none_after = none_with s.after d.second d.with_second s.none_after;
      }

same_place : (key : Key) (r o : Row) → IsReread r o → has_place key o ≡ has_place key r
same_place key r o h =
    λ i. has_place key (record r { domain = h.domain i; path = h.path i })

same_domain : (key : Key) (r o : Row) → IsReread r o → has_domain key o ≡ has_domain key r
same_domain key r o h = ap (λ d. bytes_eq key.domain (text_or_empty d)) h.domain

pub reread_grouped : (rows reread : List Row) → Pairwise IsReread rows reread → AreGrouped rows → HaveOwnKeys reread
    → AreGrouped reread
reread_grouped rows reread h g apart = record {
  domains = λ key. together_with IsReread (has_domain key) (same_domain key) rows reread h (g.domains key);
  places = λ key. together_with IsReread (has_place key) (same_place key) rows reread h (g.places key);
  apart = apart;
}

-- rows that are grouped when they were reread stand as they do where they are loaded
pub loaded_stay : (with_expired : Bool) (now : ℤ) (rows reread : List Row) → Pairwise IsReread rows reread
    → AreGrouped rows → HaveOwnKeys reread → loaded with_expired now reread ≡ chosen with_expired now reread
loaded_stay true now rows reread h g apart = grouped_stay reread (reread_grouped rows reread h g apart)
loaded_stay false now rows reread h g apart =
    grouped_stay (chosen false now reread) (filter_grouped (is_live now) reread (reread_grouped rows reread h g apart))
