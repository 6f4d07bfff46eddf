-- The names of an index after one row more and after one fewer.
use Rattle.std.proofs.Common.{◌≡◌, ◌≢◌, ◌+◌, ◌-◌, ◌<◌, ◌≤◌, ◌++◌, ◌||◌, ◌&&◌, ◌∙◌, ℕ, zero, suc, Bool, true, false}
use Rattle.std.proofs.Common.{cond, List, [], ◌∷◌, length, map, refl, sym, ap, subst, arith}
use Rattle.std.specs.Prelude.{Option, Some, None, filter, slice_get, option_map, position, string_bytes}
use Rattle.std.specs.List.{insert, list_any, remove}
use Rattle.std.specs.Str.{bytes_eq}
use Rattle.std.specs.String.{string_eq}
use Rattle.std.specs.declared.string.String.{String}
use Rattle.std.proofs.lemmas.Bool.{cond-true, cond-false}
use Rattle.std.proofs.lemmas.List.{map-append}
use Rattle.std.proofs.lemmas.Option.{none-some, same_Some, slice_get_within}
use Rattle.indexmap.specs.IndexSet.{insert_key}
use Rattle.place_index.specs.Entries.{value_at}
use Rattle.place_index.specs.Index.{Agrees, BeginsDomain, BeginsPath, DomainAgrees, DomainPart, GrowsPath, Index}
use Rattle.place_index.specs.Index.{IsNowhere}
use Rattle.place_index.specs.Index.{IsPart, NamesAgree, PartsAgree, OthersMove, PathAgrees, last, moved_domain}
use Rattle.place_index.specs.Index.{moved_path, names_at}
use Rattle.place_index.specs.Index.{names_in, names_of}
use Rattle.place_index.specs.Places.{Place, is_at, is_of, is_same}
use Rattle.place_index.specs.Taking.{EndsDomain, EndsPath, OthersMoveBack, ShrinksPath, domain_back, path_back}
use Rattle.place_index.specs.Parts.{Part}
use Rattle.place_index.proofs.EntryLemmas.{position-step, same_text}
use Rattle.place_index.proofs.IndexLemmas.{begins_domain, begins_path, domain_no_path, foreign, foreign_path}
use Rattle.place_index.proofs.IndexLemmas.{grows_path}
use Rattle.place_index.proofs.IndexLemmas.{own_path, text_cases, value_at-with_other, value_at-with_value}
use Rattle.place_index.proofs.IndexOutLemmas.{ends_domain, ends_path, in_part, shrinks_path}
use Rattle.place_index.proofs.StartLemmas.{one_less, still_none}
use Rattle.place_index.proofs.TakingLemmas.{texts_fail}

-- ---- those of a list that pass

module _ {A : Type 0} (test : A → Bool) where
  pub filter-nowhere : (xs : List A) → IsNowhere test xs → filter test xs ≡ []
  filter-nowhere [] none = refl
  filter-nowhere (y ∷ ys) none =
      cond-false (test y) _ _ (none 0 y refl) ∙ filter-nowhere ys (λ i x e. none (suc i) x e)

  filter-insert_other : (xs : List A) (p : ℕ) (x : A) → p ≤ length xs → test x ≡ false
      → filter test (insert xs p x) ≡ filter test xs
  filter-insert_other [] zero x le fails = cond-false (test x) _ _ fails
  filter-insert_other [] (suc p) x le fails = absurd (omega (arith, le))
  filter-insert_other (y ∷ ys) zero x le fails = cond-false (test x) _ _ fails
  filter-insert_other (y ∷ ys) (suc p) x le fails =
      ap (λ zs. cond (test y) (y ∷ zs) zs) (filter-insert_other ys p x (omega (arith, le)) fails)

  -- one that passes, behind all that do
  filter-insert_last : (xs : List A) (p : ℕ) (x : A) → p ≤ length xs → test x ≡ true
      → ((i : ℕ) (y : A) → p ≤ i → slice_get xs i ≡ Some y → test y ≡ false)
      → filter test (insert xs p x) ≡ filter test xs ++ x ∷ []
  filter-insert_last [] zero x le passes behind = cond-true (test x) _ _ passes
  filter-insert_last [] (suc p) x le passes behind = absurd (omega (arith, le))
  filter-insert_last (y ∷ ys) zero x le passes behind =
      let none = filter-nowhere (y ∷ ys) (λ i z e. behind i z (omega arith) e) in
      cond-true (test x) _ _ passes ∙ ap (λ zs. x ∷ zs) none ∙ sym (ap (λ zs. zs ++ x ∷ []) none)
  filter-insert_last (y ∷ ys) (suc p) x le passes behind =
      by (test y)
      (filter-insert_last ys p x (omega (arith, le)) passes (λ i z l e. behind (suc i) z (omega (arith, l)) e))
    where
      by : (b : Bool) → filter test (insert ys p x) ≡ filter test ys ++ x ∷ []
          → cond b (y ∷ filter test (insert ys p x)) (filter test (insert ys p x))
          ≡ cond b (y ∷ filter test ys) (filter test ys) ++ x ∷ []
      by true e = ap (λ zs. y ∷ zs) e
      by false e = e

  filter-remove_other : (xs : List A) (p : ℕ) (x : A) → slice_get xs p ≡ Some x → test x ≡ false
      → filter test (remove xs p) ≡ filter test xs
  filter-remove_other [] p x at fails = absurd (none-some x at)
  filter-remove_other (y ∷ ys) zero x at fails =
      sym (cond-false (test y) _ _ (ap test (same_Some y x at) ∙ fails))
  filter-remove_other (y ∷ ys) (suc p) x at fails =
      ap (λ zs. cond (test y) (y ∷ zs) zs) (filter-remove_other ys p x at fails)

  remove_first : (xs : List A) (k : ℕ) → k < length xs
      → ((i : ℕ) (y : A) → i ≤ k → slice_get xs i ≡ Some y → test y ≡ true)
      → filter test (remove xs k) ≡ remove (filter test xs) k
  remove_first [] k less inside = absurd (omega (arith, less))
  remove_first (y ∷ ys) zero less inside =
      sym (ap (λ zs. remove zs 0) (cond-true (test y) _ _ (inside 0 y (omega arith) refl)))
  remove_first (y ∷ ys) (suc k) less inside =
      let passes = inside 0 y (omega arith) refl in
      cond-true (test y) _ _ passes
      ∙ ap (λ zs. y ∷ zs) (remove_first ys k (omega (arith, less)) (λ i z l e. inside (suc i) z (omega (arith, l)) e))
      ∙ sym (ap (λ zs. remove zs (suc k)) (cond-true (test y) _ _ passes))

  -- the k-th of those that pass, which stand together
  filter-remove_own : (xs : List A) (p start k : ℕ) → p ≡ start + k → p < length xs
      → ((i : ℕ) (y : A) → i < start → slice_get xs i ≡ Some y → test y ≡ false)
      → ((i : ℕ) (y : A) → start ≤ i → i ≤ p → slice_get xs i ≡ Some y → test y ≡ true)
      → filter test (remove xs p) ≡ remove (filter test xs) k
  filter-remove_own [] p start k at less before inside = absurd (omega (arith, less))
  filter-remove_own (y ∷ ys) p zero k at less before inside =
      let is : p ≡ k = omega (arith, at) in
      ap (λ n. filter test (remove (y ∷ ys) n)) is
      ∙ remove_first (y ∷ ys) k (omega (arith, less, is)) (λ i z l e. inside i z (omega arith) (omega (arith, l, is)) e)
  filter-remove_own (y ∷ ys) zero (suc start) k at less before inside = absurd (omega (arith, at))
  filter-remove_own (y ∷ ys) (suc p) (suc start) k at less before inside =
      let fails = before 0 y (omega arith) refl in
      cond-false (test y) _ _ fails
      ∙ filter-remove_own ys p start k (omega (arith, at)) (omega (arith, less))
      (λ i z l e. before (suc i) z (omega (arith, l)) e)
      (λ i z l m e. inside (suc i) z (omega (arith, l)) (omega (arith, m)) e)
      ∙ sym (ap (λ zs. remove zs k) (cond-false (test y) _ _ fails))

  pub filter-passes : (xs : List A) (k : ℕ) (y : A) → slice_get (filter test xs) k ≡ Some y → test y ≡ true
  filter-passes [] k y at = absurd (none-some y at)
  filter-passes (x ∷ xs) k y at = by (test x) refl k at (λ j e. filter-passes xs j y e)
    where
      by : (b : Bool) → test x ≡ b → (j : ℕ) → slice_get (cond b (x ∷ filter test xs) (filter test xs)) j ≡ Some y
          → ((i : ℕ) → slice_get (filter test xs) i ≡ Some y → test y ≡ true) → test y ≡ true
      by true passes zero e rest = ap test (sym (same_Some x y e)) ∙ passes
      by true passes (suc j) e rest = rest j e
      by false fails j e rest = rest j e

  at_first : (xs : List A) (len k : ℕ) (y : A)
      → ((i : ℕ) (z : A) → i < len → slice_get xs i ≡ Some z → test z ≡ true)
      → ((i : ℕ) (z : A) → len ≤ i → slice_get xs i ≡ Some z → test z ≡ false)
      → slice_get (filter test xs) k ≡ Some y → slice_get xs k ≡ Some y
  at_first [] len k y inside after at = at
  at_first (x ∷ xs) zero k y inside after at =
      let none = filter-nowhere (x ∷ xs) (λ i z e. after i z (omega arith) e) in
      absurd (none-some y (ap (λ zs. slice_get zs k) (sym none) ∙ at))
  at_first (x ∷ xs) (suc len) zero y inside after at =
      ap (λ zs. slice_get zs 0) (sym (cond-true (test x) _ _ (inside 0 x (omega arith) refl))) ∙ at
  at_first (x ∷ xs) (suc len) (suc k) y inside after at =
      at_first xs len k y (λ i z l e. inside (suc i) z (omega (arith, l)) e)
      (λ i z l e. after (suc i) z (omega (arith, l)) e)
      (ap (λ zs. slice_get zs (suc k)) (sym (cond-true (test x) _ _ (inside 0 x (omega arith) refl))) ∙ at)

  -- the k-th of those that pass, which stand together from `start` on
  filter_from : (xs : List A) (start len n k : ℕ) (y : A) → n ≡ start + k
      → ((i : ℕ) (z : A) → i < start → slice_get xs i ≡ Some z → test z ≡ false)
      → ((i : ℕ) (z : A) → start ≤ i → i < start + len → slice_get xs i ≡ Some z → test z ≡ true)
      → ((i : ℕ) (z : A) → start + len ≤ i → slice_get xs i ≡ Some z → test z ≡ false)
      → slice_get (filter test xs) k ≡ Some y → slice_get xs n ≡ Some y
  filter_from [] start len n k y is before inside after at = absurd (none-some y at)
  filter_from (x ∷ xs) zero len n k y is before inside after at =
      let same : n ≡ k = omega (arith, is) in
      ap (slice_get (x ∷ xs)) same
      ∙ at_first (x ∷ xs) len k y (λ i z l e. inside i z (omega arith) (omega (arith, l)) e)
      (λ i z l e. after i z (omega (arith, l)) e) at
  filter_from (x ∷ xs) (suc start) len zero k y is before inside after at = absurd (omega (arith, is))
  filter_from (x ∷ xs) (suc start) len (suc n) k y is before inside after at =
      filter_from xs start len n k y (omega (arith, is)) (λ i z l e. before (suc i) z (omega (arith, l)) e)
      (λ i z l m e. inside (suc i) z (omega (arith, l)) (omega (arith, m)) e)
      (λ i z l e. after (suc i) z (omega (arith, l)) e)
      (ap (λ zs. slice_get zs k) (sym (cond-false (test x) _ _ (before 0 x (omega arith) refl))) ∙ at)

  pub filter_at : (xs : List A) (start len k : ℕ) (y : A) → IsPart test xs start len
      → slice_get (filter test xs) k ≡ Some y → slice_get xs (start + k) ≡ Some y
  filter_at xs start len k y part at =
      filter_from xs start len (start + k) k y refl part.before part.inside part.after at

pub map-remove : {A B : Type 0} (f : A → B) (xs : List A) (k : ℕ) → map f (remove xs k) ≡ remove (map f xs) k
map-remove f [] zero = refl
map-remove f [] (suc k) = refl
map-remove f (x ∷ xs) zero = refl
map-remove f (x ∷ xs) (suc k) = ap (λ ys. f x ∷ ys) (map-remove f xs k)

-- ---- a name among names

module _ (name : List ℕ) where
  pub position-found : (names : List (List ℕ)) (k : ℕ) → position (bytes_eq name) names ≡ Some k
      → slice_get names k ≡ Some name
  position-found [] k is = absurd (none-some k is)
  position-found (t ∷ ts) k is =
      by (bytes_eq name t) refl (sym (position-step (bytes_eq name) t ts) ∙ is) (λ j e. position-found ts j e)
    where
      by : (b : Bool) → bytes_eq name t ≡ b → cond b (Some 0) (option_map suc (position (bytes_eq name) ts)) ≡ Some k
          → ((j : ℕ) → position (bytes_eq name) ts ≡ Some j → slice_get ts j ≡ Some name)
          → slice_get (t ∷ ts) k ≡ Some name
      by true same e rest =
          ap (slice_get (t ∷ ts)) (sym (same_Some 0 k e)) ∙ ap Some (sym (same_text name t same))
      by false fails e rest =
          let before = one_less (position (bytes_eq name) ts) k e in
          ap (slice_get (t ∷ ts)) (sym before.2) ∙ rest before.0 before.1

  pub position-none : (names : List (List ℕ)) → position (bytes_eq name) names ≡ None
      → list_any (bytes_eq name) names ≡ false
  position-none [] none = refl
  position-none (t ∷ ts) none =
      by (bytes_eq name t) (sym (position-step (bytes_eq name) t ts) ∙ none) (λ e. position-none ts e)
    where
      by : (b : Bool) → cond b (Some 0) (option_map suc (position (bytes_eq name) ts)) ≡ None
          → (position (bytes_eq name) ts ≡ None → list_any (bytes_eq name) ts ≡ false)
          → (b || list_any (bytes_eq name) ts) ≡ false
      by true e rest = absurd (none-some 0 (sym e))
      by false e rest = rest (still_none (position (bytes_eq name) ts) e)

-- ---- names as texts

module _ {Y : Type 0} where
  pub position-by_bytes : (name : List ℕ) (texts : List (String Y))
      → position (λ t. bytes_eq name (string_bytes t)) texts ≡ position (bytes_eq name) (map string_bytes texts)
  position-by_bytes name [] = refl
  position-by_bytes name (t ∷ ts) =
      position-step (λ t. bytes_eq name (string_bytes t)) t ts
      ∙ ap (λ o. cond (bytes_eq name (string_bytes t)) (Some 0) (option_map suc o)) (position-by_bytes name ts)
      ∙ sym (position-step (bytes_eq name) (string_bytes t) (map string_bytes ts))

  any-by_bytes : (text : String Y) (texts : List (String Y))
      → list_any (string_eq text) texts ≡ list_any (bytes_eq (string_bytes text)) (map string_bytes texts)
  any-by_bytes text [] = refl
  any-by_bytes text (t ∷ ts) = ap (λ b. string_eq text t || b) (any-by_bytes text ts)

  pub insert_key-new : (text : String Y) (name : List ℕ) (texts : List (String Y)) → string_bytes text ≡ name
      → list_any (bytes_eq name) (map string_bytes texts) ≡ false
      → map string_bytes (insert_key string_eq texts text) ≡ map string_bytes texts ++ name ∷ []
  insert_key-new text name texts is none =
      ap (map string_bytes)
      (cond-false (list_any (string_eq text) texts) texts (texts ++ text ∷ [])
      (any-by_bytes text texts ∙ ap (λ t. list_any (bytes_eq t) (map string_bytes texts)) is ∙ none))
      ∙ map-append string_bytes texts (text ∷ [])
      ∙ ap (λ t. map string_bytes texts ++ t ∷ []) is

-- the names at a place have a name where some row is the place's
pub any_named : (place : Place) (rows : List Place)
    → list_any (bytes_eq place.name) (names_at place.domain place.path rows) ≡ list_any (is_same place) rows
any_named place [] = refl
any_named place (r ∷ rs) = by (is_at place.domain place.path r) (any_named place rs)
  where
    test : Place → Bool
    test = is_at place.domain place.path

    by : (b : Bool)
        → list_any (bytes_eq place.name) (names_at place.domain place.path rs) ≡ list_any (is_same place) rs
        → list_any (bytes_eq place.name) (map (λ row. row.name) (cond b (r ∷ filter test rs) (filter test rs)))
        ≡ ((b && bytes_eq place.name r.name) || list_any (is_same place) rs)
    by true e = ap (λ c. bytes_eq place.name r.name || c) e
    by false e = e

-- ---- the names stay

names_moved : (p : ℕ) (path : List ℕ) (part : Option DomainPart)
    → names_in path (option_map (moved_domain p) part) ≡ names_in path part
names_moved p path None = refl
names_moved p path (Some part) = refl

names_back : (p : ℕ) (path : List ℕ) (part : Option DomainPart)
    → names_in path (option_map (domain_back p) part) ≡ names_in path part
names_back p path None = refl
names_back p path (Some part) = refl

path_names_moved : (p : ℕ) (part : Option Part) → names_of (option_map (moved_path p) part) ≡ names_of part
path_names_moved p None = refl
path_names_moved p (Some part) = refl

path_names_back : (p : ℕ) (part : Option Part) → names_of (option_map (path_back p) part) ≡ names_of part
path_names_back p None = refl
path_names_back p (Some part) = refl

-- ---- one row more

module _ (rows : List Place) (x : Place) (p : ℕ) (old new : Index) (names : NamesAgree rows old)
    (le : p ≤ length rows) where
  -- a domain or a path that isn't x's
  names_beside : (domain path : List ℕ) → is_at domain path x ≡ false
      → names_in path (value_at domain new) ≡ names_in path (value_at domain old)
      → names_in path (value_at domain new) ≡ names_at domain path (insert rows p x)
  names_beside domain path fails same =
      same ∙ names domain path
      ∙ sym (ap (map (λ row. row.name)) (filter-insert_other (is_at domain path) rows p x le fails))

  names_more : ((i : ℕ) (y : Place) → p ≤ i → slice_get rows i ≡ Some y → is_at x.domain x.path y ≡ false)
      → names_in x.path (value_at x.domain new) ≡ names_in x.path (value_at x.domain old) ++ x.name ∷ []
      → ((path : List ℕ) → path ≢ x.path
      → names_in path (value_at x.domain new) ≡ names_in path (value_at x.domain old))
      → ((domain path : List ℕ) → domain ≢ x.domain
      → names_in path (value_at domain new) ≡ names_in path (value_at domain old))
      → NamesAgree (insert rows p x) new
  names_more behind own paths domains domain path = text_cases domain x.domain
      (λ e. subst (λ t. names_in path (value_at t new) ≡ names_at t path (insert rows p x)) (sym e)
      (text_cases path x.path
      (λ f. subst (λ t. names_in t (value_at x.domain new) ≡ names_at x.domain t (insert rows p x)) (sym f) mine)
      (λ d. names_beside x.domain path (foreign_path x path d) (paths path d))))
      (λ d. names_beside domain path (domain_no_path domain path x (foreign x domain d)) (domains domain path d))
    where
      mine : names_in x.path (value_at x.domain new) ≡ names_at x.domain x.path (insert rows p x)
      mine =
          own ∙ ap (λ ns. ns ++ x.name ∷ []) (names x.domain x.path)
          ∙ sym (ap (map (λ row. row.name))
          (filter-insert_last (is_at x.domain x.path) rows p x le (own_path x) behind)
          ∙ map-append (λ (row : Place). row.name) (filter (is_at x.domain x.path) rows) (x ∷ []))

module _ (rows : List Place) (x : Place) (p : ℕ) (old new : Index) (agrees : Agrees rows old)
    (small : length rows ≤ last) where
  own_part : (part : Option DomainPart) → value_at x.domain old ≡ part → DomainAgrees rows x.domain part
  own_part part is = subst (DomainAgrees rows x.domain) is (agrees.parts x.domain)

  others_stay : OthersMove p x.domain old new → (domain path : List ℕ) → domain ≢ x.domain
      → names_in path (value_at domain new) ≡ names_in path (value_at domain old)
  others_stay others domain path d =
      ap (names_in path) (others domain d) ∙ names_moved p path (value_at domain old)

  pub domain_begun : p ≡ length rows → BeginsDomain x p old new → Agrees (insert rows p x) new
  domain_begun at b = record {
    parts = begins_domain rows x p old new agrees.parts small at b;
    names = names_more rows x p old new agrees.names (omega (arith, at))
        (λ i y l e. let within = slice_get_within rows i y e in absurd (omega (arith, within, l, at)))
        (ap (names_in x.path) b.begun ∙ ap names_of first_there
        ∙ sym (ap (λ part. names_in x.path part ++ x.name ∷ []) b.absent))
        (λ path d. ap (names_in path) b.begun
        ∙ ap names_of (cond-false (bytes_eq path x.path) _ _ (texts_fail path x.path d))
        ∙ sym (ap (names_in path) b.absent))
        (λ domain path d. ap (names_in path) (b.others domain d));
  }
    where
      first : Part
      first = record { start = 0; len = 1; names = x.name ∷ [] }

      first_there : value_at x.path ((x.path, first) ∷ []) ≡ Some first
      first_there = value_at-with_value x.path [] first

  pub path_begun : BeginsPath x p old new → Agrees (insert rows p x) new
  path_begun b = record {
    parts = begins_path rows x p old new agrees.parts small b;
    names = names_more rows x p old new agrees.names within
        (λ i y l e. nowhere i y e)
        (ap (names_in x.path) b.grown ∙ ap names_of (value_at-with_value x.path b.part.paths first)
        ∙ sym (ap (λ part. names_in x.path part ++ x.name ∷ []) b.there
        ∙ ap (λ part. names_of part ++ x.name ∷ []) b.absent))
        (λ path d. ap (names_in path) b.grown
        ∙ ap names_of (value_at-with_other x.path path b.part.paths first (texts_fail path x.path d))
        ∙ sym (ap (names_in path) b.there))
        (others_stay b.others);
  }
    where
      first : Part
      first = record { start = b.part.len; len = 1; names = x.name ∷ [] }

      own : DomainAgrees rows x.domain (Some b.part)
      own = own_part (Some b.part) b.there

      within : p ≤ length rows
      within = let w = own.0.within in let at = b.at in omega (arith, w, at)

      nowhere : IsNowhere (is_at x.domain x.path) rows
      nowhere = subst (PathAgrees rows x.domain b.part.start x.path) b.absent (own.1 x.path)

  pub path_grown : GrowsPath x p old new → Agrees (insert rows p x) new
  path_grown b = record {
    parts = grows_path rows x p old new agrees.parts small b;
    names = names_more rows x p old new agrees.names within
        (λ i y l e. mine.after i y (omega (arith, l, at)) e)
        (ap (names_in x.path) b.grown ∙ ap names_of b.path_grown
        ∙ sym (ap (λ part. names_in x.path part ++ x.name ∷ []) b.there
        ∙ ap (λ part. names_of part ++ x.name ∷ []) b.path_there))
        (λ path d. ap (names_in path) b.grown
        ∙ ap names_of (b.other_paths path d)
        ∙ path_names_moved (b.path.start + b.path.len) (value_at path b.part.paths)
        ∙ sym (ap (names_in path) b.there))
        (others_stay b.others);
  }
    where
      at : p ≡ b.part.start + (b.path.start + b.path.len)
      at = b.at

      mine : IsPart (is_at x.domain x.path) rows (b.part.start + b.path.start) b.path.len
      mine =
          subst (PathAgrees rows x.domain b.part.start x.path) b.path_there
          ((own_part (Some b.part) b.there).1 x.path)

      within : p ≤ length rows
      within = let w = mine.within in omega (arith, w, at)

-- ---- one row fewer

module _ (rows : List Place) (x : Place) (p : ℕ) (old new : Index) (agrees : Agrees rows old)
    (there : slice_get rows p ≡ Some x) where
  names_beside_out : (domain path : List ℕ) → is_at domain path x ≡ false
      → names_in path (value_at domain new) ≡ names_in path (value_at domain old)
      → names_in path (value_at domain new) ≡ names_at domain path (remove rows p)
  names_beside_out domain path fails same =
      same ∙ agrees.names domain path
      ∙ sym (ap (map (λ row. row.name)) (filter-remove_other (is_at domain path) rows p x there fails))

  names_fewer : ((path : List ℕ) → names_in path (value_at x.domain new) ≡ names_at x.domain path (remove rows p))
      → OthersMoveBack p x.domain old new → NamesAgree (remove rows p) new
  names_fewer own others domain path = text_cases domain x.domain
      (λ e. subst (λ t. names_in path (value_at t new) ≡ names_at t path (remove rows p)) (sym e) (own path))
      (λ d. names_beside_out domain path (domain_no_path domain path x (foreign x domain d))
      (ap (names_in path) (others domain d) ∙ names_back p path (value_at domain old)))

  no_names : (domain path : List ℕ) → IsNowhere (is_at domain path) (remove rows p)
      → [] ≡ names_at domain path (remove rows p)
  no_names domain path none =
      sym (ap (map (λ row. row.name)) (filter-nowhere (is_at domain path) (remove rows p) none))

  pub domain_ended : EndsDomain x p old new → Agrees (remove rows p) new
  domain_ended b = record {
    parts = ends_domain rows x p old new agrees.parts there b;
    names = names_fewer
        (λ path. ap (names_in path) b.ended
        ∙ no_names x.domain path (λ i y e. domain_no_path x.domain path y (nowhere i y e))) b.others;
  }
    where
      nowhere : IsNowhere (is_of x.domain) (remove rows p)
      nowhere =
          subst (DomainAgrees (remove rows p) x.domain) b.ended
          (ends_domain rows x p old new agrees.parts there b x.domain)

  -- the names of the paths of x's domain, which has others
  module _ (part : DomainPart) (had : value_at x.domain old ≡ Some part) (start len : ℕ)
      (paths : List (List ℕ × Part))
      (shrunk : value_at x.domain new ≡ Some (record { start = start; len = len; paths = paths })) (q : ℕ)
      (others : (text : List ℕ) → text ≢ x.path
      → value_at text paths ≡ option_map (path_back q) (value_at text part.paths)) where
    own_names : names_of (value_at x.path paths) ≡ names_at x.domain x.path (remove rows p)
        → (path : List ℕ) → names_in path (value_at x.domain new) ≡ names_at x.domain path (remove rows p)
    own_names own path = text_cases path x.path
        (λ e. subst (λ t. names_in t (value_at x.domain new) ≡ names_at x.domain t (remove rows p)) (sym e)
        (ap (names_in x.path) shrunk ∙ own))
        (λ d. names_beside_out x.domain path (foreign_path x path d)
        (ap (names_in path) shrunk ∙ ap names_of (others path d) ∙ path_names_back q (value_at path part.paths)
        ∙ sym (ap (names_in path) had)))

  pub path_ended : EndsPath x p old new → Agrees (remove rows p) new
  path_ended b = record {
    parts = parts;
    names = names_fewer
        (own_names b.part b.there b.part.start (b.part.len - 1) b.paths b.shrunk (p - b.part.start) b.other_paths
        (ap names_of b.path_ended ∙ no_names x.domain x.path nowhere)) b.others;
  }
    where
      parts : PartsAgree (remove rows p) new
      parts = ends_path rows x p old new agrees.parts there b

      nowhere : IsNowhere (is_at x.domain x.path) (remove rows p)
      nowhere =
          subst (PathAgrees (remove rows p) x.domain b.part.start x.path) b.path_ended
          ((subst (DomainAgrees (remove rows p) x.domain) b.shrunk (parts x.domain)).1 x.path)

  pub path_shrunk : ShrinksPath x p old new → Agrees (remove rows p) new
  path_shrunk b = record {
    parts = shrinks_path rows x p old new agrees.parts there b;
    names = names_fewer
        (own_names b.part b.there b.part.start (b.part.len - 1) b.paths b.shrunk (p - b.part.start) b.other_paths
        (ap names_of b.path_shrunk ∙ left)) b.others;
  }
    where
      k : ℕ
      k = p - b.part.start - b.path.start

      mine : IsPart (is_at x.domain x.path) rows (b.part.start + b.path.start) b.path.len
      mine =
          subst (PathAgrees rows x.domain b.part.start x.path) b.path_there
          ((subst (DomainAgrees rows x.domain) b.there (agrees.parts x.domain)).1 x.path)

      inside : (b.part.start + b.path.start ≤ p) × (p < b.part.start + b.path.start + b.path.len)
      inside = in_part rows p x there (is_at x.domain x.path) (b.part.start + b.path.start) b.path.len mine (own_path x)

      low : b.part.start + b.path.start ≤ p
      low = inside.0

      high : p < b.part.start + b.path.start + b.path.len
      high = inside.1

      had : b.path.names ≡ names_at x.domain x.path rows
      had =
          sym (ap (names_in x.path) b.there ∙ ap names_of b.path_there) ∙ agrees.names x.domain x.path

      left : remove b.path.names k ≡ names_at x.domain x.path (remove rows p)
      left =
          ap (λ ns. remove ns k) had
          ∙ sym (map-remove (λ (row : Place). row.name) (filter (is_at x.domain x.path) rows) k)
          ∙ sym (ap (map (λ row. row.name))
          (filter-remove_own (is_at x.domain x.path) rows p (b.part.start + b.path.start) k (omega (arith, low))
          (slice_get_within rows p x there) mine.before
          (λ i y l m e. mine.inside i y l (omega (arith, m, high)) e)))
