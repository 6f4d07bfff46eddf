-- What a table with names as keys holds, as a finite map.
use Rattle.std.proofs.Common.{◌≡◌, ◌≢◌, ℕ, true, false, cond, List, [], ◌∷◌, sym, refl, ap, ◌∙◌, Some, None}
use Rattle.std.specs.Prelude.{string_bytes}
use Rattle.std.specs.declared.string.String.{String}
use Rattle.std.specs.List.{IsDistinct, AllByRecursion}
use Rattle.std.specs.Map.{lookup, keys_of}
use Rattle.std.specs.String.{string_eq}
use Rattle.std.specs.Str.{bytes_eq}
use Rattle.std.specs.Ordering.{nat_cmp, eq_by_cmp}
use Rattle.std.specs.Cmp.{eq_by_cmp_equiv}
use Rattle.std.specs.Cmp.Lexicographic.{slice_cmp, texts_ties}
use Rattle.std.specs.HashMap.{HashMap, UpdatesBy}
use Rattle.std.specs.FinMap as finmap
use Rattle.std.specs.FinMap.{same_map, get-insert, get-remove, get-from_entries, slice_cmp-IsAntisymmetric}
use Rattle.std.specs.FinMap.{nat_cmp-IsAntisymmetric}
use Rattle.std.proofs.lemmas.Cmp.{nat_list_cmp_total}
use Rattle.std.proofs.lemmas.Bool.{cond-false, both_ways}
use Rattle.std.proofs.lemmas.Slice.Eq.{bytes_eq-Decides}
use Rattle.std.proofs.lemmas.Map.Keys.{IsDistinct-head, IsDistinct-tail}
use Rattle.std.proofs.lemmas.Map.Text.{hash_map_updates_text}
use Rattle.cookie.specs.ByName.{ByName, Lists, HaveOwnNames, value_in, by_bytes}

-- ---- names that are one or two

pub same_name : (x y : List ℕ) → bytes_eq x y ≡ true → x ≡ y
same_name x y e = (bytes_eq-Decides x y).0 e

pub name_is : (x y : List ℕ) → x ≡ y → bytes_eq x y ≡ true
name_is x y e = (bytes_eq-Decides x y).1 e

pub names_differ : (x y : List ℕ) → bytes_eq x y ≡ false → x ≢ y
names_differ x y e same = both_ways _ e (name_is x y same)

-- the test by the order, either way round
pub ties : (x y : List ℕ) → eq_by_cmp (slice_cmp nat_cmp) x y ≡ bytes_eq x y
ties x y = sym (texts_ties x y)

pub ties_turned : (x y : List ℕ) → eq_by_cmp (slice_cmp nat_cmp) x y ≡ bytes_eq y x
ties_turned x y = (eq_by_cmp_equiv nat_list_cmp_total).symm x y ∙ ties y x

module _ {X : Type 0} where
  -- two maps that answer alike are one
  pub same_by_name : (m n : ByName X) → ((q : List ℕ) → finmap.get m q ≡ finmap.get n q) → m ≡ n
  same_by_name m n same = same_map nat_list_cmp_total (slice_cmp-IsAntisymmetric nat_cmp-IsAntisymmetric) m n same

  pub get_insert : (m : ByName X) (k : List ℕ) (v : X) (q : List ℕ)
      → finmap.get (finmap.insert m k v) q ≡ cond (bytes_eq q k) (Some v) (finmap.get m q)
  get_insert m k v q = get-insert nat_list_cmp_total m k v q ∙ ap (λ b. cond b (Some v) (finmap.get m q)) (ties q k)

  pub get_remove : (m : ByName X) (k q : List ℕ)
      → finmap.get (finmap.remove m k) q ≡ cond (bytes_eq q k) None (finmap.get m q)
  get_remove m k q = get-remove nat_list_cmp_total m k q ∙ ap (λ b. cond b None (finmap.get m q)) (ties q k)

  find_is_value_in : (es : List (List ℕ × X)) (q : List ℕ) → finmap.find (slice_cmp nat_cmp) q es ≡ value_in es q
  find_is_value_in [] q = refl
  find_is_value_in (e ∷ es) q =
      ap (λ b. cond b (Some e.1) (finmap.find (slice_cmp nat_cmp) q es)) (ties q e.0)
      ∙ ap (cond (bytes_eq q e.0) (Some e.1)) (find_is_value_in es q)

  -- the map of a list of entries
  abbrev pub map_of : List (List ℕ × X) → ByName X
  map_of es = finmap.from_entries es

  pub get_map_of : (es : List (List ℕ × X)) (q : List ℕ) → finmap.get (map_of es) q ≡ value_in es q
  get_map_of es q = get-from_entries nat_list_cmp_total es q ∙ find_is_value_in es q

module _ {X Y : Type 0} where
  value_in_lookup : (es : List (String Y × X)) (q : List ℕ)
      → value_in (by_bytes es) q ≡ lookup (λ k. bytes_eq q (string_bytes k)) es
  value_in_lookup [] q = refl
  value_in_lookup (e ∷ es) q = ap (cond (bytes_eq q (string_bytes e.0)) (Some e.1)) (value_in_lookup es q)

  pub get_by_bytes : (es : List (String Y × X)) (q : List ℕ)
      → finmap.get (map_of (by_bytes es)) q ≡ lookup (λ k. bytes_eq q (string_bytes k)) es
  get_by_bytes es q = get_map_of (by_bytes es) q ∙ value_in_lookup es q

  -- a table that was changed at one key
  module _ {S : Type 0} (m n : HashMap (String Y) X S) (k : List ℕ) where
    pub map_of_insert : (v : X) → UpdatesBy string_eq (λ x. bytes_eq k (string_bytes x)) m n (Some v)
        → map_of (by_bytes n.entries) ≡ finmap.insert (map_of (by_bytes m.entries)) k v
    map_of_insert v updates = same_by_name _ _ (λ q.
        get_by_bytes n.entries q
        ∙ hash_map_updates_text k m n (Some v) updates q
        ∙ (λ i. cond (sym (ties_turned q k) i) (Some v) (sym (get_by_bytes m.entries q) i))
        ∙ sym (get-insert nat_list_cmp_total (map_of (by_bytes m.entries)) k v q))

    pub map_of_remove : UpdatesBy string_eq (λ x. bytes_eq k (string_bytes x)) m n None
        → map_of (by_bytes n.entries) ≡ finmap.remove (map_of (by_bytes m.entries)) k
    map_of_remove updates = same_by_name _ _ (λ q.
        get_by_bytes n.entries q
        ∙ hash_map_updates_text k m n None updates q
        ∙ (λ i. cond (sym (ties_turned q k) i) None (sym (get_by_bytes m.entries q) i))
        ∙ sym (get-remove nat_list_cmp_total (map_of (by_bytes m.entries)) k q))

  -- ---- its entries list it

  none_of : (k : String Y) (es : List (String Y × X)) → AllByRecursion (λ y. string_eq k y ≡ false) (keys_of es)
      → value_in (by_bytes es) (string_bytes k) ≡ None
  none_of k [] h = refl
  none_of k (e ∷ es) h = cond-false _ _ _ h.0 ∙ none_of k es h.1

  apart_of : (es : List (String Y × X)) → IsDistinct string_eq (keys_of es) → HaveOwnNames (by_bytes es)
  apart_of [] h = tt
  apart_of (e ∷ es) h = (
    none_of e.0 es (IsDistinct-head string_eq e.0 (keys_of es) h),
    apart_of es (IsDistinct-tail string_eq e.0 (keys_of es) h),
  )

  pub entries_list : (es : List (String Y × X)) (now : ByName X) → IsDistinct string_eq (keys_of es)
      → map_of (by_bytes es) ≡ now → Lists (by_bytes es) (finmap.get now)
  entries_list es now distinct is = record {
    apart = apart_of es distinct;
    each = λ q. sym (get_map_of (by_bytes es) q) ∙ ap (λ m. finmap.get m q) is;
  }
