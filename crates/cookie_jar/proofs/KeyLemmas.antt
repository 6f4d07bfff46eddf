-- Rows whose keys are those of grouped rows are grouped, and stand as they do where they are loaded.
use Rattle.std.proofs.Common.{◌≡◌, ◌∙◌, ◌∷◌, [], ◌++◌, ◌&&◌, ◌||◌, ℤ, Bool, true, false, List, ap, refl, subst}
use Rattle.std.specs.List.{AllByRecursion, list_any}
use Rattle.std.specs.Str.{bytes_eq}
use Rattle.std.proofs.lemmas.Bool.{or_from, or_parts}
use Rattle.cookie_text.specs.ReadingBack.{Pairwise}
use Rattle.cookie_store.specs.Grouped.{AreGrouped, PartsStay, StandTogether}
use Rattle.cookie_store.specs.Placing.{loaded}
use Rattle.cookie_store.specs.Rows.{HaveOwnKeys, Key, Row, has_key, key_of, live}
use Rattle.cookie_jar.proofs.RowLemmas.{live_part}

module _ (P : Row → Row → Type 0) (same : (r o : Row) → P r o → key_of o ≡ key_of r) where
  -- what goes with two lists goes with the one and with the other
  record CutPairs (xs ys zs : List Row) : Type 0 where
    pub first : List Row
    pub second : List Row
    pub split : zs ≡ first ++ second
    pub with_first : Pairwise P xs first
    pub with_second : Pairwise P ys second

  cut_pairs : (xs ys zs : List Row) → Pairwise P (xs ++ ys) zs → CutPairs xs ys zs
  cut_pairs [] ys zs h = record { first = []; second = zs; split = refl; with_first = tt; with_second = h }
  cut_pairs (x ∷ xs) ys [] h = absurd h
  cut_pairs (x ∷ xs) ys (z ∷ zs) h =
      let c = cut_pairs xs ys zs h.1 in
      record {
        first = z ∷ c.first;
        second = c.second;
        split = ap (λ l. z ∷ l) c.split;
        with_first = (h.0, c.with_first);
        with_second = c.with_second;
      }

  -- tests that know a row's key alone
  module _ (test : Key → Bool) where
    none_with : (xs ys : List Row) → Pairwise P xs ys → list_any (λ r. test (key_of r)) xs ≡ false
        → list_any (λ r. test (key_of r)) ys ≡ false
    none_with [] [] h none = refl
    none_with [] (y ∷ ys) h none = absurd h
    none_with (x ∷ xs) [] h none = absurd h
    none_with (x ∷ xs) (y ∷ ys) h none =
        let q = or_parts (test (key_of x)) (list_any (λ r. test (key_of r)) xs) none in
        or_from (test (key_of y)) (list_any (λ r. test (key_of r)) ys) (ap test (same x y h.0) ∙ q.0)
        (none_with xs ys h.1 q.1)

    all_with : (xs ys : List Row) → Pairwise P xs ys → AllByRecursion (λ r. test (key_of r) ≡ true) xs
        → AllByRecursion (λ r. test (key_of r) ≡ true) ys
    all_with [] [] h all = tt
    all_with [] (y ∷ ys) h all = absurd h
    all_with (x ∷ xs) [] h all = absurd h
    all_with (x ∷ xs) (y ∷ ys) h all = (ap test (same x y h.0) ∙ all.0, all_with xs ys h.1 all.1)

    together_with : (xs ys : List Row) → Pairwise P xs ys → StandTogether (λ r. test (key_of r)) xs
        → StandTogether (λ r. test (key_of r)) ys
    together_with xs ys h s =
        let c = cut_pairs s.before (s.own ++ s.after) ys (subst (λ l. Pairwise P l ys) s.split h) in
        let d = cut_pairs s.own s.after c.second c.with_second in
        record {
          before = c.first;
          own = d.first;
          after = d.second;
          split = c.split ∙ ap (λ l. c.first ++ l) d.split;
          none_before = none_with s.before c.first c.with_first s.none_before;
          all_own = all_with s.own d.first d.with_first s.all_own;
          none_after = none_with s.after d.second d.with_second s.none_after;
        }

  -- whether the second key is the first, by its texts
  abbrev keyed : Key → Key → Bool
  keyed k l = (bytes_eq k.domain l.domain && bytes_eq k.path l.path) && bytes_eq k.name l.name

  any_with : (k l : Key) → k ≡ l → (rows others : List Row) → Pairwise P rows others
      → list_any (has_key k) others ≡ list_any (has_key l) rows
  any_with k l is [] [] h = refl
  any_with k l is [] (o ∷ os) h = absurd h
  any_with k l is (r ∷ rs) [] h = absurd h
  any_with k l is (r ∷ rs) (o ∷ os) h =
      λ i. keyed (is i) (same r o h.0 i) || any_with k l is rs os h.1 i

  apart_with : (rows others : List Row) → Pairwise P rows others → HaveOwnKeys rows → HaveOwnKeys others
  apart_with [] [] h apart = tt
  apart_with [] (o ∷ os) h apart = absurd h
  apart_with (r ∷ rs) [] h apart = absurd h
  apart_with (r ∷ rs) (o ∷ os) h apart =
      (any_with (key_of o) (key_of r) (same r o h.0) rs os h.1 ∙ apart.0, apart_with rs os h.1 apart.1)

  grouped_with : (rows others : List Row) → Pairwise P rows others → AreGrouped rows → AreGrouped others
  grouped_with rows others h g = record {
    domains = λ k. together_with (λ l. bytes_eq k.domain l.domain) rows others h (g.domains k);
    places = λ k. together_with (λ l. bytes_eq k.domain l.domain && bytes_eq k.path l.path) rows others h (g.places k);
    apart = apart_with rows others h g.apart;
  }

  -- where they are loaded, they stand as they do
  pub loaded_with : (parts : PartsStay) (now : ℤ) (rows others : List Row) → Pairwise P rows others
      → AreGrouped rows → loaded false now others ≡ live now others
  loaded_with parts now rows others h g =
      parts.stay others (live now others) (grouped_with rows others h g) (live_part now others)
