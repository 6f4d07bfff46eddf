-- Rows that stand in groups, as those of each store do, and what becomes of parts of them (own: docs/DEFINITIONS.md).
use Rattle.std.specs.Prelude.{◌≡◌, ◌⊎◌, List, [], ◌∷◌, ◌++◌, Bool, true, false}
use Rattle.std.specs.List.{list_any, AllByRecursion}
use Rattle.cookie_store.specs.Placing.{put_all}
use Rattle.cookie_store.specs.Rows.{Row, Key, HaveOwnKeys, has_domain, has_place}

-- the elements that pass the test stand together: no other one is between two of them
pub record StandTogether {A : Type 0} (test : A → Bool) (xs : List A) : Type 0 where
  pub before : List A
  pub own : List A
  pub after : List A
  pub split : xs ≡ before ++ (own ++ after)
  pub none_before : list_any test before ≡ false
  pub all_own : AllByRecursion (λ x. test x ≡ true) own
  pub none_after : list_any test after ≡ false

-- the rows of each domain stand together, so do those of each domain and path, and no two rows have one key
pub record AreGrouped (rows : List Row) : Type 0 where
  pub domains : (key : Key) → StandTogether (has_domain key) rows
  pub places : (key : Key) → StandTogether (has_place key) rows
  pub apart : HaveOwnKeys rows

-- ---- parts

-- the first list is the second one less some of its elements
abbrev pub IsSublist : {A : Type 0} → List A → List A → Type 0
IsSublist [] ys = Unit {0}
IsSublist (x ∷ xs) [] = ⊥
IsSublist (x ∷ xs) (y ∷ ys) = ((x ≡ y) × IsSublist xs ys) ⊎ IsSublist (x ∷ xs) ys

-- a part of rows that are grouped is grouped, and put row by row where there was none it stands as it did
pub record PartsStay : Type 0 where
  pub grouped : (rows part : List Row) → AreGrouped rows → IsSublist part rows → AreGrouped part
  pub stay : (rows part : List Row) → AreGrouped rows → IsSublist part rows → put_all part [] ≡ part
