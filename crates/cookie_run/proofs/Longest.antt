-- With longer paths first the rows of a host whose names count stand as before: they have one path, of one byte.
use Rattle.std.proofs.Common.{◌≡◌, ℕ, true, false, cond, List, [], ◌∷◌, length, sym, refl, ap, ◌∙◌, ⊎_elim}
use Rattle.std.proofs.Common.{subst}
use Rattle.std.specs.Prelude.{filter}
use Rattle.std.specs.List.{AllByRecursion}
use Rattle.std.proofs.lemmas.Bool.{cases_Bool, cond-true, cond-false, both_ways, eq-eqb}
use Rattle.std.proofs.lemmas.List.Sorted.{IsPermutation-refl}
use Rattle.cookie_store.specs.Laws.{OneOrder}
use Rattle.cookie_store.specs.Longest.{AreLongestFirst, path_length, has_length}
use Rattle.cookie_store.specs.Rows.{Row}
use Rattle.cookie_text.specs.ReadingBack.{Pairwise}
use Rattle.store_parts.specs.PathMatch.{Path}
use Rattle.cookie_run.proofs.Kepts.{Kept}
use Rattle.cookie_client.proofs.CountedRows.{Counts, is_own, rows_of}
use Rattle.cookie_run.proofs.OwnRows.{IsRowOf, IsGoodKept, walk}
use Rattle.cookie_client.proofs.RowLists.{all_longest}

pub none_longest : OneOrder → (rows ordered : List Row) → rows ≡ [] → AreLongestFirst rows ordered → ordered ≡ []
none_longest order rows ordered none first =
    order.one [] ordered [] (subst (λ xs. AreLongestFirst xs ordered) none first)
    (record { permutation = IsPermutation-refl []; fall = tt; stable = λ n. refl })

-- a row of the host has the shortest path that there is
abbrev pub IsShort : Counts → List ℕ → Row → Type 0
IsShort counts host row = is_own counts host row ≡ true → path_length row ≡ 1

short_rows : (counts : Counts) (host : List ℕ) (rows : List Row) → AllByRecursion (IsShort counts host) rows
    → rows_of counts host (filter (has_length 1) rows) ≡ rows_of counts host rows
short_rows counts host [] all = refl
short_rows counts host (row ∷ rows) all =
    ⊎_elim
    (λ (e : has_length 1 row ≡ true).
    ap (rows_of counts host) (cond-true _ _ _ e)
    ∙ ap (λ xs. cond (is_own counts host row) (row ∷ xs) xs) (short_rows counts host rows all.1))
    (λ (e : has_length 1 row ≡ false).
    ap (rows_of counts host) (cond-false _ _ _ e)
    ∙ (short_rows counts host rows all.1 ∙ sym (cond-false _ _ _ (other e))))
    (cases_Bool (has_length 1 row))
  where
    other : has_length 1 row ≡ false → is_own counts host row ≡ false
    other e =
        ⊎_elim
        (λ (own : is_own counts host row ≡ true). absurd (both_ways _ e (eq-eqb (path_length row) 1 (all.0 own))))
        (λ (away : is_own counts host row ≡ false). away)
        (cases_Bool (is_own counts host row))

pub longest_own : (counts : Counts) (host : List ℕ) (rows ordered : List Row) → AreLongestFirst rows ordered
    → AllByRecursion (IsShort counts host) rows → rows_of counts host ordered ≡ rows_of counts host rows
longest_own counts host rows ordered first all =
    sym (short_rows counts host ordered (all_longest (IsShort counts host) rows ordered first all))
    ∙ (ap (rows_of counts host) (first.stable 1) ∙ short_rows counts host rows all)

-- each row that stands for what the host holds has such a path
pub own_short : (counts : Counts) (host : List ℕ) (ks : List Kept) (rows : List Row)
    → AllByRecursion IsGoodKept ks → Pairwise (IsRowOf host) ks (rows_of counts host rows)
    → AllByRecursion (IsShort counts host) rows
own_short counts host ks rows good own =
    walk counts host (λ ks rows. AllByRecursion (IsShort counts host) rows) tt
    (λ d r ds rs mine h hd rest. ((λ _. ap (λ (p : Path). length p.text) h.path), rest))
    (λ r ds rs other rest. ((λ mine. absurd (both_ways _ other mine)), rest))
    rows ks good own
