-- The rows of a host whose names count.
use Rattle.std.proofs.Common.{◌≡◌, ℕ, Bool, true, false, cond, ◌&&◌, ◌||◌, List, [], ◌∷◌, ◌++◌, sym, refl, ap, ◌∙◌}
use Rattle.std.proofs.Common.{subst, ⊎_elim}
use Rattle.std.specs.Prelude.{map, codes, not}
use Rattle.std.specs.List.{filter, list_any, AllByRecursion}
use Rattle.std.specs.Str.{bytes_eq}
use Rattle.std.proofs.lemmas.Bool.{cases_Bool, both_ways}
use Rattle.percent_encoding.specs.Percent.{percent_decode}
use Rattle.store_parts.specs.PathMatch.{Path}
use Rattle.cookie_store.specs.Rows.{Row, domain_text, behind_last}

-- ---- the rows of a host

-- which stored names count
abbrev pub Counts : Type 0
Counts = List ℕ → Bool

-- the row's name counts, decoded
abbrev pub is_counted : Counts → Row → Bool
is_counted counts row = counts (percent_decode row.raw.cookie.name)

abbrev pub is_own : Counts → List ℕ → Row → Bool
is_own counts host row = is_counted counts row && bytes_eq (domain_text row) host

abbrev pub rows_of : Counts → List ℕ → List Row → List Row
rows_of counts host rows = filter (is_own counts host) rows

abbrev pub root : Path
root = record { text = codes "/"; from_attribute = true }

pub all_rows_map : (P : Row → Type 0) (f : Row → Row) → ((r : Row) → P r → P (f r)) → (rows : List Row)
    → AllByRecursion P rows → AllByRecursion P (map f rows)
all_rows_map P f h [] all = tt
all_rows_map P f h (r ∷ rs) all = (h r all.0, all_rows_map P f h rs all.1)

pub all_behind : (P : Row → Type 0) (test : Row → Bool) (row : Row) (rows : List Row) → P row → AllByRecursion P rows
    → AllByRecursion P (behind_last test row rows)
all_behind P test row [] g all = (g, tt)
all_behind P test row (other ∷ rows) g all =
    ⊎_elim
    (λ (e : test other && not (list_any test rows) ≡ true). subst
    (λ b. AllByRecursion P (cond b (other ∷ row ∷ rows) (other ∷ behind_last test row rows))) (sym e)
    (all.0, (g, all.1)))
    (λ (e : test other && not (list_any test rows) ≡ false). subst
    (λ b. AllByRecursion P (cond b (other ∷ row ∷ rows) (other ∷ behind_last test row rows))) (sym e)
    (all.0, all_behind P test row rows g all.1))
    (cases_Bool (test other && not (list_any test rows)))

-- the rows of the host, each changed in its place
pub rows_map : (counts : Counts) (host : List ℕ) (f : Row → Row)
    → ((r : Row) → is_own counts host (f r) ≡ is_own counts host r) → (rows : List Row)
    → rows_of counts host (map f rows) ≡ map f (rows_of counts host rows)
rows_map counts host f h [] = refl
rows_map counts host f h (r ∷ rs) =
    ⊎_elim
    (λ (e : is_own counts host r ≡ true). rw (h r ∙ e, e) (ap (λ x. f r ∷ x) (rows_map counts host f h rs)))
    (λ (e : is_own counts host r ≡ false). rw (h r ∙ e, e) (rows_map counts host f h rs))
    (cases_Bool (is_own counts host r))

-- those that aren't the host's, each changed in its place
pub rows_map_other : (counts : Counts) (host : List ℕ) (f : Row → Row)
    → ((r : Row) → is_own counts host (f r) ≡ is_own counts host r)
    → ((r : Row) → is_own counts host r ≡ true → f r ≡ r) → (rows : List Row)
    → rows_of counts host (map f rows) ≡ rows_of counts host rows
rows_map_other counts host f h g [] = refl
rows_map_other counts host f h g (r ∷ rs) =
    ⊎_elim
    (λ (e : is_own counts host r ≡ true). rw (h r ∙ e, e) ((λ i. g r e i ∷ rows_map_other counts host f h g rs i)))
    (λ (e : is_own counts host r ≡ false). rw (h r ∙ e, e) (rows_map_other counts host f h g rs))
    (cases_Bool (is_own counts host r))

no_own : (counts : Counts) (host : List ℕ) (test : Row → Bool) (rows : List Row)
    → AllByRecursion (λ r. is_own counts host r ≡ true → test r ≡ true) rows → list_any test rows ≡ false
    → rows_of counts host rows ≡ []
no_own counts host test [] all none = refl
no_own counts host test (r ∷ rs) all none =
    ⊎_elim
    (λ (e : is_own counts host r ≡ true). absurd (both_ways _ none (ap (λ b. b || list_any test rs) (all.0 e))))
    (λ (e : is_own counts host r ≡ false). rw e (no_own counts host test rs all.1 (none_behind (test r) _ none)))
    (cases_Bool (is_own counts host r))
  where
    none_behind : (a b : Bool) → (a || b) ≡ false → b ≡ false
    none_behind true b h = absurd (both_ways true h refl)
    none_behind false b h = h

-- a row of the host goes behind its rows, where these pass the test
pub own_behind : (counts : Counts) (host : List ℕ) (test : Row → Bool) (row : Row) (rows : List Row)
    → is_own counts host row ≡ true → AllByRecursion (λ r. is_own counts host r ≡ true → test r ≡ true) rows
    → rows_of counts host (behind_last test row rows) ≡ rows_of counts host rows ++ row ∷ []
own_behind counts host test row [] own all = rw own refl
own_behind counts host test row (r ∷ rs) own all =
    ⊎_elim
    (λ (t : (test r && not (list_any test rs)) ≡ true).
    let none : rows_of counts host rs ≡ [] = no_own counts host test rs all.1 (last_one (test r) (list_any test rs) t)
    in
    rw (t, own) (rw none (front (is_own counts host r))))
    (λ (t : (test r && not (list_any test rs)) ≡ false).
    rw t (rw (own_behind counts host test row rs own all.1) (pushed (is_own counts host r) (rows_of counts host rs))))
    (cases_Bool (test r && not (list_any test rs)))
  where
    last_one : (a b : Bool) → (a && not b) ≡ true → b ≡ false
    last_one true true h = absurd (both_ways false refl h)
    last_one true false h = refl
    last_one false b h = absurd (both_ways false refl h)

    front : (b : Bool) → cond b (r ∷ row ∷ []) (row ∷ []) ≡ cond b (r ∷ []) [] ++ row ∷ []
    front true = refl
    front false = refl

    pushed : (b : Bool) (xs : List Row) → cond b (r ∷ (xs ++ row ∷ [])) (xs ++ row ∷ []) ≡ cond b (r ∷ xs) xs ++ row ∷
        []
    pushed true xs = refl
    pushed false xs = refl
