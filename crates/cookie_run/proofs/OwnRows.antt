-- The rows under a host whose names count, through what is put among them. All names count where other hosts are apart,
-- else those that begin with `__Host-`.
use Rattle.std.proofs.Common.{◌≡◌, ℕ, ℤ, pos, ◌*ℤ◌, Bool, true, false, cond, ◌&&◌, List, [], ◌∷◌, ◌++◌, sym, refl}
use Rattle.std.proofs.Common.{ap, ◌∙◌, subst, ⊎_elim}
use Rattle.std.specs.Prelude.{map, not, IfSome}
use Rattle.std.specs.List.{list_any, AllByRecursion}
use Rattle.std.proofs.lemmas.Bool.{cases_Bool}
use Rattle.percent_encoding.specs.Percent.{percent_decode}
use Rattle.cookie_text.specs.Printing.{escaped}
use Rattle.cookie_text.specs.ReadingBack.{Pairwise}
use Rattle.cookie_text.specs.Record.{bare}
use Rattle.store_parts.specs.DomainMatch.{Domain, host_only, Covers}
use Rattle.cookie_client.proofs.Escaped.{decoded_escaped}
use Rattle.cookie_client.proofs.Texts.{text_is}
use Rattle.cookie_client.proofs.ReadBack.{IsGood}
use Rattle.cookie_store.specs.Rows.{Row, domain_text, behind_last}
use Rattle.cookie_run.proofs.Kepts.{Kept, AreApart}
use Rattle.cookie_client.proofs.CountedRows.{Counts, is_counted, is_own, rows_of, root}

abbrev pub IsWholeSecond : ℤ → Type 0
IsWholeSecond d = (second : ℤ) × (d ≡ (second *ℤ pos 1_000_000_000))

-- the row holds this for the host
pub record IsRowOf (host : List ℕ) (k : Kept) (row : Row) : Type 0 where
  pub domain : row.domain ≡ host_only host
  pub path : row.path ≡ root
  pub name : row.raw.cookie.name ≡ escaped k.name
  pub value : row.raw.cookie.value ≡ escaped k.value
  pub death : row.death ≡ k.death
  pub whole : IfSome k.death IsWholeSecond

abbrev pub IsGoodKept : Kept → Type 0
IsGoodKept k = IsGood (bare k.name k.value)

-- a row that isn't one of these isn't given to the host, where its name counts
abbrev pub IsOther : Counts → List ℕ → Row → Type 0
IsOther counts host row = is_own counts host row ≡ false → is_counted counts row ≡ true → ¬ (Covers row.domain host)

-- the rows of the host whose names count hold these, and no other row of such a name is given to it
pub record Agrees (counts : Counts) (host : List ℕ) (rows : List Row) (ks : List Kept) : Type 0 where
  pub good : AllByRecursion IsGoodKept ks
  pub own : Pairwise (IsRowOf host) ks (rows_of counts host rows)
  pub apart : AreApart ks
  pub others : AllByRecursion (IsOther counts host) rows

pub own_text : (host : List ℕ) (k : Kept) (row : Row) → IsRowOf host k row → domain_text row ≡ host
own_text host k row h = ap (λ (d : Domain). domain_text (record row { domain = d })) h.domain

-- its name counts as the one that it holds does
pub name_counts : (counts : Counts) (host : List ℕ) (k : Kept) (row : Row) → IsRowOf host k row → IsGoodKept k
    → is_counted counts row ≡ counts k.name
name_counts counts host k row h good = ap (λ n. counts (percent_decode n)) h.name
    ∙ ap counts (decoded_escaped k.name good.name_bytes)

pub own_is : (counts : Counts) (host : List ℕ) (k : Kept) (row : Row) → IsRowOf host k row → IsGoodKept k
    → is_own counts host row ≡ counts k.name
own_is counts host k row h good =
    (λ i. name_counts counts host k row h good i && text_is (domain_text row) host (own_text host k row h) i)
    ∙ and_true (counts k.name)
  where
    and_true : (b : Bool) → (b && true) ≡ b
    and_true true = refl
    and_true false = refl

-- ---- lists

pub pairwise_map : (host : List ℕ) (f : Row → Row) (g : Kept → Kept)
    → ((d : Kept) (r : Row) → IsGoodKept d → IsRowOf host d r → IsRowOf host (g d) (f r))
    → (ks : List Kept) (rows : List Row) → AllByRecursion IsGoodKept ks → Pairwise (IsRowOf host) ks rows
    → Pairwise (IsRowOf host) (map g ks) (map f rows)
pairwise_map host f g h [] [] good p = tt
pairwise_map host f g h [] (r ∷ rs) good p = absurd p
pairwise_map host f g h (k ∷ ks) [] good p = absurd p
pairwise_map host f g h (k ∷ ks) (r ∷ rs) good p = (h k r good.0 p.0, pairwise_map host f g h ks rs good.1 p.1)

pub pairwise_push : (P : Kept → Row → Type 0) (k : Kept) (r : Row) (ks : List Kept) (rows : List Row) → P k r
    → Pairwise P ks rows → Pairwise P (ks ++ k ∷ []) (rows ++ r ∷ [])
pairwise_push P k r [] [] g p = (g, tt)
pairwise_push P k r [] (x ∷ xs) g p = absurd p
pairwise_push P k r (d ∷ ds) [] g p = absurd p
pairwise_push P k r (d ∷ ds) (x ∷ xs) g p = (p.0, pairwise_push P k r ds xs g p.1)

-- ---- a new row

pub first_and : (a b : Bool) → (a && b) ≡ true → a ≡ true
first_and true b h = refl
first_and false b h = h

-- a row of another goes nowhere among them
pub other_behind : (counts : Counts) (host : List ℕ) (test : Row → Bool) (row : Row) (rows : List Row)
    → is_own counts host row ≡ false
    → rows_of counts host (behind_last test row rows) ≡ rows_of counts host rows
other_behind counts host test row [] other = rw other refl
other_behind counts host test row (r ∷ rs) other =
    ⊎_elim
    (λ (t : (test r && not (list_any test rs)) ≡ true). rw (t, other) refl)
    (λ (t : (test r && not (list_any test rs)) ≡ false). rw t (ap (λ x. cond (is_own counts host r) (r ∷ x) x)
    (other_behind counts host test row rs other)))
    (cases_Bool (test r && not (list_any test rs)))

-- ---- along the rows, and what they hold

here : (counts : Counts) (host : List ℕ) (ks : List Kept) (r : Row) (rest : List Row) → AllByRecursion IsGoodKept ks
    → Pairwise (IsRowOf host) ks (r ∷ rest)
    → (d : Kept) × (ds : List Kept) × (ks ≡ d ∷ ds) × IsRowOf host d r × IsGoodKept d × AllByRecursion IsGoodKept ds
    × Pairwise (IsRowOf host) ds rest
here counts host [] r rest good p = absurd p
here counts host (d ∷ ds) r rest good p = (d, ds, refl, p.0, good.0, good.1, p.1)

pub walk : (counts : Counts) (host : List ℕ) (Q : List Kept → List Row → Type 0) → Q [] []
    → ((d : Kept) (r : Row) (ds : List Kept) (rs : List Row) → is_own counts host r ≡ true → IsRowOf host d r
    → IsGoodKept d
    → Q ds rs → Q (d ∷ ds) (r ∷ rs))
    → ((r : Row) (ds : List Kept) (rs : List Row) → is_own counts host r ≡ false → Q ds rs → Q ds (r ∷ rs))
    → (rows : List Row) (ks : List Kept) → AllByRecursion IsGoodKept ks
    → Pairwise (IsRowOf host) ks (rows_of counts host rows)
    → Q ks rows
walk counts host Q base own other [] [] good p = base
walk counts host Q base own other [] (k ∷ ks) good p = absurd p
walk counts host Q base own other (r ∷ rs) ks good p =
    ⊎_elim
    (λ (e : is_own counts host r ≡ true).
    let h = here counts host ks r (rows_of counts host rs) good
    (subst (λ b. Pairwise (IsRowOf host) ks (cond b (r ∷ rows_of counts host rs) (rows_of counts host rs))) e p) in
    subst (λ xs. Q xs (r ∷ rs)) (sym h.2) (own h.0 r h.1 rs e h.3 h.4
    (walk counts host Q base own other rs h.1 h.5 h.6)))
    (λ (e : is_own counts host r ≡ false).
    other r ks rs e
    (walk counts host Q base own other rs ks good
    (subst (λ b. Pairwise (IsRowOf host) ks (cond b (r ∷ rows_of counts host rs) (rows_of counts host rs))) e p)))
    (cases_Bool (is_own counts host r))
