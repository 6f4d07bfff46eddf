-- Rows that a jar keeps.
use Rattle.std.proofs.Common.{◌≡◌, ◌∷◌, [], ◌++◌, ◌∙◌, ℕ, Bool, false, List, map, sym, refl}
use Rattle.std.specs.Prelude.{◌||◌, ◌↔◌, IsTrue, Option, Some, None}
use Rattle.std.specs.List.{AllByRecursion}
use Rattle.std.proofs.lemmas.Bool.{both_ways, or_from, or_parts}
use Rattle.cookie_store.specs.Given.{pair_of}
use Rattle.cookie_store.specs.Rows.{Row, domain_text}
use Rattle.cookie_client.specs.Header.{header_of}
use Rattle.cookie_client.specs.HostPrefix.{AreHeldRightly}
use Rattle.cookie_client.specs.Keeping.{HaveReadPairs}
use Rattle.cookies_txt.specs.declared.error.RowFault.{RowFault}
use Rattle.cookie_jar.specs.Keeping.{AreKept, IsClean, IsKept, IsTaken, fault_in, has_control, is_control}
use Rattle.cookie_jar.specs.declared.form.Form.{Form}

-- ---- what holds of each row that is kept

pub clean_of : (rows : List Row) → AreKept rows → AllByRecursion IsClean rows
clean_of [] kept = tt
clean_of (r ∷ rs) kept = (kept.0.clean, clean_of rs kept.1)

pub pairs_of : (rows : List Row) → AreKept rows → HaveReadPairs rows
pairs_of [] kept = tt
pairs_of (r ∷ rs) kept = (kept.0.pair, pairs_of rs kept.1)

pub held_of : (rows : List Row) → AreKept rows → AreHeldRightly rows
held_of [] kept = tt
held_of (r ∷ rs) kept = (kept.0.held, held_of rs kept.1)

pub kept_from : (rows : List Row) → AllByRecursion IsClean rows → HaveReadPairs rows → AreHeldRightly rows
    → AreKept rows
kept_from [] clean pairs held = tt
kept_from (r ∷ rs) clean pairs held =
    (record { clean = clean.0; pair = pairs.0; held = held.0 }, kept_from rs clean.1 pairs.1 held.1)

-- ---- a row that is taken

-- a form that can hold it
pub taken_fit : (form : Form) (row : Row) (found : Option RowFault) (b : Bool) → found ≡ fault_in form row
    → found ≡ None → (IsTrue b ↔ IsKept row) → IsTrue b ↔ IsTaken form row
taken_fit form row found b is none both = (
  λ t. record { kept = both.0 t; fits = sym is ∙ none },
  λ (taken : IsTaken form row). both.1 taken.kept,
)

-- one that can't
pub taken_unfit : (form : Form) (row : Row) (found : Option RowFault) (fault : RowFault) → found ≡ fault_in form row
    → found ≡ Some fault → IsTrue false ↔ IsTaken form row
taken_unfit form row found fault is some = (
  λ t. absurd (both_ways false refl t),
  λ (taken : IsTaken form row). absurd (some_none fault (sym some ∙ (is ∙ taken.fits))),
)
  where
    some_none : (fault : RowFault) → Some fault ≡ None → ⊥
    some_none fault e = cc

-- ---- a header

join_clean : (xs ys : List ℕ) → has_control xs ≡ false → has_control ys ≡ false → has_control (xs ++ ys) ≡ false
join_clean [] ys hx hy = hy
join_clean (x ∷ xs) ys hx hy =
    let both = or_parts (is_control x) (has_control xs) hx in
    or_from (is_control x) (has_control (xs ++ ys)) both.0 (join_clean xs ys both.1 hy)

pair_clean : (row : Row) → IsClean row → has_control (row.raw.cookie.name ++ 61 ∷ row.raw.cookie.value) ≡ false
pair_clean row clean =
    let texts = or_parts (has_control row.raw.cookie.name || has_control row.raw.cookie.value)
    (has_control (domain_text row) || has_control row.path.text) clean in
    let both = or_parts (has_control row.raw.cookie.name) (has_control row.raw.cookie.value) texts.0 in
    join_clean row.raw.cookie.name (61 ∷ row.raw.cookie.value) both.0 both.1

pub all_clean : (rows : List Row) → AllByRecursion IsClean rows → has_control (header_of (map pair_of rows)) ≡ false
all_clean [] clean = refl
all_clean (r ∷ []) clean = pair_clean r clean.0
all_clean (r ∷ s ∷ rs) clean =
    join_clean (r.raw.cookie.name ++ 61 ∷ r.raw.cookie.value) (59 ∷ 32 ∷ header_of (map pair_of (s ∷ rs)))
    (pair_clean r clean.0) (all_clean (s ∷ rs) clean.1)
