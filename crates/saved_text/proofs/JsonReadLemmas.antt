-- Rows from values of JSON.
use Rattle.std.specs.Prelude.{ℕ, List, [], ◌∷◌, ◌++◌, Bool, true, false, Option, Some, None, Ok, Err, Result}
use Rattle.std.specs.Prelude.{IfOk, IfErr, codes, unwrap_or, option_and_then}
use Rattle.std.proofs.Common.{◌≡◌, length, arith, refl, sym, ap, ◌∙◌, subst}
use Rattle.std.proofs.lemmas.Bool.{true≢false}
use Rattle.std.specs.List.{AllByRecursion}
use Rattle.serde_json.specs.Data.{Data, array, Items, no_items, item}
use Rattle.serde_json.specs.Find.{as_array, as_str, get}
use Rattle.serde_json.specs.Read.{read}
use Rattle.serde_json.specs.View.{items_view}
use Rattle.serde_json.specs.declared.value.Value.{Value}
use Rattle.saved_text.specs.Json.{row_value, rows_items, expires_value}
use Rattle.saved_text.specs.JsonReading.{HasDeath, IsReadable, AreShown, ShowsRow, ShowsRowsInJson, IsNoRow, AreNoRows}
use Rattle.saved_text.specs.JsonReading.{IsShapeFault, IsJsonFault}
use Rattle.saved_text.specs.Row.{Shown}
use Rattle.saved_text.specs.Saved.{IsCookieText, IsShown}
use Rattle.saved_text.specs.declared.error.SavedTextError.{SavedTextError}
use Rattle.saved_text.specs.declared.error.SavedTextError.TheVariants as fault
use Rattle.saved_text.specs.declared.row.SavedRow.{SavedRow}

-- ---- one row

pub fault_of : (A B : Type 0) (e : SavedTextError) → (A → B) → IsShapeFault A e → IsShapeFault B e
fault_of A B fault.Shape f h = f h
fault_of A B fault.OutOfMemory f h = tt
fault_of A B fault.NotText f h = absurd h
fault_of A B fault.Json f h = absurd h
fault_of A B (fault.Ron n) f h = absurd h

-- what a row's value shows as its raw cookie, and as its date
abbrev raw_in : Data → List ℕ
raw_in d = unwrap_or (option_and_then as_str (get (codes "raw_cookie") d)) []

abbrev date_in : Data → Option (List ℕ)
date_in d = option_and_then as_str (option_and_then (get (codes "AtUtc")) (get (codes "expires") d))

date_of_row : (t : Shown) (e : Option (List ℕ)) → t.expires ≡ e → date_in (row_value t) ≡ e
date_of_row t None is = ap (λ x. option_and_then as_str (get (codes "AtUtc") (expires_value x))) is
date_of_row t (Some date) is = ap (λ x. option_and_then as_str (get (codes "AtUtc") (expires_value x))) is

same_raw : (t u : Shown) → row_value t ≡ row_value u → t.raw ≡ u.raw
same_raw t u e = ap raw_in e

same_date : (t u : Shown) → row_value t ≡ row_value u → t.expires ≡ u.expires
same_date t u e = sym (date_of_row t t.expires refl) ∙ ap date_in e ∙ date_of_row u u.expires refl

pub no_row : (d : Data) (t : Shown) → d ≡ row_value t → ¬ (IsReadable t) → IsNoRow d
no_row d t is none u e h = none (
  subst IsCookieText (same_raw u t (sym e ∙ is)) h.0,
  subst HasDeath
      (same_date u t (sym e ∙ is)) h.1,
)

pub row_err : (d : Data) (t : Shown) (r : Result SavedRow SavedTextError) → d ≡ row_value t
    → IfErr r (IsShapeFault (¬ (IsReadable t))) → IfErr r (IsShapeFault (IsNoRow d))
row_err d t (Ok row) is h = tt
row_err d t (Err e) is h = fault_of (¬ (IsReadable t)) (IsNoRow d) e (no_row d t is) h

-- ---- items

-- the items of these rows, and more behind them
abbrev pub items_onto : List Shown → Items → Items
items_onto [] more = more
items_onto (t ∷ ts) more = item (row_value t) (items_onto ts more)

pub onto_more : (ts : List Shown) (t : Shown) (more : Items)
    → items_onto ts (item (row_value t) more) ≡ items_onto (ts ++ t ∷ []) more
onto_more [] t more = refl
onto_more (u ∷ ts) t more = ap (item (row_value u)) (onto_more ts t more)

pub onto_none : (ts : List Shown) → items_onto ts no_items ≡ rows_items ts
onto_none [] = refl
onto_none (t ∷ ts) = ap (item (row_value t)) (onto_none ts)

pub shown_more : (ts : List Shown) (rs : List SavedRow) (t : Shown) (r : SavedRow) → AreShown ts rs → IsShown t r
    → AreShown (ts ++ t ∷ []) (rs ++ r ∷ [])
shown_more [] [] t r h k = (k, tt)
shown_more [] (q ∷ rs) t r h k = absurd h
shown_more (u ∷ ts) [] t r h k = absurd h
shown_more (u ∷ ts) (q ∷ rs) t r h k = (h.0, shown_more ts rs t r h.1 k)

abbrev first : Data → Items → Data
first d no_items = d
first d (item x xs) = x

abbrev behind : Items → Items
behind no_items = no_items
behind (item x xs) = xs

abbrev is_item : Items → Bool
is_item no_items = false
is_item (item x xs) = true

abbrev items_in : Option Items → Items
items_in (Some xs) = xs
items_in None = no_items

unread_at : (ts us : List Shown) (d : Data) (more : Items) → IsNoRow d → items_onto ts (item d more) ≡ rows_items us
    → ¬ (AllByRecursion IsReadable us)
unread_at [] [] d more none e h = true≢false (ap is_item e)
unread_at [] (u ∷ us) d more none e h = none u (ap (first d) e) h.0
unread_at (t ∷ ts) [] d more none e h = true≢false (ap is_item e)
unread_at (t ∷ ts) (u ∷ us) d more none e h = unread_at ts us d more none (ap behind e) h.1

-- Rows so far: what they are shown by, and the items that are left.
pub record RowsSoFar (d : Data) (rs : List SavedRow) (rest : Items) : Type 0 where
  pub rows : List Shown
  pub are_shown : AreShown rows rs
  pub split : d ≡ array (items_onto rows rest)

pub rows_more : (d : Data) (rs : List SavedRow) (x : Data) (more : Items) (r : SavedRow) → RowsSoFar d rs (item x more)
    → ShowsRow x r → RowsSoFar d (rs ++ r ∷ []) more
rows_more d rs x more r h p = record {
  rows = h.rows ++ p.0 ∷ [];
  are_shown = shown_more h.rows rs p.0 r h.are_shown p.2;
  split = h.split ∙ ap (λ y. array (items_onto h.rows (item y more))) p.1 ∙ ap array (onto_more h.rows p.0 more);
}

rows_end : (d : Data) (rs : List SavedRow) → RowsSoFar d rs no_items → ShowsRowsInJson d rs
rows_end d rs h = (h.rows, h.split ∙ ap array (onto_none h.rows), h.are_shown)

pub rows_ended : (d : Data) (rs : List SavedRow) (vs : List Value) → RowsSoFar d rs (items_view vs) → length vs ≡ 0
    → ShowsRowsInJson d rs
rows_ended d rs [] h e = rows_end d rs h
rows_ended d rs (v ∷ vs) h e = absurd (omega arith)

pub rows_stop : (d : Data) (rs : List SavedRow) (x : Data) (more : Items) → RowsSoFar d rs (item x more) → IsNoRow x
    → AreNoRows d
rows_stop d rs x more h none us e k = unread_at h.rows us x more none (ap (λ y. items_in (as_array y)) (sym h.split
    ∙ e)) k

-- ---- faults

pub fault_of_value : (none : Data → Type 0) (text : List ℕ) (d : Data) (e : SavedTextError) → read text ≡ Some d
    → IsShapeFault (none d) e → IsJsonFault none text e
fault_of_value none text d fault.Shape is h = (d, is, h)
fault_of_value none text d fault.OutOfMemory is h = tt
fault_of_value none text d fault.NotText is h = absurd h
fault_of_value none text d fault.Json is h = absurd h
fault_of_value none text d (fault.Ron n) is h = absurd h

pub fault_of_text : (none : Data → Type 0) (text : List ℕ) (e : SavedTextError) → IsJsonFault (λ d. ⊥) text e
    → IsJsonFault none text e
fault_of_text none text fault.Shape h = absurd h.2
fault_of_text none text fault.OutOfMemory h = tt
fault_of_text none text fault.NotText h = absurd h
fault_of_text none text fault.Json h = h
fault_of_text none text (fault.Ron n) h = absurd h

pub read_ok : {A : Type 0} (shows : Data → A → Type 0) (text : List ℕ) (d : Data) (r : Result A SavedTextError)
    → read text ≡ Some d → IfOk r (shows d) → IfOk r (λ a. (e : Data) × (read text ≡ Some e) × shows e a)
read_ok shows text d (Ok a) is h = (d, is, h)
read_ok shows text d (Err e) is h = tt

pub read_err : {A : Type 0} (none : Data → Type 0) (text : List ℕ) (d : Data) (r : Result A SavedTextError)
    → read text ≡ Some d → IfErr r (IsShapeFault (none d)) → IfErr r (IsJsonFault none text)
read_err none text d (Ok a) is h = tt
read_err none text d (Err e) is h = fault_of_value none text d e is h
