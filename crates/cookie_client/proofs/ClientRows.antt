-- The rows of a client: names and values are as a text gives them, so what is kept of them stands as they do.
use Rattle.std.proofs.Common.{◌≡◌, ℕ, ℤ, Bool, false, true, ◌&&◌, ◌||◌, List, [], ◌∷◌, take, sym, refl, ap, subst}
use Rattle.std.proofs.Common.{◌∙◌, inl, inr, Ok, Err}
use Rattle.std.specs.Prelude.{Result, IfOk, IfErr}
use Rattle.std.specs.List.{list_any, AllByRecursion}
use Rattle.std.specs.Str.{bytes_eq}
use Rattle.cookie_text.specs.ReadingBack.{Pairwise}
use Rattle.cookie_text.specs.Record.{Seen}
use Rattle.publicsuffix.specs.Rules.{Rule}
use Rattle.saved_text.specs.Row.{Shown}
use Rattle.store_parts.specs.DomainMatch.{text_or_empty}
use Rattle.url.specs.Parts.{Parts}
use Rattle.cookie_store.specs.Grouped.{AreGrouped}
use Rattle.cookie_store.specs.Placing.{is_saved, put_all, saved}
use Rattle.cookie_store.specs.Rows.{Row, Key, Store, HaveOwnKeys, key_of, has_key, is_live, live, put}
use Rattle.cookie_store.specs.SavedLaws.{HoldsReread, PrintsCookie}
use Rattle.cookie_store.specs.SavedRows.{IsLoadedFrom, IsReread}
use Rattle.cookie_store.specs.SavedTexts.{HasLoaded}
use Rattle.cookie_client.specs.Accept.{AcceptsAll, IsStopped}
use Rattle.cookie_text.specs.Again.{IsReadPair}
use Rattle.cookie_client.specs.Keeping.{Keeps, HasReadPair, HaveReadPairs}
use Rattle.cookie_client.specs.declared.outcome.LineEnd.{LineEnd}
use Rattle.cookie_client.proofs.ComingBack.{filter_all, lines_from, pair_made, put_from}
use Rattle.cookie_text.proofs.PairsAgain.{pair_of, pair_reads_again, prints_pair}

-- ---- rows that are received

pub received_pairs : (list : List Rule) (url : Parts) (now : ℤ) (lines : List (List ℕ)) (rows : List Row)
    (ends : List LineEnd) (new : List Row) → HaveReadPairs rows → AcceptsAll list rows url now lines ends new
    → HaveReadPairs new
received_pairs list url now lines rows ends new =
    lines_from HasReadPair (λ r h. h) (λ r h. h) (λ _. Unit {0})
    (λ line s url now made _ free. pair_made pair_of line s url now made)
    list url now lines rows ends new tt

stopped_pairs : (list : List Rule) (url : Parts) (now : ℤ) (lines : List (List ℕ)) (rows : List Row) (n : ℕ)
    (new : List Row) → HaveReadPairs rows → IsStopped list rows url now lines n new → HaveReadPairs new
stopped_pairs list url now lines rows n new own (inl none) = subst HaveReadPairs (sym none.1) own
stopped_pairs list url now lines rows n new own (inr stopped) =
    received_pairs list url now (take stopped.before lines) rows stopped.taken.0 new own stopped.taken.1

-- however receiving ended
pub however_pairs : {A B : Type 0} (r : Result A B) (all : A → List LineEnd) (at : B → ℕ) (list : List Rule)
    (url : Parts)
    (now : ℤ) (lines : List (List ℕ)) (rows new : List Row) → HaveReadPairs rows
    → IfOk r (λ ends. AcceptsAll list rows url now lines (all ends) new)
    → IfErr r (λ stopped. IsStopped list rows url now lines (at stopped) new) → HaveReadPairs new
however_pairs (Ok ends) all at list url now lines rows new own h g =
    received_pairs list url now lines rows (all ends) new own h
however_pairs (Err stopped) all at list url now lines rows new own h g =
    stopped_pairs list url now lines rows (at stopped) new own g

-- ---- rows that are loaded

loaded_pair : (t : Shown) (row : Row) → IsLoadedFrom t row → HasReadPair row
loaded_pair t row h =
    subst (λ (raw : Seen). IsReadPair raw.cookie.name raw.cookie.value) (sym h.raw)
    (pair_of t.raw h.seen h.utf8 h.reads)

loaded_each : (all : List Shown) (rows : List Row) → Pairwise IsLoadedFrom all rows → HaveReadPairs rows
loaded_each [] [] h = tt
loaded_each [] (r ∷ rs) h = absurd h
loaded_each (t ∷ ts) [] h = absurd h
loaded_each (t ∷ ts) (r ∷ rs) h = (loaded_pair t r h.0, loaded_each ts rs h.1)

pub put_each : (rows old : List Row) → HaveReadPairs rows → HaveReadPairs old → HaveReadPairs (put_all rows old)
put_each [] old own all = all
put_each (r ∷ rs) old own all =
    put_each rs (put r old) own.1 (put_from HasReadPair (λ r h. h) (λ r h. h) r old own.0 all)

pub loaded_pairs : (now : ℤ) (all : List Shown) (store : Store) → HasLoaded false now all store
    → HaveReadPairs store.rows
loaded_pairs now all store (rows, pairs, is) =
    subst (λ (s : Store). HaveReadPairs s.rows) (sym is)
    (put_each (live now rows) [] (filter_all HasReadPair (is_live now) rows (loaded_each all rows pairs)) tt)

-- the same with expired ones
pub all_loaded_pairs : (now : ℤ) (all : List Shown) (store : Store) → HasLoaded true now all store
    → HaveReadPairs store.rows
all_loaded_pairs now all store (rows, pairs, is) =
    subst (λ (s : Store). HaveReadPairs s.rows) (sym is) (put_each rows [] (loaded_each all rows pairs) tt)

-- ---- rows that are kept

pub all_print : (rows : List Row) → HaveReadPairs rows → AllByRecursion PrintsCookie rows
all_print [] own = tt
all_print (r ∷ rs) own = (prints_pair r.raw.cookie own.0, all_print rs own.1)

pub saved_print : (now : ℤ) (rows : List Row) → HaveReadPairs rows → AllByRecursion PrintsCookie (saved now rows)
saved_print now rows own = all_print (saved now rows) (filter_all HasReadPair (is_saved now) rows own)

module _ (r other : Row) (own : HasReadPair r) (h : IsReread r other) where
  same_name : other.raw.cookie.name ≡ r.raw.cookie.name
  same_name = ap (λ (s : Seen). s.cookie.name) h.raw ∙ (pair_reads_again r.raw.cookie (Ok h.seen) own h.reads).pair.0

  same_value : other.raw.cookie.value ≡ r.raw.cookie.value
  same_value = ap (λ (s : Seen). s.cookie.value) h.raw ∙ (pair_reads_again r.raw.cookie (Ok h.seen) own h.reads).pair.1

  same_pair : HasReadPair other
  same_pair = subst (λ n. IsReadPair n other.raw.cookie.value) (sym same_name)
      (subst (IsReadPair r.raw.cookie.name) (sym same_value) own)

  same_key : key_of other ≡ key_of r
  same_key = λ i. record { domain = text_or_empty (h.domain i); path = (h.path i).text; name = same_name i }

reread_pairs : (rows reread : List Row) → HaveReadPairs rows → Pairwise IsReread rows reread → HaveReadPairs reread
reread_pairs [] [] own h = tt
reread_pairs [] (o ∷ os) own h = absurd h
reread_pairs (r ∷ rs) [] own h = absurd h
reread_pairs (r ∷ rs) (o ∷ os) own h = (same_pair r o own.0 h.0, reread_pairs rs os own.1 h.1)

-- whether the second key is the first, by its texts
abbrev keyed : Key → Key → Bool
keyed k l = (bytes_eq k.domain l.domain && bytes_eq k.path l.path) && bytes_eq k.name l.name

any_reread : (k l : Key) → k ≡ l → (rows reread : List Row) → HaveReadPairs rows → Pairwise IsReread rows reread
    → list_any (has_key k) reread ≡ list_any (has_key l) rows
any_reread k l same [] [] own h = refl
any_reread k l same [] (o ∷ os) own h = absurd h
any_reread k l same (r ∷ rs) [] own h = absurd h
any_reread k l same (r ∷ rs) (o ∷ os) own h =
    λ i. keyed (same i) (same_key r o own.0 h.0 i) || any_reread k l same rs os own.1 h.1 i

reread_apart : (rows reread : List Row) → HaveReadPairs rows → Pairwise IsReread rows reread → HaveOwnKeys rows
    → HaveOwnKeys reread
reread_apart [] [] own h apart = tt
reread_apart [] (o ∷ os) own h apart = absurd h
reread_apart (r ∷ rs) [] own h apart = absurd h
reread_apart (r ∷ rs) (o ∷ os) own h apart = (
  any_reread (key_of o) (key_of r) (same_key r o own.0 h.0) rs os own.1 h.1 ∙ apart.0,
  reread_apart rs os own.1 h.1 apart.1,
)

module _ (rows : List Row) (now : ℤ) (own : HaveReadPairs rows) where
  saved_pairs : HaveReadPairs (saved now rows)
  saved_pairs = filter_all HasReadPair (is_saved now) rows own

  pub kept_rows : (loading : ℤ) (store : Store) → AreGrouped (saved now rows)
      → HoldsReread false loading (saved now rows) store → Keeps rows now loading store.rows
  kept_rows loading store grouped h = record {
    read = h.reread;
    reread = h.pairs;
    lives = ap (λ (s : Store). s.rows)
        (h.stay grouped (reread_apart (saved now rows) h.reread saved_pairs h.pairs grouped.apart));
  }

  pub kept_pairs : (new : List Row) → Keeps rows now now new → HaveReadPairs new
  kept_pairs new keeps =
      subst HaveReadPairs (sym keeps.lives)
      (filter_all HasReadPair (is_live now) keeps.read
      (reread_pairs (saved now rows) keeps.read saved_pairs keeps.reread))
