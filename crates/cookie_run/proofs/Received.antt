-- What becomes of the rows under a host when a row is received.
use Rattle.std.proofs.Common.{◌≡◌, ℕ, ℤ, ◌≤ℤ◌, pos, ◌*ℤ◌, Bool, true, false, cond, ◌&&◌, ◌||◌, List, [], ◌∷◌, ◌++◌, sym}
use Rattle.std.proofs.Common.{refl, ap, ◌∙◌, subst, ⊎_elim, Option, Some, None}
use Rattle.std.specs.Prelude.{map, option_map, is_some, not, IfSome}
use Rattle.std.specs.List.{list_any, AllByRecursion}
use Rattle.std.specs.Str.{bytes_eq}
use Rattle.std.proofs.lemmas.Bool.{cases_Bool, cond-true, cond-false, both_ways}
use Rattle.cookie_text.specs.ReadingBack.{Pairwise}
use Rattle.percent_encoding.specs.Percent.{percent_decode}
use Rattle.store_parts.specs.PathMatch.{Path}
use Rattle.store_parts.specs.Expiry.{epoch, is_dead}
use Rattle.cookie_client.proofs.Texts.{same_text, text_is, other_text, turned}
use Rattle.cookie_run.proofs.Records.{same_escaped}
use Rattle.cookie_store.specs.Rows.{Row, domain_text, has_domain_of, has_place_of, has_key_of, replaced, behind_last}
use Rattle.cookie_store.specs.Rows.{inserted, is_live_of, ended}
use Rattle.cookie_store.specs.Insertion.{settled}
use Rattle.cookie_run.proofs.Kepts.{Kept, found_in, lacks, found_named, found_map, apart_map, all_map, found_push}
use Rattle.cookie_run.proofs.Kepts.{apart_push, all_push}
use Rattle.cookie_client.proofs.CountedRows.{Counts, is_own, rows_of}
use Rattle.cookie_run.proofs.OwnRows.{IsRowOf, IsGoodKept, IsOther, Agrees}
use Rattle.cookie_run.proofs.OwnRows.{own_is, own_text, name_counts}
use Rattle.cookie_run.proofs.OwnRows.{pairwise_map, pairwise_push}
use Rattle.cookie_client.proofs.CountedRows.{all_rows_map, all_behind, rows_map, rows_map_other}
use Rattle.cookie_client.proofs.CountedRows.{own_behind}
use Rattle.cookie_run.proofs.OwnRows.{other_behind, first_and, walk}
use Rattle.cookie_client.proofs.Lines.{at_epoch, epoch_dead}

-- ---- what is alive

abbrev pub alive : ℤ → Option Kept → Option Kept
alive now None = None
alive now (Some k) = cond (is_dead now k.death) None (Some k)

-- ---- keys

pub second_and : (a b : Bool) → (a && b) ≡ true → b ≡ true
second_and true b h = h
second_and false b h = absurd (both_ways false refl h)

pub key_domain : (row r : Row) → has_key_of row r ≡ true → domain_text r ≡ domain_text row
key_domain row r e = sym (same_text (domain_text row) (domain_text r) (first_and _ _ (first_and _ _ e)))

pub key_test : (host : List ℕ) (k d : Kept) (row r : Row) → IsRowOf host k row → IsRowOf host d r → IsGoodKept k
    → IsGoodKept d → has_key_of row r ≡ bytes_eq k.name d.name
key_test host k d row r h g hk hd =
    (λ i. (bytes_eq (own_text host k row h i) (own_text host d r g i) && bytes_eq (h.path i).text (g.path i).text) &&
    bytes_eq (h.name i) (g.name i))
    ∙ rw (text_is host host refl) (same_escaped k.name d.name hk.name_bytes hd.name_bytes)

key_name : (row r : Row) → has_key_of row r ≡ true → r.raw.cookie.name ≡ row.raw.cookie.name
key_name row r e = sym (same_text row.raw.cookie.name r.raw.cookie.name (second_and _ _ e))

-- a row of its key is as it is
pub own_key : (counts : Counts) (host : List ℕ) (row r : Row) → has_key_of row r ≡ true
    → is_own counts host r ≡ is_own counts host row
own_key counts host row r e =
    λ i. counts (percent_decode (key_name row r e i)) && bytes_eq (key_domain row r e i) host

-- a row that isn't one of these has another key
pub other_key : (counts : Counts) (host : List ℕ) (row r : Row) → is_own counts host row ≡ true
    → is_own counts host r ≡ false
    → has_key_of row r ≡ false
other_key counts host row r own other =
    ⊎_elim
    (λ e. absurd (both_ways _ other (own_key counts host row r e ∙ own)))
    (λ e. e)
    (cases_Bool (has_key_of row r))

-- ---- is there one of its key, and a live one

pub key_there : (counts : Counts) (host : List ℕ) (k : Kept) (row : Row) → IsRowOf host k row → IsGoodKept k
    → is_own counts host row ≡ true → (rows : List Row) (ks : List Kept) → AllByRecursion IsGoodKept ks
    → Pairwise (IsRowOf host) ks (rows_of counts host rows)
    → list_any (has_key_of row) rows ≡ is_some (found_in ks k.name)
key_there counts host k row h hk mine =
    walk counts host (λ ks rows. list_any (has_key_of row) rows ≡ is_some (found_in ks k.name)) refl
    (λ d r ds rs own g hd rest. (λ i. key_test host k d row r h g hk hd i || rest i)
    ∙ some_cond (bytes_eq k.name d.name) d (found_in ds k.name))
    (λ r ds rs other rest. ap (λ b. b || list_any (has_key_of row) rs) (other_key counts host row r mine other) ∙ rest)
  where
    some_cond : (b : Bool) (d : Kept) (o : Option Kept) → (b || is_some o) ≡ is_some (cond b (Some d) o)
    some_cond true d o = refl
    some_cond false d o = refl

pub live_test : (host : List ℕ) (now : ℤ) (k d : Kept) (row r : Row) → IsRowOf host k row → IsRowOf host d r
    → IsGoodKept k → IsGoodKept d
    → is_live_of now row r ≡ (bytes_eq k.name d.name && not (is_dead now d.death))
live_test host now k d row r h g hk hd = λ i. key_test host k d row r h g hk hd i && not (is_dead now (g.death i))

pub either : (a b : Bool) → (a || b) ≡ false → (a ≡ false) × (b ≡ false)
either true b h = absurd (both_ways true h refl)
either false b h = (refl, h)

pub none_alive : (now : ℤ) (n : List ℕ) (d : Kept) (o : Option Kept)
    → (bytes_eq n d.name && not (is_dead now d.death)) ≡ false → alive now o ≡ None
    → alive now (cond (bytes_eq n d.name) (Some d) o) ≡ None
none_alive now n d o e rest =
    ⊎_elim
    (λ (s : bytes_eq n d.name ≡ true).
    ⊎_elim
    (λ (x : is_dead now d.death ≡ true). rw s (rw x refl))
    (λ (x : is_dead now d.death ≡ false). absurd (both_ways _ e ((λ i. s i && not (x i)))))
    (cases_Bool (is_dead now d.death)))
    (λ (s : bytes_eq n d.name ≡ false). rw s rest)
    (cases_Bool (bytes_eq n d.name))

pub none_live : (counts : Counts) (host : List ℕ) (now : ℤ) (k : Kept) (row : Row) → IsRowOf host k row → IsGoodKept k
    → (rows : List Row) (ks : List Kept) → AllByRecursion IsGoodKept ks
    → Pairwise (IsRowOf host) ks (rows_of counts host rows)
    → list_any (is_live_of now row) rows ≡ false → alive now (found_in ks k.name) ≡ None
none_live counts host now k row h hk =
    walk counts host (λ ks rows. list_any (is_live_of now row) rows ≡ false → alive now (found_in ks k.name) ≡ None)
    (λ e. refl)
    (λ d r ds rs own g hd rest e.
    let s = either (is_live_of now row r) (list_any (is_live_of now row) rs) e in
    none_alive now k.name d (found_in ds k.name) (sym (live_test host now k d row r h g hk hd) ∙ s.0) (rest s.1))
    (λ r ds rs other rest e. rest (either (is_live_of now row r) (list_any (is_live_of now row) rs) e).1)

-- ---- the places

pub domain_test : (counts : Counts) (host : List ℕ) (row r : Row) → domain_text row ≡ host
    → is_own counts host r ≡ true → has_domain_of row r ≡ true
domain_test counts host row r e own = text_is (domain_text row) (domain_text r)
    (e ∙ sym (same_text (domain_text r) host (second_and _ _ own)))

pub all_domains : (counts : Counts) (host : List ℕ) (row : Row) (rows : List Row) → domain_text row ≡ host
    → AllByRecursion (λ r. is_own counts host r ≡ true → has_domain_of row r ≡ true) rows
all_domains counts host row [] e = tt
all_domains counts host row (r ∷ rs) e = (domain_test counts host row r e, all_domains counts host row rs e)

pub all_places : (counts : Counts) (host : List ℕ) (k : Kept) (row : Row) → IsRowOf host k row → (rows : List Row)
    (ks : List Kept) → AllByRecursion IsGoodKept ks → Pairwise (IsRowOf host) ks (rows_of counts host rows)
    → AllByRecursion (λ r. is_own counts host r ≡ true → has_place_of row r ≡ true) rows
all_places counts host k row h =
    walk counts host (λ ks rows. AllByRecursion (λ r. is_own counts host r ≡ true → has_place_of row r ≡ true) rows) tt
    (λ d r ds rs own g hd rest. (
      (λ mine i. domain_test counts host row r (own_text host k row h) mine i && text_is row.path.text r.path.text
          (ap (λ (p : Path). p.text) (h.path ∙ sym g.path)) i),
      rest,
    ))
    (λ r ds rs other rest. ((λ mine. absurd (both_ways _ other mine)), rest))

pub own_inserted : (counts : Counts) (host : List ℕ) (k : Kept) (row : Row) (rows : List Row) (ks : List Kept)
    → IsRowOf host k row → is_own counts host row ≡ true → AllByRecursion IsGoodKept ks
    → Pairwise (IsRowOf host) ks (rows_of counts host rows)
    → rows_of counts host (inserted row rows) ≡ rows_of counts host rows ++ row ∷ []
own_inserted counts host k row rows ks h mine good own =
    ⊎_elim
    (λ (e : list_any (has_place_of row) rows ≡ true). rw e (own_behind counts host (has_place_of row) row rows mine
    (all_places counts host k row h rows ks good own)))
    (λ (e : list_any (has_place_of row) rows ≡ false). rw e (own_behind counts host (has_domain_of row) row rows mine
    (all_domains counts host row rows (own_text host k row h))))
    (cases_Bool (list_any (has_place_of row) rows))

pub all_inserted : (P : Row → Type 0) (row : Row) (rows : List Row) → P row → AllByRecursion P rows
    → AllByRecursion P (inserted row rows)
all_inserted P row rows g all =
    ⊎_elim
    (λ (e : list_any (has_place_of row) rows ≡ true). subst
    (λ b. AllByRecursion P (cond b (behind_last (has_place_of row) row rows)
    (behind_last (has_domain_of row) row rows))) (sym e) (all_behind P (has_place_of row) row rows g all))
    (λ (e : list_any (has_place_of row) rows ≡ false). subst
    (λ b. AllByRecursion P (cond b (behind_last (has_place_of row) row rows)
    (behind_last (has_domain_of row) row rows))) (sym e) (all_behind P (has_domain_of row) row rows g all))
    (cases_Bool (list_any (has_place_of row) rows))

-- ---- A ROW OF THE HOST whose name counts

-- the rows after it hold, up to what is dead then, the old ones with this one written, where its name counts
pub record Writes (counts : Counts) (host : List ℕ) (now : ℤ) (k : Kept) (ks : List Kept) (new : List Row) : Type 0
  where
    pub cookies : List Kept
    pub agrees : Agrees counts host new cookies
    pub each : (q : List ℕ) → counts q ≡ true → alive now (found_in cookies q) ≡ cond (bytes_eq q k.name)
        (alive now (Some k)) (alive now (found_in ks q))

-- in the place of the one of its name

abbrev pub over : Kept → Kept → Kept
over k d = cond (bytes_eq k.name d.name) k d

pub over_named : (k d : Kept) → (over k d).name ≡ d.name
over_named k d =
    ⊎_elim
    (λ (e : bytes_eq k.name d.name ≡ true). rw e (same_text k.name d.name e))
    (λ (e : bytes_eq k.name d.name ≡ false). rw e refl)
    (cases_Bool (bytes_eq k.name d.name))

pub over_good : (k : Kept) → IsGoodKept k → (d : Kept) → IsGoodKept d → IsGoodKept (over k d)
over_good k hk d hd =
    ⊎_elim
    (λ (e : bytes_eq k.name d.name ≡ true). subst (λ b. IsGoodKept (cond b k d)) (sym e) hk)
    (λ (e : bytes_eq k.name d.name ≡ false). subst (λ b. IsGoodKept (cond b k d)) (sym e) hd)
    (cases_Bool (bytes_eq k.name d.name))

pub over_row : (host : List ℕ) (k : Kept) (row : Row) → IsRowOf host k row → IsGoodKept k → (d : Kept) (r : Row)
    → IsGoodKept d → IsRowOf host d r → IsRowOf host (over k d) (cond (has_key_of row r) row r)
over_row host k row h hk d r hd g =
    subst (λ b. IsRowOf host (over k d) (cond b row r)) (sym (key_test host k d row r h g hk hd))
    (⊎_elim
    (λ (e : bytes_eq k.name d.name ≡ true). subst (λ b. IsRowOf host (cond b k d) (cond b row r)) (sym e) h)
    (λ (e : bytes_eq k.name d.name ≡ false). subst (λ b. IsRowOf host (cond b k d) (cond b row r)) (sym e) g)
    (cases_Bool (bytes_eq k.name d.name)))

pub replaced_domain : (row r : Row) → domain_text (cond (has_key_of row r) row r) ≡ domain_text r
replaced_domain row r =
    ⊎_elim
    (λ (e : has_key_of row r ≡ true). ap (λ b. domain_text (cond b row r)) e ∙ sym (key_domain row r e))
    (λ (e : has_key_of row r ≡ false). ap (λ b. domain_text (cond b row r)) e)
    (cases_Bool (has_key_of row r))

-- a row that is replaced by one of its key, and one that ends, is as it was
pub replaced_own : (counts : Counts) (host : List ℕ) (row r : Row)
    → is_own counts host (cond (has_key_of row r) row r) ≡ is_own counts host r
replaced_own counts host row r =
    ⊎_elim
    (λ (e : has_key_of row r ≡ true). ap (λ b. is_own counts host (cond b row r)) e ∙ sym (own_key counts host row r e))
    (λ (e : has_key_of row r ≡ false). ap (λ b. is_own counts host (cond b row r)) e)
    (cases_Bool (has_key_of row r))

pub replaced_other : (counts : Counts) (host : List ℕ) (row : Row) → IsOther counts host row → (r : Row)
    → IsOther counts host r
    → IsOther counts host (cond (has_key_of row r) row r)
replaced_other counts host row g r h =
    ⊎_elim
    (λ (e : has_key_of row r ≡ true). subst (λ b. IsOther counts host (cond b row r)) (sym e) g)
    (λ (e : has_key_of row r ≡ false). subst (λ b. IsOther counts host (cond b row r)) (sym e) h)
    (cases_Bool (has_key_of row r))

pub over_alive : (now : ℤ) (k : Kept) (q : List ℕ) (o : Option Kept) → IfSome o (λ d. d.name ≡ q)
    → (bytes_eq q k.name ≡ true → is_some o ≡ true)
    → alive now (option_map (over k) o) ≡ cond (bytes_eq q k.name) (alive now (Some k)) (alive now o)
over_alive now k q None named there =
    ⊎_elim
    (λ (e : bytes_eq q k.name ≡ true). absurd (both_ways false refl (there e)))
    (λ (e : bytes_eq q k.name ≡ false). rw e refl)
    (cases_Bool (bytes_eq q k.name))
over_alive now k q (Some d) named there =
    ⊎_elim
    (λ (e : bytes_eq q k.name ≡ true).
    let s : bytes_eq k.name d.name ≡ true = text_is k.name d.name (sym (same_text q k.name e) ∙ sym named) in
    ap (λ b. alive now (Some (cond b k d))) s ∙ sym (cond-true _ _ _ e))
    (λ (e : bytes_eq q k.name ≡ false).
    let s : bytes_eq k.name d.name ≡ false = subst (λ n. bytes_eq k.name n ≡ false) (sym named)
    (turned q k.name false e) in
    ap (λ b. alive now (Some (cond b k d))) s ∙ sym (cond-false _ _ _ e))
    (cases_Bool (bytes_eq q k.name))

pub own_other : (counts : Counts) (host : List ℕ) (row : Row) → is_own counts host row ≡ true → IsOther counts host row
own_other counts host row own other = absurd (both_ways _ other own)

pub replaced_writes : (counts : Counts) (host : List ℕ) (now : ℤ) (k : Kept) (row : Row) (rows : List Row)
    (ks : List Kept)
    → IsRowOf host k row → IsGoodKept k → is_own counts host row ≡ true → Agrees counts host rows ks
    → list_any (has_key_of row) rows ≡ true → Writes counts host now k ks (replaced row rows)
replaced_writes counts host now k row rows ks h hk mine a there =
    let some : is_some (found_in ks k.name) ≡ true = sym (key_there counts host k row h hk mine rows ks a.good a.own)
    ∙ there in
    record {
      cookies = map (over k) ks;
      agrees = record {
        good = all_map IsGoodKept (over k) (over_good k hk) ks a.good;
        own = subst (Pairwise (IsRowOf host) (map (over k) ks))
            (sym (rows_map counts host (λ r. cond (has_key_of row r) row r) (replaced_own counts host row) rows))
            (pairwise_map host (λ r. cond (has_key_of row r) row r) (over k) (over_row host k row h hk) ks
            (rows_of counts host rows) a.good a.own);
        apart = apart_map (over k) (over_named k) ks a.apart;
        others = all_rows_map (IsOther counts host) (λ r. cond (has_key_of row r) row r)
            (replaced_other counts host row (own_other counts host row mine)) rows a.others;
      };
      each = λ q c. ap (alive now) (found_map (over k) (over_named k) ks q)
          ∙ over_alive now k q (found_in ks q) (found_named ks q)
          (λ e. ap (λ n. is_some (found_in ks n)) (same_text q k.name e) ∙ some);
    }

-- as a new one

pub none_of : (o : Option Kept) → is_some o ≡ false → o ≡ None
none_of None e = refl
none_of (Some d) e = absurd (both_ways true e refl)

pub alive_cond : (now : ℤ) (b : Bool) (x y : Option Kept) → alive now (cond b x y) ≡ cond b (alive now x) (alive now y)
alive_cond now true x y = refl
alive_cond now false x y = refl

pub inserted_writes : (counts : Counts) (host : List ℕ) (now : ℤ) (k : Kept) (row : Row) (rows : List Row)
    (ks : List Kept)
    → IsRowOf host k row → IsGoodKept k → is_own counts host row ≡ true → Agrees counts host rows ks
    → list_any (has_key_of row) rows ≡ false → Writes counts host now k ks (inserted row rows)
inserted_writes counts host now k row rows ks h hk mine a there =
    let none : lacks ks k.name = none_of (found_in ks k.name)
    (sym (key_there counts host k row h hk mine rows ks a.good a.own) ∙ there) in
    record {
      cookies = ks ++ k ∷ [];
      agrees = record {
        good = all_push IsGoodKept k ks hk a.good;
        own = subst (Pairwise (IsRowOf host) (ks ++ k ∷ []))
            (sym (own_inserted counts host k row rows ks h mine a.good a.own))
            (pairwise_push (IsRowOf host) k row ks (rows_of counts host rows) h a.own);
        apart = apart_push k ks a.apart none;
        others = all_inserted (IsOther counts host) row rows (own_other counts host row mine) a.others;
      };
      each = λ q c. ap (alive now) (found_push k ks q none)
          ∙ alive_cond now (bytes_eq q k.name) (Some k) (found_in ks q);
    }

-- as the end of a live one

abbrev pub ending : ℤ → Kept → Kept → Kept
ending now k d = cond (bytes_eq k.name d.name && not (is_dead now d.death)) (record d { death = Some epoch }) d

pub ending_named : (now : ℤ) (k d : Kept) → (ending now k d).name ≡ d.name
ending_named now k d = cond_name (bytes_eq k.name d.name && not (is_dead now d.death)) d
  where
    cond_name : (b : Bool) (d : Kept) → (cond b (record d { death = Some epoch }) d).name ≡ d.name
    cond_name true d = refl
    cond_name false d = refl

pub ending_good : (now : ℤ) (k d : Kept) → IsGoodKept d → IsGoodKept (ending now k d)
ending_good now k d h = cond_good (bytes_eq k.name d.name && not (is_dead now d.death)) d h
  where
    cond_good : (b : Bool) (d : Kept) → IsGoodKept d → IsGoodKept (cond b (record d { death = Some epoch }) d)
    cond_good true d h = h
    cond_good false d h = h

pub epoch_whole : epoch ≡ (pos 0 *ℤ pos 1_000_000_000)
epoch_whole = refl

pub epoch_row : (host : List ℕ) (d : Kept) (r : Row) (b : Bool) → IsRowOf host d r
    → IsRowOf host (cond b (record d { death = Some epoch }) d) (cond b (at_epoch r) r)
epoch_row host d r true g = record {
  domain = g.domain;
  path = g.path;
  name = g.name;
  value = g.value;
  death = refl;
  whole = (pos 0, epoch_whole);
}
epoch_row host d r false g = g

pub ending_row : (host : List ℕ) (now : ℤ) (k : Kept) (row : Row) → IsRowOf host k row → IsGoodKept k
    → (d : Kept) (r : Row) → IsGoodKept d → IsRowOf host d r
    → IsRowOf host (ending now k d) (cond (is_live_of now row r) (at_epoch r) r)
ending_row host now k row h hk d r hd g =
    subst (λ b. IsRowOf host (ending now k d) (cond b (at_epoch r) r)) (sym (live_test host now k d row r h g hk hd))
    (epoch_row host d r (bytes_eq k.name d.name && not (is_dead now d.death)) g)

pub epoch_domain : (b : Bool) (r : Row) → domain_text (cond b (at_epoch r) r) ≡ domain_text r
epoch_domain true r = refl
epoch_domain false r = refl

pub epoch_own : (counts : Counts) (host : List ℕ) (b : Bool) (r : Row)
    → is_own counts host (cond b (at_epoch r) r) ≡ is_own counts host r
epoch_own counts host true r = refl
epoch_own counts host false r = refl

pub epoch_other : (counts : Counts) (host : List ℕ) (b : Bool) (r : Row) → IsOther counts host r
    → IsOther counts host (cond b (at_epoch r) r)
epoch_other counts host true r h = h
epoch_other counts host false r h = h

pub ending_none : (now : ℤ) (d : Kept) → pos 0 ≤ℤ now
    → alive now (Some (cond (not (is_dead now d.death)) (record d { death = Some epoch }) d)) ≡ None
ending_none now d after =
    ⊎_elim
    (λ (x : is_dead now d.death ≡ true). rw x (rw x refl))
    (λ (x : is_dead now d.death ≡ false). rw x (rw (epoch_dead now after) refl))
    (cases_Bool (is_dead now d.death))

pub ending_alive : (now : ℤ) (k : Kept) (q : List ℕ) (o : Option Kept) → pos 0 ≤ℤ now → is_dead now k.death ≡ true
    → IfSome o (λ d. d.name ≡ q)
    → alive now (option_map (ending now k) o) ≡ cond (bytes_eq q k.name) (alive now (Some k)) (alive now o)
ending_alive now k q None after dead named =
    ⊎_elim
    (λ (e : bytes_eq q k.name ≡ true). rw e (rw dead refl))
    (λ (e : bytes_eq q k.name ≡ false). rw e refl)
    (cases_Bool (bytes_eq q k.name))
ending_alive now k q (Some d) after dead named =
    ⊎_elim
    (λ (e : bytes_eq q k.name ≡ true).
    let s : bytes_eq k.name d.name ≡ true = text_is k.name d.name (sym (same_text q k.name e) ∙ sym named) in
    ap (λ b. alive now (Some (cond (b && not (is_dead now d.death)) (record d { death = Some epoch }) d))) s
    ∙ (ending_none now d after ∙ (sym (cond-true (is_dead now k.death) None (Some k) dead) ∙ sym (cond-true _ _ _ e))))
    (λ (e : bytes_eq q k.name ≡ false).
    let s : bytes_eq k.name d.name ≡ false = subst (λ n. bytes_eq k.name n ≡ false) (sym named)
    (turned q k.name false e) in
    ap (λ b. alive now (Some (cond (b && not (is_dead now d.death)) (record d { death = Some epoch }) d))) s
    ∙ sym (cond-false _ _ _ e))
    (cases_Bool (bytes_eq q k.name))

pub ended_writes : (counts : Counts) (host : List ℕ) (now : ℤ) (k : Kept) (row : Row) (rows : List Row) (ks : List Kept)
    → IsRowOf host k row → IsGoodKept k → Agrees counts host rows ks → pos 0 ≤ℤ now → is_dead now k.death ≡ true
    → Writes counts host now k ks (ended now row rows)
ended_writes counts host now k row rows ks h hk a after dead = record {
  cookies = map (ending now k) ks;
  agrees = record {
    good = all_map IsGoodKept (ending now k) (λ d g. ending_good now k d g) ks a.good;
    own = subst (Pairwise (IsRowOf host) (map (ending now k) ks))
        (sym (rows_map counts host (λ r. cond (is_live_of now row r) (at_epoch r) r)
        (λ r. epoch_own counts host (is_live_of now row r) r) rows))
        (pairwise_map host (λ r. cond (is_live_of now row r) (at_epoch r) r) (ending now k)
        (ending_row host now k row h hk) ks (rows_of counts host rows) a.good a.own);
    apart = apart_map (ending now k) (ending_named now k) ks a.apart;
    others = all_rows_map (IsOther counts host) (λ r. cond (is_live_of now row r) (at_epoch r) r)
        (λ r g. epoch_other counts host (is_live_of now row r) r g) rows a.others;
  };
  each = λ q c. ap (alive now) (found_map (ending now k) (ending_named now k) ks q)
      ∙ ending_alive now k q (found_in ks q)
      after dead (found_named ks q);
}

-- as nothing
pub refused_writes : (counts : Counts) (host : List ℕ) (now : ℤ) (k : Kept) (row : Row) (rows : List Row)
    (ks : List Kept)
    → IsRowOf host k row → IsGoodKept k → Agrees counts host rows ks → is_dead now k.death ≡ true
    → list_any (is_live_of now row) rows ≡ false → Writes counts host now k ks rows
refused_writes counts host now k row rows ks h hk a dead none = record {
  cookies = ks;
  agrees = a;
  each = λ q c. ⊎_elim
      (λ (e : bytes_eq q k.name ≡ true). ap (λ n. alive now (found_in ks n)) (same_text q k.name e)
      ∙ (none_live counts host now k row h hk rows ks a.good a.own none
      ∙ (sym (cond-true (is_dead now k.death) None (Some k) dead) ∙ sym (cond-true _ _ _ e))))
      (λ (e : bytes_eq q k.name ≡ false). sym (cond-false _ _ _ e))
      (cases_Bool (bytes_eq q k.name));
}

pub settled_writes : (counts : Counts) (host : List ℕ) (now : ℤ) (k : Kept) (row : Row) (rows : List Row)
    (ks : List Kept)
    → IsRowOf host k row → IsGoodKept k → is_own counts host row ≡ true → Agrees counts host rows ks → pos 0 ≤ℤ now
    → Writes counts host now k ks (settled rows now row).1
settled_writes counts host now k row rows ks h hk mine a after =
    ⊎_elim
    (λ (d : is_dead now row.death ≡ true).
    let dead : is_dead now k.death ≡ true = subst (λ x. is_dead now x ≡ true) h.death d in
    ⊎_elim
    (λ (e : list_any (is_live_of now row) rows ≡ true). rw (d, e)
    (ended_writes counts host now k row rows ks h hk a after
    dead))
    (λ (e : list_any (is_live_of now row) rows ≡ false). rw (d, e)
    (refused_writes counts host now k row rows ks h hk a dead
    e))
    (cases_Bool (list_any (is_live_of now row) rows)))
    (λ (d : is_dead now row.death ≡ false).
    ⊎_elim
    (λ (e : list_any (has_key_of row) rows ≡ true). rw (d, e)
    (replaced_writes counts host now k row rows ks h hk mine a e))
    (λ (e : list_any (has_key_of row) rows ≡ false). rw (d, e)
    (inserted_writes counts host now k row rows ks h hk mine a e))
    (cases_Bool (list_any (has_key_of row) rows)))
    (cases_Bool (is_dead now row.death))

-- ---- A ROW OF ANOTHER HOST, or of a name that doesn't count

pub other_any : (counts : Counts) (host : List ℕ) (row r : Row) → is_own counts host row ≡ false
    → is_own counts host r ≡ true → has_key_of row r ≡ false
other_any counts host row r other own =
    ⊎_elim
    (λ e. absurd (both_ways _ other (sym (own_key counts host row r e) ∙ own)))
    (λ e. e)
    (cases_Bool (has_key_of row r))

pub map_keeps : (counts : Counts) (host : List ℕ) (f : Row → Row) (rows : List Row) (ks : List Kept)
    → Agrees counts host rows ks → ((r : Row) → is_own counts host (f r) ≡ is_own counts host r)
    → ((r : Row) → is_own counts host r ≡ true → f r ≡ r)
    → ((r : Row) → IsOther counts host r → IsOther counts host (f r)) → Agrees counts host (map f rows) ks
map_keeps counts host f rows ks a h g o = record {
  good = a.good;
  own = subst (Pairwise (IsRowOf host) ks) (sym (rows_map_other counts host f h g rows)) a.own;
  apart = a.apart;
  others = all_rows_map (IsOther counts host) f o rows a.others;
}

pub inserted_keeps : (counts : Counts) (host : List ℕ) (row : Row) (rows : List Row) (ks : List Kept)
    → is_own counts host row ≡ false → IsOther counts host row → Agrees counts host rows ks
    → Agrees counts host (inserted row rows) ks
inserted_keeps counts host row rows ks other alien a = record {
  good = a.good;
  own = subst (Pairwise (IsRowOf host) ks) (sym same) a.own;
  apart = a.apart;
  others = all_inserted (IsOther counts host) row rows alien a.others;
}
  where
    same : rows_of counts host (inserted row rows) ≡ rows_of counts host rows
    same =
        ⊎_elim
        (λ (e : list_any (has_place_of row) rows ≡ true). rw e
        (other_behind counts host (has_place_of row) row rows other))
        (λ (e : list_any (has_place_of row) rows ≡ false). rw e
        (other_behind counts host (has_domain_of row) row rows other))
        (cases_Bool (list_any (has_place_of row) rows))

pub settled_keeps : (counts : Counts) (host : List ℕ) (now : ℤ) (row : Row) (rows : List Row) (ks : List Kept)
    → is_own counts host row ≡ false → IsOther counts host row → Agrees counts host rows ks
    → Agrees counts host (settled rows now row).1 ks
settled_keeps counts host now row rows ks other alien a =
    ⊎_elim
    (λ (d : is_dead now row.death ≡ true).
    ⊎_elim
    (λ (e : list_any (is_live_of now row) rows ≡ true). rw (d, e)
    (map_keeps counts host (λ r. cond (is_live_of now row r) (at_epoch r) r) rows ks a
    (λ r. epoch_own counts host (is_live_of now row r) r)
    (λ r own. ap (λ b. cond (b && not (is_dead now r.death)) (at_epoch r) r) (other_any counts host row r other own))
    (λ r g. epoch_other counts host (is_live_of now row r) r g)))
    (λ (e : list_any (is_live_of now row) rows ≡ false). rw (d, e) a)
    (cases_Bool (list_any (is_live_of now row) rows)))
    (λ (d : is_dead now row.death ≡ false).
    ⊎_elim
    (λ (e : list_any (has_key_of row) rows ≡ true). rw (d, e)
    (map_keeps counts host (λ r. cond (has_key_of row r) row r) rows ks a
    (λ r. replaced_own counts host row r)
    (λ r own. ap (λ b. cond b row r) (other_any counts host row r other own))
    (λ r g. replaced_other counts host row alien r g)))
    (λ (e : list_any (has_key_of row) rows ≡ false). rw (d, e)
    (inserted_keeps counts host row rows ks other alien a))
    (cases_Bool (list_any (has_key_of row) rows)))
    (cases_Bool (is_dead now row.death))

-- ---- a row of the host, whether its name counts or not

uncounted : (counts : Counts) (k : Kept) (q : List ℕ) → counts k.name ≡ false → counts q ≡ true
    → bytes_eq q k.name ≡ false
uncounted counts k q none c = other_text q k.name (λ same. both_ways _ none (ap counts (sym same) ∙ c))

pub sent_writes : (counts : Counts) (host : List ℕ) (now : ℤ) (k : Kept) (row : Row) (rows : List Row) (ks : List Kept)
    → IsRowOf host k row → IsGoodKept k → Agrees counts host rows ks → pos 0 ≤ℤ now
    → Writes counts host now k ks (settled rows now row).1
sent_writes counts host now k row rows ks h hk a after =
    ⊎_elim
    (λ (e : counts k.name ≡ true). settled_writes counts host now k row rows ks h hk
    (own_is counts host k row h hk ∙ e) a after)
    (λ (e : counts k.name ≡ false). record {
      cookies = ks;
      agrees = settled_keeps counts host now row rows ks (own_is counts host k row h hk ∙ e)
          (λ other c. absurd (both_ways _ (name_counts counts host k row h hk ∙ e) c)) a;
      each = λ q c. sym (cond-false _ _ _ (uncounted counts k q e c));
    })
    (cases_Bool (counts k.name))
