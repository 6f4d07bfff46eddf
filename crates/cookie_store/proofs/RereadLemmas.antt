-- Rows that were saved and are loaded.
use Rattle.std.proofs.Common.{◌≡◌, inl, inr, ℕ, ℤ, Bool, List, [], ◌∷◌, Option, Some, None, refl, sym, ap, subst, ◌∙◌}
use Rattle.std.specs.Prelude.{Ok}
use Rattle.std.proofs.lemmas.Option.{none-some, same_Some}
use Rattle.std.specs.List.{AllByRecursion}
use Rattle.jiff.specs.Words.{civil_nanos}
use Rattle.cookie_text.specs.Reading.{ReadsPlain}
use Rattle.cookie_text.specs.ReadingBack.{Pairwise}
use Rattle.serde_json.specs.Read.{read}
use Rattle.saved_text.specs.DateReading.{IsDateOf, AreOfOneMoment}
use Rattle.saved_text.specs.Json.{rows_value, ListsReadBack}
use Rattle.saved_text.specs.JsonReading.{HasDeath, IsReadable, IsJsonFault, AreNoRows}
use Rattle.saved_text.specs.PrintedDates.{without_fraction, IsWholeSecondOf, PrintedDatesAreRead, FractionsAreDropped}
use Rattle.saved_text.specs.Rfc3339.{date_text}
use Rattle.saved_text.specs.Row as saved
use Rattle.saved_text.specs.Row.{Shown}
use Rattle.saved_text.specs.RowWords.{AreBytes, IsRowOfBytes, ShowsRon, WrittenIsOfGrammar}
use Rattle.saved_text.specs.RowWords.{text_in_domain, text_of_date}
use Rattle.saved_text.specs.RonReading.{IsRonFault}
use Rattle.saved_text.specs.Saved.{IsCookieText}
use Rattle.saved_text.specs.declared.error.SavedTextError.{SavedTextError}
use Rattle.saved_text.specs.declared.error.SavedTextError.TheVariants as fault
use Rattle.saved_text.specs.declared.row.SavedExpiration.TheVariants.{AtUtc, SessionEnd}
use Rattle.store_parts.specs.declared.error.Error.TheVariants.{OutOfMemory}
use Rattle.store_parts.specs.DomainMatch.{Domain, host_only, suffix, not_present, empty, text_or_empty}
use Rattle.cookie_store.specs.Placing.{loaded_store}
use Rattle.cookie_store.specs.Rows.{Row, Store}
use Rattle.cookie_store.specs.SavedLaws.{HoldsReread, IsOfBytes, PrintsCookie, RonComesBack, RonIsRead, JsonComesBack}
use Rattle.cookie_store.specs.SavedLaws.{JsonIsRead}
use Rattle.cookie_store.specs.SavedRows.{IsShownAs, IsLoadedFrom, IsReread, IsExpiryOf, IsDeathOf, IsWholeDeath}
use Rattle.cookie_store.specs.SavedRows.{domain_shown}
use Rattle.cookie_store.specs.SavedTexts.{of_saved_text}
use Rattle.cookie_store.proofs.GroupedLemmas.{loaded_stay}
use Rattle.cookie_store.proofs.ShownLemmas.{same_shown, date_bytes, whole, whole_nanos}

-- ---- one row

abbrev domain_in : saved.Domain → Domain
domain_in (saved.host_only t) = host_only t
domain_in (saved.suffix t) = suffix t
domain_in saved.not_present = not_present
domain_in saved.empty = empty

domain_back : (d : Domain) → domain_in (domain_shown d) ≡ d
domain_back (host_only t) = refl
domain_back (suffix t) = refl
domain_back not_present = refl
domain_back empty = refl

-- ---- bytes

domain_bytes : (d : Domain) → AreBytes (text_or_empty d) → AreBytes (text_in_domain (domain_shown d))
domain_bytes (host_only t) h = h
domain_bytes (suffix t) h = h
domain_bytes not_present h = h
domain_bytes empty h = h

expiry_bytes : (death : Option ℤ) (date : Option (List ℕ)) → IsExpiryOf death date → AreBytes (text_of_date date)
expiry_bytes (Some m) (Some date) h = subst AreBytes (sym h.text) (date_bytes h.moment)
expiry_bytes (Some m) None h = absurd h
expiry_bytes None (Some date) h = absurd h
expiry_bytes None None h = tt

row_bytes : (row : Row) (t : Shown) → IsOfBytes row → IsShownAs row t → IsRowOfBytes t
row_bytes row t b h = record {
  raw = subst AreBytes (sym h.raw) b.raw;
  path = subst AreBytes (sym h.path) b.path;
  domain = subst (λ d. AreBytes (text_in_domain d)) (sym h.domain) (domain_bytes row.domain b.domain);
  date = expiry_bytes row.death t.expires h.expires;
}

rows_bytes : (rows : List Row) (ts : List Shown) → AllByRecursion IsOfBytes rows → Pairwise IsShownAs rows ts
    → AllByRecursion IsRowOfBytes ts
rows_bytes [] [] b h = tt
rows_bytes [] (t ∷ ts) b h = absurd h
rows_bytes (r ∷ rs) [] b h = absurd h
rows_bytes (r ∷ rs) (t ∷ ts) b h = (row_bytes r t b.0 h.0, rows_bytes rs ts b.1 h.1)

-- ---- where they stand

held_reread : (with_expired : Bool) (now : ℤ) (rows reread : List Row) (store : Store) → Pairwise IsReread rows reread
    → store ≡ loaded_store with_expired now reread → HoldsReread with_expired now rows store
held_reread with_expired now rows reread store pairs placed = record {
  reread = reread;
  pairs = pairs;
  placed = placed;
  stay = λ grouped apart. placed
      ∙ ap (λ rs. record { rows = rs; suffixes = [] }) (loaded_stay with_expired now rows reread pairs grouped apart);
}

-- ---- what is printed of dates is read

module _ (read_printed : PrintedDatesAreRead) (dropped : FractionsAreDropped) (once : AreOfOneMoment) where
  death_back : (death : Option ℤ) (date : Option (List ℕ)) (whole : Option ℤ) → IsExpiryOf death date
      → IsDeathOf date whole → IsWholeDeath death whole
  death_back (Some m) (Some date) (Some whole) h k =
      let same : whole ≡ without_fraction h.moment =
      once date whole (without_fraction h.moment) k
      (subst (λ t. IsDateOf t (without_fraction h.moment)) (sym h.text) (read_printed h.moment h.year)) in
      rw same (subst (IsWholeSecondOf (without_fraction h.moment)) h.nanos (dropped h.moment))
  death_back (Some m) (Some date) None h k = absurd k
  death_back (Some m) None whole h k = absurd h
  death_back None (Some date) whole h k = absurd h
  death_back None None (Some whole) h k = absurd k
  death_back None None None h k = tt

  row_back : (row : Row) (t : Shown) (loaded : Row) → IsShownAs row t → IsLoadedFrom t loaded → IsReread row loaded
  row_back row t loaded h k = record {
    seen = k.seen;
    reads = subst (λ text. ReadsPlain text (Ok k.seen)) h.raw k.reads;
    raw = k.raw;
    path = λ i. record { text = (k.path ∙ h.path) i; from_attribute = (k.from_attribute ∙ h.from_attribute) i };
    domain = sym (domain_back loaded.domain) ∙ ap domain_in (k.domain ∙ h.domain) ∙ domain_back row.domain;
    death = death_back row.death t.expires loaded.death h.expires k.death;
  }

  rows_back : (rows : List Row) (ts : List Shown) (loaded : List Row) → Pairwise IsShownAs rows ts
      → Pairwise IsLoadedFrom ts loaded → Pairwise IsReread rows loaded
  rows_back [] [] [] h k = tt
  rows_back [] [] (l ∷ ls) h k = absurd k
  rows_back [] (t ∷ ts) ls h k = absurd h
  rows_back (r ∷ rs) [] ls h k = absurd h
  rows_back (r ∷ rs) (t ∷ ts) [] h k = absurd k
  rows_back (r ∷ rs) (t ∷ ts) (l ∷ ls) h k = (row_back r t l h.0 k.0, rows_back rs ts ls h.1 k.1)

  -- ---- where what is printed reads

  expiry_reads : (death : Option ℤ) (date : Option (List ℕ)) → IsExpiryOf death date → HasDeath date
  expiry_reads (Some m) (Some date) h = (
    AtUtc (whole h.moment),
    subst (λ t. IsDateOf t (civil_nanos (whole h.moment))) (sym h.text)
        (subst (IsDateOf (date_text h.moment)) (whole_nanos h.moment) (read_printed h.moment h.year)),
  )
  expiry_reads (Some m) None h = absurd h
  expiry_reads None (Some date) h = absurd h
  expiry_reads None None h = (SessionEnd, tt)

  all_read : (rows : List Row) (ts : List Shown) → AllByRecursion PrintsCookie rows → Pairwise IsShownAs rows ts
      → AllByRecursion IsReadable ts
  all_read [] [] p h = tt
  all_read [] (t ∷ ts) p h = absurd h
  all_read (r ∷ rs) [] p h = absurd h
  all_read (r ∷ rs) (t ∷ ts) p h = (
    (subst IsCookieText (sym h.0.raw) p.0, expiry_reads r.death t.expires h.0.expires),
    all_read rs ts p.1 h.1,
  )

  pub ron_read : WrittenIsOfGrammar → RonIsRead
  ron_read written rows text e bytes prints utf8 (ts, shown, is) (inl (e_is, none)) = absurd (none utf8)
  ron_read written rows text e bytes prints utf8 (ts, shown, is) (inr (same, (cause, why, e_is))) = by cause why e_is
    where
      shows : ShowsRon text ts
      shows = subst (λ x. ShowsRon x ts) (sym is) (written ts (rows_bytes rows ts bytes shown))

      by : (cause : SavedTextError) → IsRonFault text cause → e ≡ of_saved_text cause → e ≡ OutOfMemory
      by (fault.Ron n) why e_is = absurd (why.0 ts shows (all_read rows ts prints shown))
      by fault.OutOfMemory why e_is = e_is
      by fault.NotText why e_is = absurd (why utf8)
      by fault.Json why e_is = absurd why
      by fault.Shape why e_is = absurd why

  pub json_read : ListsReadBack → JsonIsRead
  json_read lists rows text e prints utf8 (ts, shown, is) (inl (e_is, none)) = absurd (none utf8)
  json_read lists rows text e prints utf8 (ts, shown, is) (inr (same, (cause, why, e_is))) = by cause why e_is
    where
      value : read text ≡ Some (rows_value ts)
      value = ap read is ∙ lists ts

      by : (cause : SavedTextError) → IsJsonFault AreNoRows text cause → e ≡ of_saved_text cause → e ≡ OutOfMemory
      by fault.Json why e_is = absurd (none-some (rows_value ts) (sym why ∙ value))
      by fault.Shape (d, reads, none) e_is =
          absurd (none ts (same_Some d (rows_value ts) (sym reads ∙ value)) (all_read rows ts prints shown))
      by fault.OutOfMemory why e_is = e_is
      by fault.NotText why e_is = absurd why
      by (fault.Ron n) why e_is = absurd why

  pub ron_back : WrittenIsOfGrammar → RonComesBack
  ron_back written rows text with_expired now store bytes (ts, shown, is) (all, only, (loaded, pairs, held)) =
      let shows : ShowsRon text ts =
      subst (λ x. ShowsRon x ts) (sym is) (written ts (rows_bytes rows ts bytes shown)) in
      let same : ts ≡ all = only.1 ts shows in
      held_reread with_expired now rows loaded store
      (rows_back rows ts loaded shown (subst (λ us. Pairwise IsLoadedFrom us loaded) (sym same) pairs)) held

  pub json_back : ListsReadBack → JsonComesBack
  json_back lists rows text with_expired now store (ts, shown, is) (all, (utf8, reads), (loaded, pairs, held)) =
      let same : ts ≡ all = same_shown ts all (same_Some _ _ (sym (lists ts) ∙ ap read (sym is) ∙ reads)) in
      held_reread with_expired now rows loaded store
      (rows_back rows ts loaded shown (subst (λ us. Pairwise IsLoadedFrom us loaded) (sym same) pairs)) held
