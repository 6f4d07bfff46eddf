-- What a jar's text is read as again.
use Rattle.std.proofs.Common.{◌≡◌, ◌∙◌, ◌∷◌, [], ℕ, ℤ, true, false, cond, List, map, ap, sym, refl, subst, inl, inr}
use Rattle.std.proofs.Common.{Ok, Err, Option, Some, None}
use Rattle.std.specs.Prelude.{◌++◌, ◌||◌, IsOk}
use Rattle.std.specs.List.{AllByRecursion}
use Rattle.cookie_text.specs.Again.{BoundReadAgain, IsReadPair, PairsReadAgain}
use Rattle.cookie_text.specs.ReadingBack.{Pairwise}
use Rattle.cookie_text.specs.Printing.{is_set}
use Rattle.cookie_text.specs.Record.{Seen, domain_of as domain_attribute}
use Rattle.store_parts.specs.DomainMatch.{Domain, empty, host_only, not_present, suffix, text_or_empty}
use Rattle.store_parts.specs.PathMatch.{Path}
use Rattle.cookie_store.specs.Given.{ArePicked}
use Rattle.cookie_store.specs.Grouped.{AreGrouped, PartsStay}
use Rattle.cookie_store.specs.Placing.{loaded_store}
use Rattle.cookie_store.specs.Rows.{Key, Row, Store, domain_text, is_live, key_of, live}
use Rattle.cookie_store.specs.SavedLaws.{JsonComesBack, JsonIsRead, RonComesBack, RonIsRead}
use Rattle.cookie_store.specs.SavedRows.{IsReread}
use Rattle.cookies_txt.specs.Laws.{WrittenRowsAreSaid, WrittenRowsComeBack}
use Rattle.cookies_txt.specs.Layout.{CookieLine, cookies_txt}
use Rattle.cookies_txt.specs.Reading.{GivesRows, IsFine, IsFirstFault, SaysLines}
use Rattle.cookies_txt.specs.Writing.{IsThroughCookiesTxt, flag_of, held, is_suffix, line_of_row}
use Rattle.cookie_client.specs.HostPrefix.{BeginsHost, IsHeldRightly, IsHostRow}
use Rattle.cookie_client.specs.KeptKeys.{IsRowKept}
use Rattle.cookies_txt.specs.declared.error.LineFault.{LineFault}
use Rattle.cookie_client.proofs.ClientRows.{all_print}
use Rattle.cookie_client.proofs.HostRows.{reread_held}
use Rattle.cookie_jar.specs.Keeping.{AreKept, IsKept, has_control}
use Rattle.cookie_jar.specs.Laws.{IsSameIn, SavedRowsAreLoaded, SavedTextsAreRead}
use Rattle.cookie_jar.specs.declared.form.Form.{Form}
use Rattle.cookie_jar.specs.declared.form.Form.TheVariants.{Ron, Json, Txt}
use Rattle.cookie_jar.proofs.KeepLemmas.{pairs_of}
use Rattle.cookie_jar.proofs.KeyLemmas.{loaded_with}
use Rattle.cookie_jar.proofs.RowLemmas.{filter_all, live_part}

-- ---- a row that is reread

-- its key
same_in : (form : Form) (r o : Row) → IsSameIn form r o → key_of o ≡ key_of r
same_in Ron r o h =
    λ i. record { domain = text_or_empty (h.domain i); path = (h.path i).text; name = h.name i }
same_in Json r o h =
    λ i. record { domain = text_or_empty (h.domain i); path = (h.path i).text; name = h.name i }
same_in Txt r o h = record_of
  where
    named : o.raw.cookie.name ≡ r.raw.cookie.name
    named = ap (λ (s : Seen). s.cookie.name) h.raw

    pathed : o.path.text ≡ r.path.text
    pathed = ap (λ (p : Path). p.text) h.path

    by : (d : Domain) → text_or_empty (cond (is_suffix d) (suffix (text_or_empty d)) (host_only (text_or_empty d)))
        ≡ text_or_empty d
    by (host_only text) = refl
    by (suffix text) = refl
    by not_present = refl
    by empty = refl

    domained : text_or_empty o.domain ≡ text_or_empty r.domain
    domained = ap text_or_empty h.domain ∙ by r.domain

    record_of : key_of o ≡ key_of r
    record_of = λ i. record { domain = domained i; path = pathed i; name = named i }

-- key and value are the same, so no control character and a pair that a text gives
kept_by : (r o : Row) → key_of o ≡ key_of r → o.raw.cookie.value ≡ r.raw.cookie.value → IsKept r → IsHeldRightly o
    → IsKept o
kept_by r o key value kept held =
    let name : o.raw.cookie.name ≡ r.raw.cookie.name = ap (λ (k : Key). k.name) key in
    let domain : domain_text o ≡ domain_text r = ap (λ (k : Key). k.domain) key in
    let path : o.path.text ≡ r.path.text = ap (λ (k : Key). k.path) key in
    record {
      clean = (λ i. (has_control (name i) || has_control (value i)) || (has_control (domain i) || has_control (path i)))
          ∙ kept.clean;
      pair = subst (λ n. IsReadPair n o.raw.cookie.value) (sym name)
          (subst (IsReadPair r.raw.cookie.name) (sym value) kept.pair);
      held = held;
    }

module _ (law : PairsReadAgain) (bound : BoundReadAgain) where
  same_row : (r o : Row) → IsKept r → IsReread r o → IsRowKept r o
  same_row r o kept h =
      let back = (law r.raw.cookie (Ok h.seen) kept.pair h.reads).pair in
      record {
        domain = h.domain;
        path = h.path;
        name = ap (λ (s : Seen). s.cookie.name) h.raw ∙ back.0;
        value = ap (λ (s : Seen). s.cookie.value) h.raw ∙ back.1;
        death = h.death;
      }

  reread_kept : (r o : Row) → IsKept r → IsReread r o → IsKept o
  reread_kept r o kept h =
      let same = same_row r o kept h in
      kept_by r o (same_in Ron r o same) same.value kept (reread_held law bound r o kept.pair kept.held h)

  rereads_same : (rows others : List Row) → AreKept rows → Pairwise IsReread rows others
      → Pairwise IsRowKept rows others × AreKept others
  rereads_same [] [] kept h = (tt, tt)
  rereads_same [] (o ∷ os) kept h = absurd h
  rereads_same (r ∷ rs) [] kept h = absurd h
  rereads_same (r ∷ rs) (o ∷ os) kept h =
      let rest = rereads_same rs os kept.1 h.1 in
      ((same_row r o kept.0 h.0, rest.0), (reread_kept r o kept.0 h.0, rest.1))

-- ---- a row through a line of `cookies.txt`

through_host : (r o : Row) → IsHostRow r → IsThroughCookiesTxt r o → IsHostRow o
through_host r o host h =
    let below : is_suffix r.domain ≡ false = ap is_suffix host.domain.1 in
    let secure : is_set r.raw.cookie.secure ≡ true = ap is_set host.conforms.secure in
    record {
      domain = (
        text_or_empty r.domain,
        h.domain ∙ ap (λ b. cond b (suffix (text_or_empty r.domain)) (host_only (text_or_empty r.domain))) below,
      );
      path = h.path ∙ ap (λ (p : Path). record { text = p.text; from_attribute = true }) host.path;
      conforms = record {
        secure = ap (λ (s : Seen). s.cookie.secure) h.raw ∙ ap flag_of secure;
        path = ap (λ (s : Seen). s.cookie.path) h.raw ∙ ap (λ (p : Path). Some p.text) host.path;
        domain = ap (λ (s : Seen). domain_attribute s.cookie) h.raw
            ∙ ap (λ b. domain_attribute (record r.raw.cookie { domain = cond b (Some (text_or_empty r.domain)) None }))
            below;
      };
    }

through_kept : (r o : Row) → IsKept r → IsThroughCookiesTxt r o → IsKept o
through_kept r o kept h =
    let name : o.raw.cookie.name ≡ r.raw.cookie.name = ap (λ (s : Seen). s.cookie.name) h.raw in
    let value : o.raw.cookie.value ≡ r.raw.cookie.value = ap (λ (s : Seen). s.cookie.value) h.raw in
    kept_by r o (same_in Txt r o h) value kept
    (λ begins. through_host r o (kept.held (subst BeginsHost name begins)) h)

throughs_kept : (rows others : List Row) → AreKept rows → Pairwise IsThroughCookiesTxt rows others → AreKept others
throughs_kept [] [] kept h = tt
throughs_kept [] (o ∷ os) kept h = absurd h
throughs_kept (r ∷ rs) [] kept h = absurd h
throughs_kept (r ∷ rs) (o ∷ os) kept h = (through_kept r o kept.0 h.0, throughs_kept rs os kept.1 h.1)

-- ---- a text

picked_once : (rows left : List Row) → AreKept rows → ArePicked IsKept rows left → left ≡ rows
picked_once [] left kept p = p
picked_once (r ∷ rs) left kept (later, rest, inl is) = is.1 ∙ ap (λ ys. r ∷ ys) (picked_once rs later kept.1 rest)
picked_once (r ∷ rs) left kept (later, rest, inr is) = absurd (is.0 kept.0)

-- what is read of rows, each as the form keeps it, is what is loaded
loaded_same : (form : Form) (parts : PartsStay) (rows read : List Row) (loading : ℤ) (store : Store)
    (left : List Row) → AreGrouped rows → Pairwise (IsSameIn form) rows read → AreKept read
    → store ≡ loaded_store false loading read → ArePicked IsKept store.rows left → left ≡ live loading read
loaded_same form parts rows read loading store left grouped pairs kept is picked =
    let placed : store.rows ≡ live loading read = ap (λ (s : Store). s.rows) is
    ∙ loaded_with (IsSameIn form) (same_in form) parts loading rows read pairs grouped in
    let all : AreKept store.rows = subst AreKept (sym placed) (filter_all IsKept (is_live loading) read kept) in
    picked_once store.rows left all picked ∙ placed

pub saved_rows_are_loaded : (parts : PartsStay) (law : PairsReadAgain) (bound : BoundReadAgain) → RonComesBack
    → JsonComesBack → WrittenRowsComeBack → SavedRowsAreLoaded
saved_rows_are_loaded parts law bound ron json txt Ron rows saving loading text store left kept grouped bytes fits is
    reads picked =
    let saved = live saving rows in
    let own = filter_all IsKept (is_live saving) rows kept in
    let h = ron saved text false loading store bytes is reads in
    let same = rereads_same law bound saved h.reread own h.pairs in (
      h.reread,
      same.0,
      loaded_same Ron parts saved h.reread loading store left
          (parts.grouped rows saved grouped (live_part saving rows)) same.0 same.1 h.placed picked,
    )
saved_rows_are_loaded parts law bound ron json txt Json rows saving loading text store left kept grouped bytes fits is
    reads picked =
    let saved = live saving rows in
    let own = filter_all IsKept (is_live saving) rows kept in
    let h = json saved text false loading store is reads in
    let same = rereads_same law bound saved h.reread own h.pairs in (
      h.reread,
      same.0,
      loaded_same Json parts saved h.reread loading store left
          (parts.grouped rows saved grouped (live_part saving rows)) same.0 same.1 h.placed picked,
    )
saved_rows_are_loaded parts law bound ron json txt Txt rows saving loading text store left kept grouped bytes fits is
    (read, gives, placed) picked =
    let saved = live saving rows in
    let own = filter_all IsKept (is_live saving) rows kept in
    let written : text ≡ cookies_txt (map line_of_row (held saved)) =
    is ∙ ap (λ rs. cookies_txt (map line_of_row rs)) (sym fits) in
    let through : Pairwise IsThroughCookiesTxt saved read = subst (λ rs. Pairwise IsThroughCookiesTxt rs read) fits
    (txt saved read (subst (λ t. GivesRows t read) written gives)) in (
      read,
      through,
      loaded_same Txt parts saved read loading store left
          (parts.grouped rows saved grouped (live_part saving rows)) through
          (throughs_kept saved read own through) placed picked,
    )

-- ---- it is read

fine_at : (before : List (List ℕ)) (line : List ℕ) (after : List (List ℕ))
    → AllByRecursion IsFine (before ++ line ∷ after) → IsFine line
fine_at [] line after all = all.0
fine_at (l ∷ before) line after all = fine_at before line after all.1

not_ok : (fault : LineFault) → IsOk {T = Option CookieLine} (Err fault) → ⊥
not_ok fault ok = cc

no_fault : (text : List ℕ) (all : List CookieLine) (number : ℕ) (fault : LineFault) → SaysLines text all
    → IsFirstFault text number fault → ⊥
no_fault text all number fault says first =
    not_ok fault (subst IsOk first.is
    (fine_at first.before first.line first.after (subst (AllByRecursion IsFine) first.split says.fine)))

pub saved_texts_are_read : RonIsRead → JsonIsRead → WrittenRowsAreSaid → SavedTextsAreRead
saved_texts_are_read ron json txt Ron rows saving text e kept bytes fits utf8 is (inl memory) = memory
saved_texts_are_read ron json txt Ron rows saving text e kept bytes fits utf8 is
    (inr (told, (cause, other, refusal))) =
    let saved = live saving rows in
    let own = filter_all IsKept (is_live saving) rows kept in
    absurd (other (ron saved text cause bytes (all_print saved (pairs_of saved own)) utf8 is refusal))
saved_texts_are_read ron json txt Json rows saving text e kept bytes fits utf8 is (inl memory) = memory
saved_texts_are_read ron json txt Json rows saving text e kept bytes fits utf8 is
    (inr (told, (cause, other, refusal))) =
    let saved = live saving rows in
    let own = filter_all IsKept (is_live saving) rows kept in
    absurd (other (json saved text cause (all_print saved (pairs_of saved own)) utf8 is refusal))
saved_texts_are_read ron json txt Txt rows saving text e kept bytes fits utf8 is (inl memory) = memory
saved_texts_are_read ron json txt Txt rows saving text e kept bytes fits utf8 is
    (inr (told, (cause, other, inl (none, bad)))) = absurd (bad utf8)
saved_texts_are_read ron json txt Txt rows saving text e kept bytes fits utf8 is
    (inr (told, (cause, other, inr (good, inl memory)))) = absurd (other memory)
saved_texts_are_read ron json txt Txt rows saving text e kept bytes fits utf8 is
    (inr (told, (cause, other, inr (good, inr (number, fault, first, same))))) =
    let saved = live saving rows in
    let written : text ≡ cookies_txt (map line_of_row (held saved)) =
    is ∙ ap (λ rs. cookies_txt (map line_of_row rs)) (sym fits) in
    absurd (no_fault text (map line_of_row (held saved)) number fault
    (subst (λ t. SaysLines t (map line_of_row (held saved))) (sym written) (txt saved)) first)
