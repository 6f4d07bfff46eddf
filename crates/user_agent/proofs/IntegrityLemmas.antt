-- Secure rows stay as they are, whatever comes from a URL that isn't secure.
use Rattle.std.proofs.Common.{◌≡◌, ◌⊎◌, ℕ, ℤ, List, [], ◌∷◌, ◌++◌, ◌&&◌, Bool, true, false, not, cond, Option, Some}
use Rattle.std.proofs.Common.{None}
use Rattle.std.proofs.Common.{Result, Ok, Err, sym, refl, ap, ◌∙◌, subst, inl, inr, ⊎_elim, IsTrue}
use Rattle.std.specs.Prelude.{filter, map, option_and_then, option_map, IsSomeAnd}
use Rattle.std.specs.List.{AllByRecursion, list_any}
use Rattle.std.specs.Str.{IsUtf8, bytes_eq}
use Rattle.std.proofs.lemmas.Bool.{and_parts, both_ways, cases_Bool, cond-true, cond-false}
use Rattle.std.proofs.lemmas.Option.{same_Some}
use Rattle.std.proofs.lemmas.Slice.Eq.{bytes_eq-Decides}
use Rattle.publicsuffix.specs.Rules.{Rule}
use Rattle.url.specs.Parts.{Parts}
use Rattle.percent_encoding.specs.Percent.{percent_decode}
use Rattle.cookie_text.specs.Printing.{is_set}
use Rattle.cookie_text.specs.Reading.{ReadsPlain}
use Rattle.cookie_text.specs.Record.{Record, Seen, unsliced}
use Rattle.cookie_text.specs.declared.error.ParseError.{ParseError}
use Rattle.store_parts.specs.DomainMatch.{Domain, host_only, suffix, not_present, empty, text_or_empty}
use Rattle.store_parts.specs.Expiry.{is_dead}
use Rattle.store_parts.specs.Schemes.{IsSecure, host_of}
use Rattle.store_parts.specs.declared.error.CookieError.{CookieError}
use Rattle.cookie_store.specs.Insertion.{Admits, End, Fits, Inserts, InsertsRaw, InsertsRead, Settles, alone, refused}
use Rattle.cookie_store.specs.Insertion.{settled}
use Rattle.cookie_store.specs.Making.{IsDomainFor, IsMade}
use Rattle.cookie_store.specs.Rows.{Row, behind_last, domain_text, ended, expired, has_domain_of, has_key_of}
use Rattle.cookie_store.specs.Rows.{has_place_of, inserted, is_live, is_live_of, put, replaced}
use Rattle.cookie_store.specs.declared.action.StoreAction.{StoreAction}
use Rattle.cookie_client.specs.Accept.{Accepts}
use Rattle.cookie_client.specs.declared.outcome.LineEnd.{LineEnd}
use Rattle.user_agent.specs.Agent.{TakesLine, TakesLines}
use Rattle.user_agent.specs.Integrity.{ProtectedRowsStay, is_protected}
use Rattle.user_agent.specs.Refusals.{HasOne, IsLetIn, IsOverlaid, domain_at, new_domain}
use Rattle.user_agent.specs.declared.rules.Outcome.{Outcome}
use Rattle.user_agent.specs.declared.rules.Refusal.TheVariants.{SecureFromHttp, SecureOverlay}
use Rattle.user_agent.specs.declared.rules.Rules.{Rules}

-- ---- lists of rows

module _ (P : Row → Bool) where
  -- rows that change only where they don't pass, before and after
  abbrev IsKept : (Row → Row) → Row → Type 0
  IsKept f y = (f y ≡ y) ⊎ ((P y ≡ false) × (P (f y) ≡ false))

  keeps_map : (f : Row → Row) (rows : List Row) → AllByRecursion (IsKept f) rows
      → filter P (map f rows) ≡ filter P rows
  keeps_map f [] h = refl
  keeps_map f (y ∷ ys) (inl same, rest) =
      ap (λ z. filter P (z ∷ map f ys)) same ∙ ap (λ zs. cond (P y) (y ∷ zs) zs) (keeps_map f ys rest)
  keeps_map f (y ∷ ys) (inr (old, new), rest) =
      cond-false (P (f y)) (f y ∷ filter P (map f ys)) (filter P (map f ys)) new
      ∙ keeps_map f ys rest ∙ sym (cond-false (P y) (y ∷ filter P ys) (filter P ys) old)

  keeps_behind : (test : Row → Bool) (x : Row) (rows : List Row) → P x ≡ false
      → filter P (behind_last test x rows) ≡ filter P rows
  keeps_behind test x [] h = cond-false (P x) (x ∷ []) [] h
  keeps_behind test x (y ∷ ys) h =
      ⊎_elim
      (λ (here : (test y && not (list_any test ys)) ≡ true).
      ap (filter P) (cond-true (test y && not (list_any test ys)) (y ∷ x ∷ ys) (y ∷ behind_last test x ys) here)
      ∙ ap (λ zs. cond (P y) (y ∷ zs) zs) (cond-false (P x) (x ∷ filter P ys) (filter P ys) h))
      (λ (later : (test y && not (list_any test ys)) ≡ false).
      ap (filter P) (cond-false (test y && not (list_any test ys)) (y ∷ x ∷ ys) (y ∷ behind_last test x ys) later)
      ∙ ap (λ zs. cond (P y) (y ∷ zs) zs) (keeps_behind test x ys h))
      (cases_Bool (test y && not (list_any test ys)))

all_from : (Is Q : Row → Type 0) → ((y : Row) → ¬ (Is y) → Q y) → (rows : List Row) → ¬ (HasOne Is rows)
    → AllByRecursion Q rows
all_from Is Q each [] none = tt
all_from Is Q each (y ∷ ys) none = (each y (λ h. none (inl h)), all_from Is Q each ys (λ h. none (inr h)))

-- ---- a row that overlays none

pub set_is : (flag : Option Bool) → is_set flag ≡ true → flag ≡ Some true
set_is None e = absurd (both_ways false refl e)
set_is (Some b) e = ap Some e

pub set_not : (flag : Option Bool) → ¬ (flag ≡ Some true) → is_set flag ≡ false
set_not None h = refl
set_not (Some true) h = absurd (h refl)
set_not (Some false) h = refl

pub not_dead : (b : Bool) → not b ≡ true → b ≡ false
not_dead true e = absurd (both_ways false refl e)
not_dead false e = refl

and_not : (a b : Bool) → a ≡ false → (a && b) ≡ false
and_not a b e = rw e refl

module _ (now : ℤ) (row : Row) (plain : ¬ (row.raw.cookie.secure ≡ Some true)) where
  abbrev Is : Row → Type 0
  Is = IsOverlaid row.raw.cookie.name (domain_text row) row.path.text now

  abbrev P : Row → Bool
  P = is_protected now

  row_not : P row ≡ false
  row_not = and_not (is_set row.raw.cookie.secure) (is_live now row) (set_not row.raw.cookie.secure plain)

  -- a protected row of its key would be overlaid
  overlaid : (y : Row) → has_key_of row y ≡ true → P y ≡ true → Is y
  overlaid y key protected =
      let held = and_parts (is_set y.raw.cookie.secure) (is_live now y) protected in
      let named = and_parts (has_place_of row y) (bytes_eq row.raw.cookie.name y.raw.cookie.name) key in
      let placed = and_parts (has_domain_of row y) (bytes_eq row.path.text y.path.text) named.0 in
      let name = (bytes_eq-Decides row.raw.cookie.name y.raw.cookie.name).0 named.1 in
      let domain = (bytes_eq-Decides (domain_text row) (domain_text y)).0 placed.0 in
      let path = (bytes_eq-Decides row.path.text y.path.text).0 placed.1 in
      record {
        secure = set_is y.raw.cookie.secure held.0;
        live = not_dead (is_dead now y.death) held.1;
        named = ap percent_decode (sym name);
        nested = inl (inl domain);
        covered = inl path;
      }

  key_not : (y : Row) → ¬ (Is y) → has_key_of row y ≡ true → P y ≡ false
  key_not y free key =
      ⊎_elim (λ (yes : P y ≡ true). absurd (free (overlaid y key yes))) (λ (no : P y ≡ false). no) (cases_Bool (P y))

  module _ (rows : List Row) (none : ¬ (HasOne Is rows)) where
    keeps_replaced : filter P (replaced row rows) ≡ filter P rows
    keeps_replaced =
        keeps_map P (λ y. cond (has_key_of row y) row y) rows
        (all_from Is (IsKept P (λ y. cond (has_key_of row y) row y)) each rows none)
      where
        each : (y : Row) → ¬ (Is y) → IsKept P (λ z. cond (has_key_of row z) row z) y
        each y free =
            ⊎_elim
            (λ (key : has_key_of row y ≡ true).
            inr (key_not y free key, ap P (cond-true (has_key_of row y) row y key) ∙ row_not))
            (λ (other : has_key_of row y ≡ false). inl (cond-false (has_key_of row y) row y other))
            (cases_Bool (has_key_of row y))

    keeps_inserted : filter P (inserted row rows) ≡ filter P rows
    keeps_inserted =
        ⊎_elim
        (λ (placed : list_any (has_place_of row) rows ≡ true).
        ap (filter P) (cond-true (list_any (has_place_of row) rows) (behind_last (has_place_of row) row rows)
        (behind_last (has_domain_of row) row rows) placed)
        ∙ keeps_behind P (has_place_of row) row rows row_not)
        (λ (new : list_any (has_place_of row) rows ≡ false).
        ap (filter P) (cond-false (list_any (has_place_of row) rows) (behind_last (has_place_of row) row rows)
        (behind_last (has_domain_of row) row rows) new)
        ∙ keeps_behind P (has_domain_of row) row rows row_not)
        (cases_Bool (list_any (has_place_of row) rows))

    keeps_put : filter P (put row rows) ≡ filter P rows
    keeps_put =
        ⊎_elim
        (λ (there : list_any (has_key_of row) rows ≡ true).
        ap (filter P) (cond-true (list_any (has_key_of row) rows) (replaced row rows) (inserted row rows) there)
        ∙ keeps_replaced)
        (λ (new : list_any (has_key_of row) rows ≡ false).
        ap (filter P) (cond-false (list_any (has_key_of row) rows) (replaced row rows) (inserted row rows) new)
        ∙ keeps_inserted)
        (cases_Bool (list_any (has_key_of row) rows))

    keeps_ended : filter P (ended now row rows) ≡ filter P rows
    keeps_ended =
        keeps_map P (λ y. cond (is_live_of now row y) (expired y) y) rows
        (all_from Is (IsKept P (λ y. cond (is_live_of now row y) (expired y) y)) each rows none)
      where
        still : (y : Row) → is_live now y ≡ true → P y ≡ false → P (expired y) ≡ false
        still y live quiet =
            and_not (is_set y.raw.cookie.secure) (is_live now (expired y))
            (⊎_elim
            (λ (set : is_set y.raw.cookie.secure ≡ true). absurd (both_ways (P y) quiet (rw (set, live) refl)))
            (λ (unset : is_set y.raw.cookie.secure ≡ false). unset)
            (cases_Bool (is_set y.raw.cookie.secure)))

        each : (y : Row) → ¬ (Is y) → IsKept P (λ z. cond (is_live_of now row z) (expired z) z) y
        each y free =
            ⊎_elim
            (λ (here : is_live_of now row y ≡ true).
            let parts = and_parts (has_key_of row y) (is_live now y) here in
            let quiet = key_not y free parts.0 in
            inr (quiet, ap P (cond-true (is_live_of now row y) (expired y) y here) ∙ still y parts.1 quiet))
            (λ (other : is_live_of now row y ≡ false). inl (cond-false (is_live_of now row y) (expired y) y other))
            (cases_Bool (is_live_of now row y))

    -- how its insertion ends
    rows_of : End → List Row
    rows_of end = end.1

    settled_keeps : filter P (settled rows now row).1 ≡ filter P rows
    settled_keeps =
        ⊎_elim
        (λ (dead : is_dead now row.death ≡ true).
        ⊎_elim
        (λ (live : list_any (is_live_of now row) rows ≡ true).
        ap (λ (e : End). filter P e.1) (cond-true _ _ _ dead ∙ cond-true _ _ _ live) ∙ keeps_ended)
        (λ (gone : list_any (is_live_of now row) rows ≡ false).
        ap (λ (e : End). filter P e.1) (cond-true _ _ _ dead ∙ cond-false _ _ _ gone))
        (cases_Bool (list_any (is_live_of now row) rows)))
        (λ (lives : is_dead now row.death ≡ false). ap (λ (e : End). filter P e.1) (cond-false _ _ _ lives) ∙ keeps_put)
        (cases_Bool (is_dead now row.death))

    fits_keeps : (url : Parts) (end : End) → Fits rows url now row end → filter P end.1 ≡ filter P rows
    fits_keeps url end (inl (out, e)) = ap (λ (x : End). filter P x.1) e
    fits_keeps url end (inr (covers, inl (guarded, e))) = ap (λ (x : End). filter P x.1) e
    fits_keeps url end (inr (covers, inr (free, e))) = ap (λ (x : End). filter P x.1) e ∙ settled_keeps

-- ---- a cookie that came from the URL

text_at : (asked : Option (List ℕ)) (domain : Domain) → option_map host_only asked ≡ Some domain
    → asked ≡ Some (text_or_empty domain)
text_at None domain e = absurd (cc e)
text_at (Some host) domain e = ap (λ d. Some (text_or_empty d)) (same_Some _ _ e)

made_domain : (url : Parts) (asked : Option Domain) (domain : Domain) → IsSomeAnd asked (λ a. IsDomainFor a url domain)
    → option_and_then (domain_at url) asked ≡ Some (text_or_empty domain)
made_domain url None domain h = absurd h
made_domain url (Some (host_only text)) domain h = absurd h
made_domain url (Some (suffix text)) domain h = ap (λ d. Some (text_or_empty d)) (sym h.0)
made_domain url (Some not_present) domain h = text_at (host_of url) domain h
made_domain url (Some empty) domain h = text_at (host_of url) domain h

module _ (rules : Rules) (from_http : IsTrue rules.secure_from_http) (overlay : IsTrue rules.secure_overlay)
    (list : List Rule) (url : Parts) (now : ℤ) (insecure : ¬ (IsSecure url)) where
  module _ (rows : List Row) (line : List ℕ) (let_in : IsLetIn rules rows url now line) (utf8 : IsUtf8 line)
      (seen : Seen) (reads : ReadsPlain line (Ok seen)) where
    plain : ¬ (seen.cookie.secure ≡ Some true)
    plain e = let_in SecureFromHttp from_http (utf8, (seen, reads, (e, insecure)))

    none_under : (domain : List ℕ) → new_domain seen.cookie url ≡ Some domain
        → ¬ (HasOne (IsOverlaid seen.cookie.name domain
        (Rattle.cookie_store.specs.Making.path_at seen.cookie url).text now) rows)
    none_under domain e h =
        let_in SecureOverlay overlay (
          utf8,
          (
            seen,
            reads,
            (record {
              plain = plain;
              insecure = insecure;
              row = subst (λ o. IsSomeAnd o (λ d. HasOne (IsOverlaid seen.cookie.name d
                  (Rattle.cookie_store.specs.Making.path_at seen.cookie url).text now) rows)) (sym e) h;
            }),
          ),
        )

    -- what is made of the cookie lies over none of the rows
    pub made_free : (made : Row) → IsMade (unsliced seen.cookie) url now made
        → ¬ (HasOne (IsOverlaid made.raw.cookie.name (domain_text made) made.path.text now) rows)
    made_free made is h =
        none_under (domain_text made) (made_domain url _ made.domain is.domain)
        (subst (λ name. HasOne (IsOverlaid name (domain_text made)
        (Rattle.cookie_store.specs.Making.path_at seen.cookie url).text now) rows)
        (ap (λ s. s.cookie.name) is.raw)
        (subst (λ path. HasOne (IsOverlaid made.raw.cookie.name (domain_text made) path now) rows)
        (ap (λ p. p.text) is.path) h))

    made_keeps : (made : Row) (end : End) → IsMade (unsliced seen.cookie) url now made
        → Inserts list rows url now made end → filter (is_protected now) end.1 ≡ filter (is_protected now) rows
    made_keeps made end is (inl (barred, e)) = ap (λ (x : End). filter (is_protected now) x.1) e
    made_keeps made end is (inr (allowed, admits)) = by admits
      where
        unsecured : ¬ (made.raw.cookie.secure ≡ Some true)
        unsecured e = plain (sym (ap (λ s. s.cookie.secure) is.raw) ∙ e)

        none : ¬ (HasOne (IsOverlaid made.raw.cookie.name (domain_text made) made.path.text now) rows)
        none = made_free made is

        by : Admits list rows url now made end → filter (is_protected now) end.1 ≡ filter (is_protected now) rows
        by (inl (unlisted, fits)) = fits_keeps now made unsecured rows none url end fits
        by (inr (inl (listed, own, fits))) = fits_keeps now (alone made) unsecured rows none url end fits
        by (inr (inr (listed, other, e))) = ap (λ (x : End). filter (is_protected now) x.1) e

    read_keeps : (end : End) → InsertsRead list rows url now (Ok seen) end
        → filter (is_protected now) end.1 ≡ filter (is_protected now) rows
    read_keeps end (inl (cause, known, refuses, e)) = ap (λ (x : End). filter (is_protected now) x.1) e
    read_keeps end (inr (made, is, inserts)) = made_keeps made end is inserts

  accepts_keeps : (rows new : List Row) (line : List ℕ) (end : LineEnd) → IsLetIn rules rows url now line
      → Accepts list rows url now line end new → filter (is_protected now) new ≡ filter (is_protected now) rows
  accepts_keeps rows new line end let_in (inl (against, is, same)) = ap (filter (is_protected now)) same
  accepts_keeps rows new line end let_in (inr (free, inl (no_text, is, same))) = ap (filter (is_protected now)) same
  accepts_keeps rows new line end let_in (inr (free, inr (utf8, (read, reads, (answer, inserts, is))))) =
      by read reads inserts
    where
      by : (r : Result Seen ParseError) → ReadsPlain line r → InsertsRead list rows url now r (answer, new)
          → filter (is_protected now) new ≡ filter (is_protected now) rows
      by (Err error) h e = ap (λ (x : End). filter (is_protected now) x.1) e
      by (Ok seen) h i = read_keeps rows line let_in utf8 seen h (answer, new) i

  pub line_keeps : (rows new : List Row) (line : List ℕ) (outcome : Outcome)
      → TakesLine rules list rows url now line outcome new
      → filter (is_protected now) new ≡ filter (is_protected now) rows
  line_keeps rows new line outcome (inl (stopped, is, same)) = ap (filter (is_protected now)) same
  line_keeps rows new line outcome (inr (free, (handed, is_handed, inl (rule, by, is, same)))) =
      ap (filter (is_protected now)) same
  line_keeps rows new line outcome (inr (free, (handed, is_handed, inr (let_in, (end, accepts, is))))) =
      accepts_keeps rows new handed end let_in accepts

  lines_keep : (rows new : List Row) (lines : List (List ℕ)) (outcomes : List Outcome)
      → TakesLines rules list rows url now lines outcomes new
      → filter (is_protected now) new ≡ filter (is_protected now) rows
  lines_keep rows new [] outcomes h = ap (filter (is_protected now)) h.1
  lines_keep rows new (line ∷ lines) [] h = absurd h
  lines_keep rows new (line ∷ lines) (outcome ∷ outcomes) (mid, one, rest) =
      lines_keep mid new lines outcomes rest ∙ line_keeps rows mid line outcome one

pub protected_rows_stay : ProtectedRowsStay
protected_rows_stay rules list rows url now lines outcomes new from_http overlay insecure takes =
    lines_keep rules from_http overlay list url now insecure rows new lines outcomes takes
