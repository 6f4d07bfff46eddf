-- Rows that come back where they are saved and loaded again.
use Rattle.std.proofs.Common.{◌≡◌, ℕ, ℤ, Bool, true, false, cond, ◌&&◌, List, [], ◌∷◌, sym, refl, ap, ◌∙◌, ◌++◌, subst}
use Rattle.std.proofs.Common.{inl, inr, Result, Ok, Err}
use Rattle.std.specs.Prelude.{not}
use Rattle.std.specs.Str.{IsUtf8}
use Rattle.std.specs.List.{filter, list_any, AllByRecursion}
use Rattle.url.specs.Parts.{Parts}
use Rattle.publicsuffix.specs.Rules.{Rule}
use Rattle.cookie_text.specs.Again.{IsReadPair, TextsGivePairs}
use Rattle.cookie_text.specs.Reading.{ReadsPlain}
use Rattle.cookie_text.specs.ReadingBack.{Pairwise}
use Rattle.cookie_text.specs.Record.{Seen, unsliced}
use Rattle.cookie_text.specs.declared.error.ParseError.{ParseError}
use Rattle.store_parts.specs.Expiry.{death, is_dead}
use Rattle.store_parts.specs.declared.error.CookieError.{CookieError}
use Rattle.store_parts.specs.declared.error.CookieError.TheVariants.{Expired}
use Rattle.cookie_store.specs.Insertion.{End, action_of, settled, Fits, Admits, Inserts, InsertsRead, alone, refused}
use Rattle.cookie_store.specs.Making.{IsMade}
use Rattle.cookie_store.specs.Placing.{is_saved, saved}
use Rattle.cookie_store.specs.Rows.{Row, key_of, has_key_of, has_place_of, has_domain, is_live, live, is_live_of}
use Rattle.cookie_store.specs.Rows.{expired, ended, behind_last, put_in_place, put}
use Rattle.cookie_store.specs.SavedRows.{IsReread}
use Rattle.cookie_store.specs.declared.action.StoreAction.{StoreAction}
use Rattle.cookie_store.specs.declared.action.StoreAction.TheVariants.{ExpiredExisting}
use Rattle.cookie_client.specs.Accept.{Accepts, AcceptsAll}
use Rattle.cookie_client.specs.HostPrefix.{IsAgainstHost}
use Rattle.cookie_client.specs.Keeping.{Keeps, HasReadPair, IsSameRow, ComesBack}
use Rattle.cookie_client.specs.declared.outcome.LineEnd.{LineEnd}
use Rattle.cookie_client.proofs.CountedRows.{all_rows_map, all_behind}

-- ---- what holds of each row that a line makes holds of all rows

module _ (P : Row → Type 0) (ends : (r : Row) → P r → P (expired r)) (apart : (r : Row) → P r → P (alone r)) where
  abbrev All : List Row → Type 0
  All rows = AllByRecursion P rows

  pick : (b : Bool) (x y : Row) → P x → P y → P (cond b x y)
  pick true x y p q = p
  pick false x y p q = q

  pub put_from : (row : Row) (rows : List Row) → P row → All rows → All (put row rows)
  put_from row rows own all = by (list_any (has_key_of row) rows) (list_any (has_place_of row) rows)
    where
      by : (k p : Bool) → All (cond k (put_in_place (has_key_of row) row rows)
          (cond p (behind_last (has_place_of row) row rows) (behind_last (has_domain (key_of row)) row rows)))
      by true p = all_rows_map P _ (λ r q. pick (has_key_of row r) row r own q) rows all
      by false true = all_behind P (has_place_of row) row rows own all
      by false false = all_behind P (has_domain (key_of row)) row rows own all

  settled_from : (now : ℤ) (row : Row) (rows : List Row) → P row → All rows
      → All (settled rows now row).1
  settled_from now row rows own all = by (is_dead now row.death) (list_any (is_live_of now row) rows)
    where
      by : (d l : Bool)
          → All (cond d (cond l (Ok ExpiredExisting, ended now row rows) (refused Expired rows))
          (Ok (action_of row rows), put row rows)).1
      by true true = all_rows_map P _ (λ r q. pick (is_live_of now row r) (expired r) r
          (ends r q) q) rows all
      by true false = all
      by false l = put_from row rows own all

  same_from : (rows new : List Row) → new ≡ rows → All rows → All new
  same_from rows new is all = subst All (sym is) all

  second_of : {end : Result StoreAction CookieError} {new : List Row} {x : End} → (end, new) ≡ x → new ≡ x.1
  second_of h = ap (λ (p : End). p.1) h

  fits_from : (url : Parts) (now : ℤ) (row : Row) (rows : List Row) (end : Result StoreAction CookieError)
      (new : List Row) → P row → All rows → Fits rows url now row (end, new) → All new
  fits_from url now row rows end new own all (inl mismatch) = same_from rows new (second_of mismatch.1) all
  fits_from url now row rows end new own all (inr (covers, inl guarded)) =
      same_from rows new (second_of guarded.1) all
  fits_from url now row rows end new own all (inr (covers, inr free)) =
      same_from (settled rows now row).1 new (second_of free.1) (settled_from now row rows own all)

  admits_from : (list : List Rule) (url : Parts) (now : ℤ) (row : Row) (rows : List Row)
      (end : Result StoreAction CookieError) (new : List Row) → P row → All rows
      → Admits list rows url now row (end, new) → All new
  admits_from list url now row rows end new own all (inl unlisted) =
      fits_from url now row rows end new own all unlisted.1
  admits_from list url now row rows end new own all (inr (inl here)) =
      fits_from url now (alone row) rows end new (apart row own) all here.2
  admits_from list url now row rows end new own all (inr (inr listed)) = same_from rows new (second_of listed.2) all

  pub inserts_from : (list : List Rule) (url : Parts) (now : ℤ) (row : Row) (rows : List Row)
      (end : Result StoreAction CookieError) (new : List Row) → P row → All rows
      → Inserts list rows url now row (end, new) → All new
  inserts_from list url now row rows end new own all (inl barred) = same_from rows new (second_of barred.1) all
  inserts_from list url now row rows end new own all (inr allowed) =
      admits_from list url now row rows end new own all allowed.1

  -- ---- a line is taken

  module _ (Time : ℤ → Type 0) (own : (line : List ℕ) (s : Seen) (url : Parts) (now : ℤ) (made : Row) → Time now
      → ¬ (IsAgainstHost url line) → IsUtf8 line → ReadsPlain line (Ok s) → IsMade (unsliced s.cookie) url now made
      → P made) where
    read_from : (list : List Rule) (url : Parts) (now : ℤ) (line : List ℕ) (rows : List Row)
        (end : Result StoreAction CookieError) (new : List Row) (o : Result Seen ParseError) → Time now
        → ¬ (IsAgainstHost url line) → IsUtf8 line → ReadsPlain line o → All rows
        → InsertsRead list rows url now o (end, new) → All new
    read_from list url now line rows end new (Err e) time free utf8 reads all h = same_from rows new (second_of h) all
    read_from list url now line rows end new (Ok s) time free utf8 reads all (inl wrong) =
        same_from rows new (second_of wrong.3) all
    read_from list url now line rows end new (Ok s) time free utf8 reads all (inr made) =
        inserts_from list url now made.0 rows end new (own line s url now made.0 time free utf8 reads made.1) all made.2

    line_from : (list : List Rule) (url : Parts) (now : ℤ) (line : List ℕ) (rows : List Row) (end : LineEnd)
        (new : List Row) → Time now → All rows → Accepts list rows url now line end new
        → All new
    line_from list url now line rows end new time all (inl against) = same_from rows new against.2 all
    line_from list url now line rows end new time all (inr (free, inl wrong)) = same_from rows new wrong.2 all
    line_from list url now line rows end new time all (inr (free, inr right)) =
        read_from list url now line rows right.1.2.0 new right.1.0 time free right.0 right.1.1 all right.1.2.1

    pub lines_from : (list : List Rule) (url : Parts) (now : ℤ) (lines : List (List ℕ)) (rows : List Row)
        (ends : List LineEnd) (new : List Row) → Time now → All rows
        → AcceptsAll list rows url now lines ends new → All new
    lines_from list url now [] rows ends new time all t = same_from rows new t.1 all
    lines_from list url now (line ∷ lines) rows [] new time all t = absurd t
    lines_from list url now (line ∷ lines) rows (e ∷ ends) new time all t =
        lines_from list url now lines t.0 ends new time (line_from list url now line rows e t.0 time all t.1) t.2

-- ---- the rows of lines

pub pair_made : (give : TextsGivePairs) (line : List ℕ) (s : Seen) (url : Parts) (now : ℤ) (made : Row) → IsUtf8 line
    → ReadsPlain line (Ok s)
    → IsMade (unsliced s.cookie) url now made → HasReadPair made
pair_made give line s url now made utf8 reads h =
    subst (λ (raw : Seen). IsReadPair raw.cookie.name raw.cookie.value) (sym h.raw) (give line s utf8 reads)

pub filter_all : (P : Row → Type 0) (test : Row → Bool) (rows : List Row) → AllByRecursion P rows
    → AllByRecursion P (filter test rows)
filter_all P test [] all = tt
filter_all P test (r ∷ rs) all = by (test r) (filter_all P test rs all.1)
  where
    by : (b : Bool) → AllByRecursion P (filter test rs)
        → AllByRecursion P (cond b (r ∷ filter test rs) (filter test rs))
    by true rest = (all.0, rest)
    by false rest = rest

-- ---- a restart

and_first : (a b : Bool) → (a && b) ≡ true → a ≡ true
and_first true b e = refl
and_first false b e = e

pub saved_live : (now : ℤ) (rows : List Row) → AllByRecursion (λ r. is_live now r ≡ true) (saved now rows)
saved_live now [] = tt
saved_live now (r ∷ rs) = by (is_saved now r) refl (saved_live now rs)
  where
    by : (b : Bool) → is_saved now r ≡ b → AllByRecursion (λ r. is_live now r ≡ true) (saved now rs)
        → AllByRecursion (λ r. is_live now r ≡ true) (cond b (r ∷ saved now rs) (saved now rs))
    by true e rest = (and_first (is_live now r) _ e, rest)
    by false e rest = rest

pub middle_of : (P : Row → Type 0) (before : List Row) (row : Row) (after : List Row)
    → AllByRecursion P (before ++ row ∷ after) → P row
middle_of P [] row after all = all.0
middle_of P (r ∷ rs) row after all = middle_of P rs row after all.1

same_live : (now : ℤ) (rows read : List Row) → AllByRecursion ComesBack rows
    → AllByRecursion (λ r. is_live now r ≡ true) rows → Pairwise IsReread rows read
    → Pairwise IsSameRow rows (live now read)
same_live now [] [] all lives p = tt
same_live now [] (x ∷ xs) all lives p = absurd p
same_live now (r ∷ rs) [] all lives p = absurd p
same_live now (r ∷ rs) (x ∷ xs) all lives p =
    let same = all.0.same x p.0 in
    let alive : is_live now x ≡ true = ap (λ o. not (is_dead now o)) same.death ∙ lives.0 in
    subst (λ b. Pairwise IsSameRow (r ∷ rs) (cond b (x ∷ live now xs) (live now xs))) (sym alive)
    (same, same_live now rs xs all.1 lives.1 p.1)

pub restart_keeps : (rows kept : List Row) (now : ℤ) → AllByRecursion ComesBack rows → Keeps rows now now kept
    → Pairwise IsSameRow (saved now rows) kept
restart_keeps rows kept now all keeps = subst (Pairwise IsSameRow (saved now rows)) (sym keeps.lives)
    (same_live now (saved now rows) keeps.read (filter_all ComesBack (is_saved now) rows all)
    (saved_live now rows) keeps.reread)
