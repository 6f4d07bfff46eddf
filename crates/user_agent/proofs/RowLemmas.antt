-- What holds of each row that a line makes holds of all rows, whatever becomes of the line.
use Rattle.std.proofs.Common.{◌≡◌, ℤ, ℕ, List, [], ◌∷◌, Bool, true, false, cond, ◌&&◌, not, Result, Ok, Err, refl}
use Rattle.std.proofs.Common.{inl, inr, map, subst, sym}
use Rattle.std.specs.List.{AllByRecursion, list_any}
use Rattle.std.specs.Str.{IsUtf8}
use Rattle.publicsuffix.specs.Rules.{Rule}
use Rattle.url.specs.Parts.{Parts}
use Rattle.cookie_text.specs.Reading.{ReadsPlain}
use Rattle.cookie_text.specs.Record.{Seen, unsliced}
use Rattle.cookie_text.specs.declared.error.ParseError.{ParseError}
use Rattle.store_parts.specs.Expiry.{is_dead}
use Rattle.store_parts.specs.declared.error.CookieError.TheVariants.{Expired}
use Rattle.cookie_store.specs.Insertion.{End, Fits, Inserts, InsertsRead, action_of, alone, refused, settled}
use Rattle.cookie_store.specs.Making.{IsMade}
use Rattle.cookie_store.specs.Rows.{Row, behind_last, ended, expired, has_domain_of, has_key_of, has_place_of}
use Rattle.cookie_store.specs.Rows.{inserted, is_live_of, put, replaced}
use Rattle.cookie_store.specs.declared.action.StoreAction.TheVariants.{ExpiredExisting}
use Rattle.cookie_client.specs.Accept.{Accepts}
use Rattle.cookie_client.specs.HostPrefix.{IsAgainstHost}
use Rattle.cookie_client.specs.declared.outcome.LineEnd.{LineEnd}

-- M holds of the row that a line makes, and so of that row as its domain's text alone; then P, where that row isn't
-- dead as it comes. P of a row that is held stays where the row is ended.
module _ (P M : Row → Type 0) (ends : (row : Row) → P row → P (expired row))
    (lone : (row : Row) → M row → M (alone row)) (url : Parts) (now : ℤ)
    (alive : (row : Row) → is_dead now row.death ≡ false → M row → P row) where
  abbrev All : List Row → Type 0
  All rows = AllByRecursion P rows

  all_map : (f : Row → Row) → ((row : Row) → P row → P (f row)) → (rows : List Row) → All rows → All (map f rows)
  all_map f each [] h = tt
  all_map f each (y ∷ ys) h = (each y h.0, all_map f each ys h.1)

  by_cond : (b : Bool) (x y : Row) → P x → P y → P (cond b x y)
  by_cond true x y p q = p
  by_cond false x y p q = q

  all_cond : (b : Bool) (xs ys : List Row) → All xs → All ys → All (cond b xs ys)
  all_cond true xs ys p q = p
  all_cond false xs ys p q = q

  all_behind : (test : Row → Bool) (x : Row) (rows : List Row) → P x → All rows → All (behind_last test x rows)
  all_behind test x [] p h = (p, tt)
  all_behind test x (y ∷ ys) p h =
      all_cond (test y && not (list_any test ys)) (y ∷ x ∷ ys) (y ∷ behind_last test x ys) (h.0, (p, h.1))
      (h.0, all_behind test x ys p h.1)

  all_put : (row : Row) (rows : List Row) → P row → All rows → All (put row rows)
  all_put row rows p h =
      all_cond (list_any (has_key_of row) rows) (replaced row rows) (inserted row rows)
      (all_map (λ y. cond (has_key_of row y) row y) (λ y q. by_cond (has_key_of row y) row y p q) rows h)
      (all_cond (list_any (has_place_of row) rows) (behind_last (has_place_of row) row rows)
      (behind_last (has_domain_of row) row rows) (all_behind (has_place_of row) row rows p h)
      (all_behind (has_domain_of row) row rows p h))

  all_ended : (row : Row) (rows : List Row) → All rows → All (ended now row rows)
  all_ended row rows h =
      all_map (λ y. cond (is_live_of now row y) (expired y) y)
      (λ y q. by_cond (is_live_of now row y) (expired y) y (ends y q) q) rows h

  end_cond : (b : Bool) (x y : End) → All x.1 → All y.1 → All (cond b x y).1
  end_cond true x y p q = p
  end_cond false x y p q = q

  all_settled : (row : Row) (rows : List Row) → M row → All rows → All (settled rows now row).1
  all_settled row rows m h = by (is_dead now row.death) refl
    where
      by : (dead : Bool) → is_dead now row.death ≡ dead
          → All (cond dead (cond (list_any (is_live_of now row) rows) (Ok ExpiredExisting, ended now row rows)
          (refused Expired rows)) (Ok (action_of row rows), put row rows)).1
      by true e = end_cond (list_any (is_live_of now row) rows) _ _ (all_ended row rows h) h
      by false e = all_put row rows (alive row e m) h

  all_fits : (row : Row) (rows : List Row) (end : End) → M row → All rows → Fits rows url now row end → All end.1
  all_fits row rows end m h (inl (out, e)) = subst (λ (x : End). All x.1) (sym e) h
  all_fits row rows end m h (inr (covers, inl (guarded, e))) = subst (λ (x : End). All x.1) (sym e) h
  all_fits row rows end m h (inr (covers, inr (free, e))) =
      subst (λ (x : End). All x.1) (sym e) (all_settled row rows m h)

  all_inserts : (list : List Rule) (row : Row) (rows : List Row) (end : End) → M row → All rows
      → Inserts list rows url now row end → All end.1
  all_inserts list row rows end m h (inl (barred, e)) = subst (λ (x : End). All x.1) (sym e) h
  all_inserts list row rows end m h (inr (allowed, inl (unlisted, fits))) = all_fits row rows end m h fits
  all_inserts list row rows end m h (inr (allowed, inr (inl (listed, own, fits)))) =
      all_fits (alone row) rows end (lone row m) h fits
  all_inserts list row rows end m h (inr (allowed, inr (inr (listed, other, e)))) =
      subst (λ (x : End). All x.1) (sym e) h

  module _ (line : List ℕ)
      (made : (seen : Seen) → ¬ (IsAgainstHost url line) → IsUtf8 line → ReadsPlain line (Ok seen) → (row : Row)
      → IsMade (unsliced seen.cookie) url now row → M row) where
    pub all_accepts : (list : List Rule) (rows new : List Row) (end : LineEnd) → All rows
        → Accepts list rows url now line end new → All new
    all_accepts list rows new end h (inl (against, is, same_rows)) = subst All (sym same_rows) h
    all_accepts list rows new end h (inr (free, inl (no_text, is, same_rows))) = subst All (sym same_rows) h
    all_accepts list rows new end h (inr (free, inr (utf8, (read, reads, (answer, inserts, is))))) =
        by read reads inserts
      where
        by : (r : Result Seen ParseError) → ReadsPlain line r → InsertsRead list rows url now r (answer, new) → All new
        by (Err error) r e = subst (λ (x : End). All x.1) (sym e) h
        by (Ok seen) r (inl (cause, known, refuses, e)) = subst (λ (x : End). All x.1) (sym e) h
        by (Ok seen) r (inr (row, is_made, ins)) =
            all_inserts list row rows (answer, new) (made seen free utf8 r row is_made) h ins
