-- A suffix that a row has isn't empty, nor listed, whatever was received and kept.
use Rattle.std.proofs.Common.{◌≡◌, ℕ, ℤ, Bool, true, false, cond, List, [], ◌∷◌, sym, ap, ◌∙◌, subst}
use Rattle.std.proofs.Common.{⊎_elim, inl, inr, Result}
use Rattle.std.specs.List.{filter, list_any, AllByRecursion}
use Rattle.std.proofs.lemmas.Bool.{cases_Bool}
use Rattle.cookie_text.specs.ReadingBack.{Pairwise}
use Rattle.publicsuffix.specs.Rules.{Rule}
use Rattle.store_parts.specs.Expiry.{is_dead}
use Rattle.store_parts.specs.declared.error.CookieError.{CookieError}
use Rattle.url.specs.Parts.{Parts}
use Rattle.cookie_store.specs.Insertion.{End, settled, Settles}
use Rattle.cookie_store.specs.Placing.{is_saved, saved}
use Rattle.cookie_store.specs.Rows.{Row, has_key_of, is_live, is_live_of}
use Rattle.cookie_store.specs.SavedRows.{IsReread}
use Rattle.cookie_store.specs.declared.action.StoreAction.{StoreAction}
use Rattle.cookie_client.specs.Accept.{Accepts, AcceptsAll}
use Rattle.cookie_client.specs.Keeping.{Keeps}
use Rattle.cookie_client.specs.declared.outcome.LineEnd.{LineEnd}
use Rattle.cookie_client.proofs.CountedRows.{all_rows_map}
use Rattle.cookie_client.proofs.ReadOnce.{ReadsOnce}
use Rattle.cookie_client.proofs.Lines.{at_epoch}
use Rattle.cookie_run.proofs.Received.{all_inserted}
use Rattle.cookie_client.proofs.Tried.{Does, line_does}
use Rattle.cookie_run.proofs.Tried.{IsSound, tried_stands, stands_sound}

module _ (list : List Rule) where
  abbrev pub Sound : List Row → Type 0
  Sound rows = AllByRecursion (IsSound list) rows

  -- ---- what is received

  ended_sound : (b : Bool) (r : Row) → IsSound list r → IsSound list (cond b (at_epoch r) r)
  ended_sound true r h = h
  ended_sound false r h = h

  pick_sound : (b : Bool) (row r : Row) → IsSound list row → IsSound list r → IsSound list (cond b row r)
  pick_sound true row r h g = h
  pick_sound false row r h g = g

  settled_sound : (now : ℤ) (row : Row) (rows : List Row) → IsSound list row → Sound rows
      → Sound (settled rows now row).1
  settled_sound now row rows h all =
      ⊎_elim
      (λ (d : is_dead now row.death ≡ true).
      ⊎_elim
      (λ (e : list_any (is_live_of now row) rows ≡ true). rw (d, e)
      (all_rows_map (IsSound list) (λ r. cond (is_live_of now row r) (at_epoch r) r)
      (λ r g. ended_sound (is_live_of now row r) r g) rows all))
      (λ (e : list_any (is_live_of now row) rows ≡ false). rw (d, e) all)
      (cases_Bool (list_any (is_live_of now row) rows)))
      (λ (d : is_dead now row.death ≡ false).
      ⊎_elim
      (λ (e : list_any (has_key_of row) rows ≡ true). rw (d, e)
      (all_rows_map (IsSound list) (λ r. cond (has_key_of row r) row r)
      (λ r g. pick_sound (has_key_of row r) row r h g) rows all))
      (λ (e : list_any (has_key_of row) rows ≡ false). rw (d, e) (all_inserted (IsSound list) row rows h all))
      (cases_Bool (list_any (has_key_of row) rows)))
      (cases_Bool (is_dead now row.death))

  settles_sound : (url : Parts) (now : ℤ) (row : Row) (rows : List Row) (answer : Result StoreAction CookieError)
      (new : List Row) → IsSound list row → Settles rows url now row (answer, new) → Sound rows → Sound new
  settles_sound url now row rows answer new h (inl guarded) all =
      subst Sound (sym (ap (λ (e : End). e.1) guarded.1)) all
  settles_sound url now row rows answer new h (inr free) all =
      subst Sound (sym (ap (λ (e : End). e.1) free.1)) (settled_sound now row rows h all)

  line_sound : ReadsOnce → (url : Parts) (now : ℤ) (line : List ℕ) (rows : List Row) (end : LineEnd)
      (new : List Row) → Accepts list rows url now line end new → Sound rows → Sound new
  line_sound one url now line rows end new a all = does (line_does one list url now line rows new end a)
    where
      does : Does list rows url now line new → Sound new
      does (inl same) = subst Sound (sym same.1) all
      does (inr (row, tried, (answer, settles))) = settles_sound url now row rows answer new
          (stands_sound list url row.domain (tried_stands list url now line row tried)) settles all

  pub lines_sound : ReadsOnce → (url : Parts) (now : ℤ) (lines : List (List ℕ)) (rows : List Row)
      (ends : List LineEnd) (new : List Row) → AcceptsAll list rows url now lines ends new → Sound rows → Sound new
  lines_sound one url now [] rows ends new t all = subst Sound (sym t.1) all
  lines_sound one url now (line ∷ lines) rows [] new t all = absurd t
  lines_sound one url now (line ∷ lines) rows (e ∷ ends) new t all =
      lines_sound one url now lines t.0 ends new t.2 (line_sound one url now line rows e t.0 t.1 all)

  -- ---- what is kept

  filter_sound : (test : Row → Bool) (rows : List Row) → Sound rows → Sound (filter test rows)
  filter_sound test [] all = tt
  filter_sound test (r ∷ rs) all = by (test r) (filter_sound test rs all.1)
    where
      by : (b : Bool) → Sound (filter test rs) → Sound (cond b (r ∷ filter test rs) (filter test rs))
      by true rest = (all.0, rest)
      by false rest = rest

  reread_sound : (rows read : List Row) → Pairwise IsReread rows read → Sound rows → Sound read
  reread_sound [] [] p all = tt
  reread_sound [] (x ∷ xs) p all = absurd p
  reread_sound (r ∷ rs) [] p all = absurd p
  reread_sound (r ∷ rs) (x ∷ xs) p all =
      ((λ text e. all.0 text (sym p.0.domain ∙ e)), reread_sound rs xs p.1 all.1)

  pub keeps_sound : (saving loading : ℤ) (rows kept : List Row) → Keeps rows saving loading kept → Sound rows
      → Sound kept
  keeps_sound saving loading rows kept k all =
      subst Sound (sym k.lives) (filter_sound (is_live loading) k.read
      (reread_sound (saved saving rows) k.read k.reread (filter_sound (is_saved saving) rows all)))
