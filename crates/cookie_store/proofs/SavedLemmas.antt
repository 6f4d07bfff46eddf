-- Lists of rows that are saved and loaded, one by one.
use Rattle.std.proofs.Common.{◌≡◌, true, false, List, [], ◌∷◌, ◌++◌, ℤ, Option, Some, None, string_bytes}
use Rattle.std.specs.Prelude.{ℕ, Result, Ok, Err, IfOk}
use Rattle.std.proofs.Common.{inl, inr, refl, sym, ap, subst, ◌∙◌, append_assoc, append-nil}
use Rattle.std.proofs.lemmas.Bool.{cond-true, cond-false, true≢false}
use Rattle.std.specs.List.{AllByRecursion}
use Rattle.std.specs.Io.KnownBytes.{Appends}
use Rattle.std.proofs.KnownBytes.{Appends-nil, Appends-trans}
use Rattle.std.proofs.lemmas.Grind.{flat_map-append}
use Rattle.devices.specs.Device.{AppendsFront}
use Rattle.saved_text.specs.Json.{row_text}
use Rattle.cookie_text.specs.ReadingBack.{Pairwise}
use Rattle.saved_text.specs.JsonReading.{AreShown}
use Rattle.saved_text.specs.Row.{Shown}
use Rattle.saved_text.specs.Saved.{IsShown, IsCookieText}
use Rattle.saved_text.specs.declared.row.SavedRow.{SavedRow}
use Rattle.store_parts.specs.declared.error.Error.{Error}
use Rattle.cookie_store.specs.Placing.{is_saved}
use Rattle.cookie_store.specs.Rows.{Row}
use Rattle.cookie_store.specs.SavedRows.{IsShownAs, IsLoadedFrom}
use Rattle.cookie_store.specs.SavedTexts.{OfText, Saves, SavesUntil, json_lines, IsRowFault, IsSaveFault}
use Rattle.cookie_store.specs.SavedTexts.{FailsInLine}
use Rattle.cookie_store.specs.Steps.{is_wanted, wanted}

-- ---- those that are saved

pub wanted_in : (at : Option ℤ) (row : Row) (rest : List Row) → is_wanted at row ≡ true
    → wanted at (row ∷ rest) ≡ row ∷ wanted at rest
wanted_in None row rest h = refl
wanted_in (Some now) row rest h = cond-true (is_saved now row) _ _ h

pub wanted_out : (at : Option ℤ) (row : Row) (rest : List Row) → is_wanted at row ≡ false
    → wanted at (row ∷ rest) ≡ wanted at rest
wanted_out None row rest h = absurd (true≢false h)
wanted_out (Some now) row rest h = cond-false (is_saved now row) _ _ h

pub wanted_none : (at : Option ℤ) → wanted at [] ≡ []
wanted_none None = refl
wanted_none (Some now) = refl

-- ---- one more

pub pairs_more : {A B : Type 0} (P : A → B → Type 0) (xs : List A) (ys : List B) (x : A) (y : B) → Pairwise P xs ys
    → P x y → Pairwise P (xs ++ x ∷ []) (ys ++ y ∷ [])
pairs_more P [] [] x y h p = (p, tt)
pairs_more P [] (b ∷ ys) x y h p = absurd h
pairs_more P (a ∷ xs) [] x y h p = absurd h
pairs_more P (a ∷ xs) (b ∷ ys) x y h p = (h.0, pairs_more P xs ys x y h.1 p)

-- these rows are shown so, and the others of all follow
pub record SavesSoFar (all : List Row) (shown : List Shown) (rest : List Row) : Type 0 where
  pub done : List Row
  pub whole : done ++ rest ≡ all
  pub pairs : Pairwise IsShownAs done shown

pub saves_more : (all : List Row) (shown : List Shown) (row : Row) (rest : List Row) (t : Shown)
    → SavesSoFar all shown (row ∷ rest) → IsShownAs row t → SavesSoFar all (shown ++ t ∷ []) rest
saves_more all shown row rest t far is = record {
  done = far.done ++ row ∷ [];
  whole = append_assoc far.done (row ∷ []) rest ∙ far.whole;
  pairs = pairs_more IsShownAs far.done shown row t far.pairs is;
}

pub saves_all : (all : List Row) (shown : List Shown) → SavesSoFar all shown [] → Pairwise IsShownAs all shown
saves_all all shown far =
    subst (λ rows. Pairwise IsShownAs rows shown) (sym (append-nil far.done) ∙ far.whole) far.pairs

pub saves_stop : (all : List Row) (shown : List Shown) (row : Row) (rest : List Row) (e : Error)
    → SavesSoFar all shown (row ∷ rest) → IsRowFault row.death e → IsSaveFault all e
saves_stop all shown row rest e far (inl (is, below)) =
    inl (is, record { before = far.done; row = row; after = rest; split = sym far.whole; is = below })
saves_stop all shown row rest e far (inr is) = inr is

-- these of what is shown were loaded so, and the rows are what the others show
pub record LoadsSoFar (all : List Shown) (loaded : List Row) (rest : List SavedRow) : Type 0 where
  pub done : List Shown
  pub more : List Shown
  pub whole : done ++ more ≡ all
  pub pairs : Pairwise IsLoadedFrom done loaded
  pub shown : AreShown more rest

pub loads_more : (all : List Shown) (loaded : List Row) (r : SavedRow) (rest : List SavedRow) (row : Row)
    → LoadsSoFar all loaded (r ∷ rest) → ((t : Shown) → IsShown t r → IsLoadedFrom t row)
    → LoadsSoFar all (loaded ++ row ∷ []) rest
loads_more all loaded r rest row far is = by far.more far.whole far.shown
  where
    by : (more : List Shown) → far.done ++ more ≡ all → AreShown more (r ∷ rest)
        → LoadsSoFar all (loaded ++ row ∷ []) rest
    by [] whole shown = absurd shown
    by (t ∷ more) whole shown = record {
      done = far.done ++ t ∷ [];
      more = more;
      whole = append_assoc far.done (t ∷ []) more ∙ whole;
      pairs = pairs_more IsLoadedFrom far.done loaded t row far.pairs (is t shown.0);
      shown = shown.1;
    }

pub loads_all : (all : List Shown) (loaded : List Row) → LoadsSoFar all loaded [] → Pairwise IsLoadedFrom all loaded
loads_all all loaded far = by far.more far.whole far.shown
  where
    by : (more : List Shown) → far.done ++ more ≡ all → AreShown more [] → Pairwise IsLoadedFrom all loaded
    by [] whole shown =
        subst (λ ts. Pairwise IsLoadedFrom ts loaded) (sym (append-nil far.done) ∙ whole) far.pairs
    by (t ∷ more) whole shown = absurd shown

-- ---- what was read reads

pub texts_read : (all : List Shown) (rows : List SavedRow) → AreShown all rows
    → AllByRecursion (λ r. IsCookieText (string_bytes r.raw_cookie)) rows
texts_read [] [] h = tt
texts_read [] (r ∷ rows) h = absurd h
texts_read (t ∷ all) [] h = absurd h
texts_read (t ∷ all) (r ∷ rows) h = (subst IsCookieText (sym h.0.raw) h.0.cookie, texts_read all rows h.1)

-- ---- what is so with the text that was read

pub of_text_ok : {S : Type 0} (left : Option (List ℕ)) (text : List ℕ) (P : List ℕ → S → Type 0) (r : Result S Error)
    → OfText left (λ bytes. text ≡ bytes) → IfOk r (P text) → IfOk r (λ s. OfText left (λ t. P t s))
of_text_ok left text P (Ok s) (bytes, is, e) h = (bytes, is, subst (λ t. P t s) e h)
of_text_ok left text P (Err e) of h = tt
