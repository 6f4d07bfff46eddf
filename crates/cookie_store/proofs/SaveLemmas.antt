-- Lines written one after another.
use Rattle.std.proofs.Common.{◌≡◌, ℕ, ℤ, Bool, true, List, ◌∷◌, ◌++◌, ap, sym, subst, ◌∙◌, append_assoc}
use Rattle.std.proofs.Common.{inl, inr}
use Rattle.std.specs.Prelude.{◌⊎◌, Option, Some, None, Result, Ok, Err, IfErr, OnErr}
use Rattle.std.specs.List.{FoldsTo}
use Rattle.std.proofs.lemmas.Bool.{cond-true}
use Rattle.std.specs.Io.KnownBytes.{Appends}
use Rattle.std.proofs.KnownBytes.{Appends-trans}
use Rattle.devices.specs.Device.{AppendsFront}
use Rattle.store_parts.specs.declared.error.Error.{Error}
use Rattle.cookie_store.specs.Placing.{is_saved, saved}
use Rattle.cookie_store.specs.Rows.{Row}
use Rattle.cookie_store.specs.SavedLines.{Output, output, Printer, WritesLine, RefusesRow, FailsLine, StopsSaving}
use Rattle.cookie_store.specs.Steps.{is_wanted, wanted}

pub at_any_error : {T E P : Type 0} (r : Result T E) → P → OnErr r P
at_any_error (Ok x) p = tt
at_any_error (Err e) p = p

pub at_each_error : {T E P Q : Type 0} (r : Result T E) → (P → Q) → OnErr r P → OnErr r Q
at_each_error (Ok x) f p = tt
at_each_error (Err e) f p = f p

-- a writer failed, or there is another cause
pub fails_or : {T E : Type 0} (P : Type 0) (Q : E → Type 0) (r : Result T E) → OnErr r P → IfErr r (λ e. Q e ⊎ P)
fails_or P Q (Ok x) p = tt
fails_or P Q (Err e) p = inr p

pub fails_with : {T E : Type 0} (P : Type 0) (F Q : E → Type 0) (r : Result T E) → IfErr r F → OnErr r P
    → IfErr r (λ e. (F e × P) ⊎ Q e)
fails_with P F Q (Ok x) f p = tt
fails_with P F Q (Err e) f p = inl (f, p)

-- a front of a text is one of a longer text, and what stands before a text may stand before its front
pub front_of_longer : (a b : Option (List ℕ)) (xs ys : List ℕ) → AppendsFront a b xs → AppendsFront a b (xs ++ ys)
front_of_longer a b xs ys (front, back, split, appended) =
    (front, back ++ ys, ap (λ l. l ++ ys) split ∙ append_assoc front back ys, appended)

pub front_behind : (a b c : Option (List ℕ)) (xs ys : List ℕ) → Appends a b xs → AppendsFront b c ys
    → AppendsFront a c (xs ++ ys)
front_behind a b c xs ys first (front, back, split, appended) = (
  xs ++ front,
  back,
  ap (λ l. xs ++ l) split ∙ sym (append_assoc xs front back),
  Appends-trans a b c xs front
      first appended,
)

-- ---- the rows that are saved

pub wanted_first : (now : Option ℤ) (row : Row) (rest all : List Row) (b : Bool) → all ≡ row ∷ rest
    → b ≡ is_wanted now row → b ≡ true → wanted now all ≡ row ∷ wanted now rest
wanted_first None row rest all b e is h = e
wanted_first (Some now) row rest all b e is h = ap (saved now) e ∙ cond-true (is_saved now row) _ _ (sym is ∙ h)

-- ---- what becomes of them

module _ {F : Type 0} (closures : Printer F) where
  pub saves_first : (start mid last : F × Output) (row : Row) (rest all : List Row) → all ≡ row ∷ rest
      → WritesLine closures start row mid → FoldsTo (WritesLine closures) mid rest last
      → FoldsTo (WritesLine closures) start all last
  saves_first start mid last row rest all e first later =
      subst (λ rows. FoldsTo (WritesLine closures) start rows last) (sym e) (mid, first, later)

  pub stops_later : (start mid : F × Output) (row : Row) (rest all : List Row) (error : Error) (new : Output)
      → all ≡ row ∷ rest → WritesLine closures start row mid → StopsSaving closures mid rest error new
      → StopsSaving closures start all error new
  stops_later start mid row rest all error new e first later =
      subst (λ rows. StopsSaving closures start rows error new) (sym e) (inr (inr (mid, first, later)))

  pub stops_refused : (start : F × Output) (row : Row) (rest all : List Row) (error : Error) (new : Output)
      → all ≡ row ∷ rest → RefusesRow closures start row error new → StopsSaving closures start all error new
  stops_refused start row rest all error new e refused =
      subst (λ rows. StopsSaving closures start rows error new) (sym e) (inl refused)

  pub stops_failed : (start : F × Output) (row : Row) (rest all : List Row) (error : Error) (new : Output)
      → all ≡ row ∷ rest → FailsLine closures start row error new → StopsSaving closures start all error new
  stops_failed start row rest all error new e failed =
      subst (λ rows. StopsSaving closures start rows error new) (sym e) (inr (inl failed))

-- what saving has come to
abbrev pub saving : {F : Type 0} → F → Option (List ℕ) → ℕ → F × Output
saving closure written failures = (closure, output written failures)
