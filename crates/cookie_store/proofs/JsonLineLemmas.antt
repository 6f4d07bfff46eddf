-- Lines of JSON that a closure makes cookies of.
use Rattle.std.proofs.Common.{inl, inr, ℕ, ℤ, Bool, List, [], ◌∷◌}
use Rattle.std.specs.Prelude.{Ok, Err, Result, IfOk, IfErr}
use Rattle.std.specs.Fn.{CalledAt}
use Rattle.std.specs.Str.Lines.{lines}
use Rattle.cookie_text.specs.ReadingBack.{Pairwise}
use Rattle.saved_text.specs.JsonReading.{IsJsonFault, IsNoRow}
use Rattle.store_parts.specs.declared.error.Error.{Error}
use Rattle.cookie_store.specs.LoadedLines.{Input, LineReader, LoadsLinesBy, MakesRow, StopsAtLine, StopsLoadingLines}
use Rattle.cookie_store.specs.LoadedLines.{TakesLines}
use Rattle.cookie_store.specs.Rows.{Row, Store}
use Rattle.cookie_store.specs.SavedTexts as form

module _ {F : Type 0} (closures : LineReader F)
    (makes : (f : F) (line : List ℕ) (row : Row) (g : F) → MakesRow closures f line row g → form.IsJsonRow line row)
    (refuses : (f : F) (line : List ℕ) (e : Error) (g : F) → CalledAt closures.calls f line (Err e) g
    → form.IsRefusal (IsJsonFault IsNoRow line) e) where
  taken : (f last : F) (ls : List (List ℕ)) (rows : List Row) → TakesLines closures f ls rows last
      → Pairwise form.IsLineOf ls rows
  taken f last [] [] h = tt
  taken f last [] (row ∷ rows) h = absurd h
  taken f last (line ∷ ls) [] h = absurd h
  taken f last (line ∷ ls) (row ∷ rows) (mid, utf8, made, more) =
      ((utf8, makes f line row mid made), taken mid last ls rows more)

  pub loads : (f : F) (with_expired : Bool) (now : ℤ) (old new : Input) (store : Store)
      → LoadsLinesBy closures f with_expired now old new store
      → form.LoadsLines with_expired now old new store
  loads f with_expired now old new store h = record {
    text = h.text;
    read = h.read;
    ended = h.ended;
    failures = h.failures;
    rows = h.rows;
    taken = taken f h.last (lines h.text) h.rows h.taken;
    placed = h.placed;
  }

  stops_at : (f : F) (ls : List (List ℕ)) (e : Error) → StopsAtLine closures f ls e → form.StopsAt ls e
  stops_at f [] e h = absurd h
  stops_at f (line ∷ ls) e (inl (inl h)) = inl (inl h)
  stops_at f (line ∷ ls) e (inl (inr (utf8, last, called))) = inl (inr (utf8, refuses f line e last called))
  stops_at f (line ∷ ls) e (inr (inl h)) = inr (inl h)
  stops_at f (line ∷ ls) e (inr (inr (row, mid, utf8, made, more))) =
      inr (inr (row, (utf8, makes f line row mid made), stops_at mid ls e more))

  pub stops : (f : F) (old new : Input) (e : Error) → StopsLoadingLines closures f old new e
      → form.StopsLoading old new e
  stops f old new e (inl (steady, text, is, h)) = inl (steady, text, is, stops_at f (lines text) e h)
  stops f old new e (inr (is, h)) = inr (
    is,
    record {
      failed = h.failed;
      text = h.text;
      read = h.read;
      whole = h.whole;
      begun = h.begun;
      cut = h.cut;
      rows = h.rows;
      taken = taken f h.last h.whole h.rows h.taken;
    },
  )

pub ok_map : {T E : Type 0} (P Q : T → Type 0) (r : Result T E) → ((x : T) → P x → Q x) → IfOk r P → IfOk r Q
ok_map P Q (Ok x) f h = f x h
ok_map P Q (Err e) f h = tt

pub err_map : {T E : Type 0} (P Q : E → Type 0) (r : Result T E) → ((e : E) → P e → Q e) → IfErr r P → IfErr r Q
err_map P Q (Ok x) f h = tt
err_map P Q (Err e) f h = f e h
