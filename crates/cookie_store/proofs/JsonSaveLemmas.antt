-- Lines of JSON that a closure makes of rows.
use Rattle.std.proofs.Common.{◌≡◌, ◌∙◌, ◌++◌, ◌∷◌, [], ℕ, List, inl, inr, refl, sym, ap, subst, append_assoc}
use Rattle.std.proofs.Common.{string_bytes}
use Rattle.std.specs.Prelude.{◌⊎◌, Option, Some, None, Result, Ok, Err, String, IfErr, OnOk, IsErrOf}
use Rattle.std.specs.List.{FoldsTo}
use Rattle.std.specs.Io.KnownBytes.{Appends, Keeps}
use Rattle.std.specs.declared.alloc.Global.{Global}
use Rattle.std.proofs.KnownBytes.{Appends-nil, Appends-trans}
use Rattle.std.proofs.lemmas.List.{append-nil}
use Rattle.devices.specs.Device.{Rose}
use Rattle.saved_text.specs.Json.{row_text}
use Rattle.store_parts.specs.declared.error.Error.{Error}
use Rattle.store_parts.specs.declared.error.Error.TheVariants.{Io}
use Rattle.cookie_store.specs.Rows.{Row}
use Rattle.cookie_store.specs.SavedLines.{Output, Printer, Prints, SavesLines, StopsSaving, WritesLine}
use Rattle.cookie_store.specs.SavedTexts.{FailsInLine, IsRowFault, IsWriteFault, Saves, SavesUntil, json_lines}
use Rattle.cookie_store.specs.Formats.{IsJsonOfRow}

kept_is_nothing_more : (old new : Option (List ℕ)) → Keeps old new → Appends old new []
kept_is_nothing_more None new keeps = tt
kept_is_nothing_more (Some x) None keeps = absurd keeps
kept_is_nothing_more (Some x) (Some y) keeps = keeps ∙ sym (append-nil x)

-- the lines of a row and of those behind it
saved_first : (row : Row) (more : List Row) (text lines : List ℕ) → IsJsonOfRow row text → Saves json_lines more lines
    → Saves json_lines (row ∷ more) ((text ++ 10 ∷ []) ++ lines)
saved_first row more text lines (t, is, shows) (all, pairs, same) =
    (t ∷ all, (is, pairs), (λ i. (shows i ++ 10 ∷ []) ++ same i))

none_saved : Saves json_lines [] []
none_saved = ([], tt, refl)

stopped_later : (row : Row) (more : List Row) (e : Error) (text lines : List ℕ) → IsJsonOfRow row text
    → SavesUntil more e lines → SavesUntil (row ∷ more) e ((text ++ 10 ∷ []) ++ lines)
stopped_later row more e text lines is until = record {
  before = row ∷ until.before;
  row = until.row;
  after = until.after;
  split = ap (λ l. row ∷ l) until.split;
  fault = until.fault;
  lines = saved_first row until.before text lines is until.lines;
}

failed_later : (row : Row) (more : List Row) (old mid new : Option (List ℕ)) (text : List ℕ) → IsJsonOfRow row text
    → Appends old mid (text ++ 10 ∷ []) → FailsInLine more mid new → FailsInLine (row ∷ more) old new
failed_later row more old mid new text is first fails = record {
  before = row ∷ fails.before;
  row = fails.row;
  after = fails.after;
  split = ap (λ l. row ∷ l) fails.split;
  lines = (text ++ 10 ∷ []) ++ fails.lines;
  saved = saved_first row fails.before text fails.lines is fails.saved;
  shown = fails.shown;
  is = fails.is;
  front = fails.front;
  back = fails.back;
  line = fails.line;
  written = subst (Appends old new) (sym (append_assoc (text ++ 10 ∷ []) fails.lines fails.front))
      (Appends-trans old mid new (text ++ 10 ∷ []) (fails.lines ++ fails.front) first fails.written);
}

-- what a save of lines is, and what one is that stops
abbrev Saved : List Row → Output → Output → Type 0
Saved rows old new =
    ((lines : List ℕ) × Saves json_lines rows lines × Appends old.written new.written lines)
    × (new.failures ≡ old.failures)

abbrev Stopped : List Row → Error → Output → Output → Type 0
Stopped rows e old new =
    (IsWriteFault old.failures new.failures e × FailsInLine rows old.written new.written)
    ⊎ (((lines : List ℕ) × SavesUntil rows e lines × Appends old.written new.written lines)
    × (new.failures ≡ old.failures))

stopped_behind : (row : Row) (more : List Row) (e : Error) (old mid new : Output) (text : List ℕ)
    → IsJsonOfRow row text → Appends old.written mid.written (text ++ 10 ∷ []) → mid.failures ≡ old.failures
    → Stopped more e mid new → Stopped (row ∷ more) e old new
stopped_behind row more e old mid new text is first steady (inl ((io, rose), fails)) = inl (
  (io, subst (λ n. Rose n new.failures) steady rose),
  failed_later row more old.written mid.written new.written text is first fails,
)
stopped_behind row more e old mid new text is first steady (inr ((lines, until, later), same)) = inr (
  (
    (text ++ 10 ∷ []) ++ lines,
    stopped_later row more e text lines is until,
    Appends-trans old.written mid.written new.written (text ++ 10 ∷ []) lines first later,
  ),
  same ∙ steady,
)

module _ {F : Type 0} (closures : Printer F)
    (makes : (f : F) (row : Row) (text : String Global) (g : F) → Prints closures f row (Ok text) g
    → IsJsonOfRow row (string_bytes text))
    (refuses : (f : F) (row : Row) (e : Error) (g : F) → Prints closures f row (Err e) g → IsRowFault row.death e) where
  all_saved : (start last : F × Output) (rows : List Row) → FoldsTo (WritesLine closures) start rows last
      → Saved rows start.1 last.1
  all_saved start last [] is = (
    (
      [],
      none_saved,
      subst (λ (s : F × Output). Appends start.1.written s.1.written []) is (Appends-nil start.1.written),
    ),
    ap (λ (s : F × Output). s.1.failures) (sym is),
  )
  all_saved start last (row ∷ more) (mid, (text, printed, first, steady), later) =
      let ((lines, saves, written), same) = all_saved mid last more later in (
        (
          (string_bytes text ++ 10 ∷ []) ++ lines,
          saved_first row more (string_bytes text) lines (makes start.0 row text mid.0 printed) saves,
          Appends-trans start.1.written mid.1.written last.1.written (string_bytes text ++ 10 ∷ []) lines first
              written,
        ),
        same ∙ steady,
      )

  stopped : (start : F × Output) (rows : List Row) (e : Error) (new : Output) → StopsSaving closures start rows e new
      → Stopped rows e start.1 new
  stopped start [] e new stops = absurd stops
  stopped start (row ∷ more) e new (inl (last, printed, keeps, steady)) = inr (
    (
      [],
      record {
        before = [];
        row = row;
        after = more;
        split = refl;
        fault = refuses start.0 row e last printed;
        lines = none_saved;
      },
      kept_is_nothing_more start.1.written new.written keeps,
    ),
    steady,
  )
  stopped start (row ∷ more) e new (inr (inl (io, text, last, printed, (front, back, split, written), rose))) =
      let (t, is, shows) = makes start.0 row text last printed in
      inl (
        (io, rose),
        record {
          before = [];
          row = row;
          after = more;
          split = refl;
          lines = [];
          saved = none_saved;
          shown = t;
          is = is;
          front = front;
          back = back;
          line = ap (λ l. l ++ 10 ∷ []) (sym shows) ∙ split;
          written = written;
        },
      )
  stopped start (row ∷ more) e new (inr (inr (mid, (text, printed, first, steady), later))) =
      stopped_behind row more e start.1 mid.1 new (string_bytes text) (makes start.0 row text mid.0 printed) first
      steady (stopped mid more e new later)

  -- what a save answers
  module _ (f : F) (old new : Output) (rows : List Row) where
    pub saves : (r : Result (Unit {0}) Error) → OnOk r (SavesLines closures f old rows new)
        → OnOk r ((lines : List ℕ) × Saves json_lines rows lines × Appends old.written new.written lines)
    saves (Ok x) (last, folds) = (all_saved (f, old) (last, new) rows folds).0
    saves (Err e) h = tt

    pub stops : (r : Result (Unit {0}) Error) → IfErr r (λ e. StopsSaving closures (f, old) rows e new)
        → IfErr r (λ e. (IsWriteFault old.failures new.failures e × FailsInLine rows old.written new.written)
        ⊎ ((lines : List ℕ) × SavesUntil rows e lines × Appends old.written new.written lines))
    stops (Ok x) h = tt
    stops (Err e) h = by (stopped (f, old) rows e new h)
      where
        by : Stopped rows e old new
            → (IsWriteFault old.failures new.failures e × FailsInLine rows old.written new.written)
            ⊎ ((lines : List ℕ) × SavesUntil rows e lines × Appends old.written new.written lines)
        by (inl fails) = inl fails
        by (inr (until, same)) = inr until

    pub steady : (r : Result (Unit {0}) Error) → OnOk r (SavesLines closures f old rows new)
        → IfErr r (λ e. StopsSaving closures (f, old) rows e new) → IsErrOf r Io ⊎ (new.failures ≡ old.failures)
    steady (Ok x) (last, folds) h = inr (all_saved (f, old) (last, new) rows folds).1
    steady (Err e) k h = by (stopped (f, old) rows e new h)
      where
        by : Stopped rows e old new → IsErrOf {T = Unit {0}} {E = Error} (Err e) Io ⊎ (new.failures ≡ old.failures)
        by (inl ((io, rose), fails)) = inl (ap Err io)
        by (inr (until, same)) = inr same
