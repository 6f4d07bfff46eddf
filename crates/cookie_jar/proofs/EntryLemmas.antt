-- What lines and items give, one after another.
use Rattle.std.proofs.Common.{◌≡◌, ◌⊎◌, ◌+◌, ◌++◌, ◌<◌, ◌∙◌, ℕ, true, List, [], ◌∷◌, Option, None, Some, Result, Ok}
use Rattle.std.proofs.Common.{Err, ap, get_or, inl, inr, length, map, subst, sym, take}
use Rattle.std.proofs.lemmas.List.{map-append, map_more}
use Rattle.std.specs.Prelude.{IfOk, pos}
use Rattle.cookie_text.specs.ReadingBack.{Pairwise}
use Rattle.saved_text.specs.RonReading.{ShowsOnly}
use Rattle.store_parts.specs.declared.error.Error.{Error}
use Rattle.store_parts.specs.declared.error.Error.TheVariants.{Io, OutOfMemory}
use Rattle.cookie_store.specs.Rows.{Row, Store}
use Rattle.cookie_store.specs.SavedTexts.{IsReadFault, IsRonRefusal, Loads, OfText}
use Rattle.cookie_store.specs.declared.stored_cookie.Cookie.{Cookie}
use Rattle.cookie_jar.specs.Entries.{GivesPiece, bracketed, entry_row, only_row, row_of}
use Rattle.cookie_jar.specs.declared.entries.Entry.{Entry}
use Rattle.cookie_jar.specs.declared.importing.Cause.{Cause}

-- one item more
entries_more : {A : Type 0} (Gives : A → Option Row → Type 0) (xs : List A) (es : List (Option Row)) (x : A)
    (e : Option Row) → Pairwise Gives xs es → Gives x e → Pairwise Gives (xs ++ x ∷ []) (es ++ e ∷ [])
entries_more Gives [] [] x e far is = (is, tt)
entries_more Gives [] (f ∷ es) x e far is = absurd far
entries_more Gives (y ∷ xs) [] x e far is = absurd far
entries_more Gives (y ∷ xs) (f ∷ es) x e far is = (far.0, entries_more Gives xs es x e far.1 is)

-- of a list's first items, and one item more
pub next_entry : {X A : Type 0} (Gives : A → Option Row → Type 0) (f : X → A) (items : List X) (i : ℕ)
    (item d : X) (old new : List Entry) (entry : Entry) → i < length items → item ≡ get_or items i d
    → Pairwise Gives (map f (take i items)) (map entry_row old) → Gives (f item) (entry_row entry)
    → new ≡ old ++ entry ∷ [] → Pairwise Gives (map f (take (i + 1) items)) (map entry_row new)
next_entry Gives f items i item d old new entry bound is far gives pushed =
    let texts : map entry_row new ≡ map entry_row old ++ entry_row entry ∷ [] =
    ap (map entry_row) pushed ∙ map-append entry_row old (entry ∷ []) in
    let more : map f (take (i + 1) items) ≡ map f (take i items) ++ f item ∷ [] =
    map_more f items i d bound ∙ ap (λ v. map f (take i items) ++ f v ∷ []) (sym is) in
    subst (λ xs. Pairwise Gives xs (map entry_row new)) (sym more)
    (subst (Pairwise Gives (map f (take i items) ++ f item ∷ [])) (sym texts)
    (entries_more Gives (map f (take i items)) (map entry_row old) (f item) (entry_row entry) far gives))

-- ---- an item of RON

-- whose list is read
pub piece_read : {E : Type 0} (r : Result (Result Cookie Cause) E) (item text : List ℕ) (store : Store)
    → text ≡ bracketed item → Loads ShowsOnly true (pos 0) text store
    → IfOk r (λ row. row_of row ≡ only_row store.rows) → IfOk r (λ row. GivesPiece item (row_of row))
piece_read (Ok row) item text store same loads is =
    inr (store, subst (λ t. Loads ShowsOnly true (pos 0) t store) same loads, is)
piece_read (Err e) item text store same loads is = tt

-- whose list isn't
pub piece_unread : {E : Type 0} (r : Result (Result Cookie Cause) E) (item text : List ℕ) (cause : Error)
    (before after reads : ℕ) → text ≡ bracketed item
    → (IsReadFault before after reads cause ⊎ (cause ≡ OutOfMemory) ⊎ OfText (Some text) (λ t. IsRonRefusal t cause))
    → IfOk r (λ row. (row_of row ≡ None) × (¬ (cause ≡ Io)) × (¬ (cause ≡ OutOfMemory)))
    → IfOk r (λ row. GivesPiece item (row_of row))
piece_unread (Ok row) item text cause before after reads same (inl failed) is = absurd (is.1 failed.0)
piece_unread (Ok row) item text cause before after reads same (inr (inl memory)) is = absurd (is.2 memory)
piece_unread (Ok row) item text cause before after reads same (inr (inr of)) is =
    inl ((cause, is.2, subst (λ t. IsRonRefusal t cause) (of.1 ∙ same) of.2), is.0)
piece_unread (Err e) item text cause before after reads same why is = tt
