-- Texts in memory, and why there is none.
use Rattle.std.proofs.Common.{◌≡◌, ◌⊎◌, ℕ, List, [], ◌∷◌, ◌++◌, Some, cond, inl, inr, refl, sym, subst, ap, ◌∙◌}
use Rattle.std.specs.Prelude.{is_none}
use Rattle.store_parts.specs.declared.error.Error.{Error}
use Rattle.store_parts.specs.declared.error.Error.TheVariants.{Io, OutOfMemory, Year}
use Rattle.cookie_store.specs.Rows.{Row}
use Rattle.cookie_store.specs.SavedTexts.{IsAnyBeforeYears, IsReadFault, IsSaveFault, IsWriteFault, OfText}
use Rattle.cookies_txt.specs.Writing.{AreHeld, held}
use Rattle.cookie_jar.specs.declared.error.ReadError.{ReadError}
use Rattle.cookie_jar.specs.declared.error.ReadError.TheVariants as read

-- what is put behind nothing
pub behind_nothing : (old list text : List ℕ) → old ≡ [] → text ≡ old ++ list → text ≡ list
behind_nothing old list text none is = is ∙ ap (λ front. front ++ list) none

-- rows that aren't saved for `Year`
IsYear : Error → Type 0
IsYear Year = Unit {0}
IsYear e = ⊥

pub year_only : {Same : Type 0} (rows : List Row) (before after : ℕ) (e : Error) → e ≡ Year
    → (IsWriteFault before after e ⊎ (Same × IsSaveFault rows e)) → IsAnyBeforeYears rows
unfolding IsYear
year_only rows before after e is (inl wrote) = absurd (subst IsYear (sym is ∙ wrote.0) tt)
year_only rows before after e is (inr (same, inl year)) = year.1
year_only rows before after e is (inr (same, inr memory)) = absurd (subst IsYear (sym is ∙ memory) tt)

-- why a text isn't read
pub not_read : (Refuses : List ℕ → Error → Type 0) (text : List ℕ) (cause : Error) (told : ReadError)
    (before after reads : ℕ)
    → (((told ≡ read.OutOfMemory) × ((cause ≡ Io) ⊎ (cause ≡ OutOfMemory)))
    ⊎ ((¬ (told ≡ read.OutOfMemory)) × (¬ (cause ≡ Io)) × (¬ (cause ≡ OutOfMemory))))
    → (IsReadFault before after reads cause ⊎ (cause ≡ OutOfMemory) ⊎ OfText (Some text) (λ t. Refuses t cause))
    → (told ≡ read.OutOfMemory)
    ⊎ ((¬ (told ≡ read.OutOfMemory)) × ((why : Error) × (¬ (why ≡ OutOfMemory)) × Refuses text why))
not_read Refuses text cause told before after reads (inl memory) why = inl memory.0
not_read Refuses text cause told before after reads (inr other) (inl failed) = absurd (other.1 failed.0)
not_read Refuses text cause told before after reads (inr other) (inr (inl memory)) = absurd (other.2 memory)
not_read Refuses text cause told before after reads (inr other) (inr (inr of)) =
    inr (other.0, (cause, other.2, subst (λ t. Refuses t cause) of.1 of.2))

-- rows that lines can hold are all held
pub held_all : (rows : List Row) → AreHeld rows → held rows ≡ rows
held_all [] all = refl
held_all (r ∷ rs) all =
    ap (λ o. cond (is_none o) (r ∷ held rs) (held rs)) all.0 ∙ ap (λ xs. r ∷ xs) (held_all rs all.1)
