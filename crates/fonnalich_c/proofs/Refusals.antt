-- What refusals are told as.
use Rattle.std.proofs.Common.{◌≡◌, ◌⊎◌, ℕ, List, Result, Err, Some, inl, inr, refl, subst, ⊎_elim}
use Rattle.std.specs.Prelude.{IsErrOf, ◌↔◌}
use Rattle.std.specs.Str.{IsUtf8}
use Rattle.publicsuffix.specs.declared.error.ListError.{ListError}
use Rattle.publicsuffix.specs.declared.error.ListError.TheVariants as list
use Rattle.publicsuffix.specs.Looks.{IsStrange}
use Rattle.publicsuffix.specs.Rules.{HasFirstFault}
use Rattle.store_parts.specs.declared.error.Error.{Error}
use Rattle.store_parts.specs.declared.error.Error.TheVariants.{OutOfMemory, Year}
use Rattle.cookie_store.specs.Rows.{Row}
use Rattle.cookie_store.specs.SavedTexts.{OfText, IsAnyBeforeYears, IsReadFault, IsRonRefusal, IsSaveFault}
use Rattle.cookie_client.specs.Loading.{IsNoSavedText}
use Rattle.cookie_client.proofs.Loading.{year_only}
use Rattle.fonnalich_c.specs.Given.{IsListToldAs, IsNoListOf}
use Rattle.fonnalich_c.specs.Tasks.{IsLoadToldAs}
use Rattle.fonnalich_c.specs.declared.refusal.Refusal.{Refusal}
use Rattle.fonnalich_c.specs.declared.refusal.Refusal.TheVariants as refusal

-- why a text is no list
pub not_listed : {L : Type 0} (r : Result L ListError) (text : List ℕ) (cause : ListError) (told : Refusal)
    → r ≡ Err cause → IsListToldAs cause told → (IsErrOf r list.NotText ↔ (¬ IsUtf8 text))
    → ((number : ℕ) → r ≡ Err (list.Rule number) → HasFirstFault text number ⊎ IsStrange text number)
    → IsNoListOf text told
not_listed r text cause told is (inl memory) not_text fault = inl memory.1
not_listed r text list.NotText told is (inr other) not_text fault = inr (inl (other.1, inl (inl (not_text.0 is))))
not_listed r text (list.Rule number) told is (inr other) not_text fault =
    ⊎_elim (λ (first : HasFirstFault text number). inr (inl (other.1, inl (inr (number, first)))))
    (λ (strange : IsStrange text number). inr (inl (other.1, inr (number, strange)))) (fault number is)
not_listed r text list.OutOfMemory told is (inr other) not_text fault = absurd (other.0 refl)

-- why a client isn't loaded from a text
pub not_loaded : (text : List ℕ) (cause : Error) (told : Refusal) (before after reads : ℕ) → IsLoadToldAs cause told
    → (IsReadFault before after reads cause ⊎ (cause ≡ OutOfMemory) ⊎ OfText (Some text) (λ t. IsRonRefusal t cause))
    → (told ≡ refusal.Read) ⊎ (told ≡ refusal.Memory) ⊎ ((told ≡ refusal.Saved) × IsNoSavedText text)
not_loaded text cause told before after reads (inl read) why = inl read.1
not_loaded text cause told before after reads (inr (inl memory)) why = inr (inl memory.1)
not_loaded text cause told before after reads (inr (inr other)) (inl read) = absurd (other.0 read.0)
not_loaded text cause told before after reads (inr (inr other)) (inr (inl memory)) = absurd (other.1 memory)
not_loaded text cause told before after reads (inr (inr other)) (inr (inr of)) =
    inr (inr (other.2, (cause, other.1, subst (λ t. IsRonRefusal t cause) of.1 of.2)))

-- a client that isn't saved for `Year`
pub year_saved : (rows : List Row) (e : Error) → e ≡ Year → IsSaveFault rows e → IsAnyBeforeYears rows
year_saved rows e is fault = year_only {Same = Unit {0}} rows 0 0 e is (inr (tt, fault))
