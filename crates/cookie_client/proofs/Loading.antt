-- Texts that are lists, and clients that have no saved text.
use Rattle.std.proofs.Common.{◌≡◌, ◌⊎◌, ℕ, Bool, List, Result, Ok, Err, inl, inr, refl, sym, subst, ◌∙◌, true, false}
use Rattle.std.proofs.Common.{true≢false}
use Rattle.std.specs.Prelude.{IsErrOf, ◌↔◌}
use Rattle.std.specs.Str.{IsUtf8, is_utf8}
use Rattle.std.proofs.lemmas.Str.{IsUtf8-from_is_utf8, is_utf8-from_IsUtf8}
use Rattle.publicsuffix.specs.declared.error.ListError.{ListError}
use Rattle.publicsuffix.specs.declared.error.ListError.TheVariants as list
use Rattle.store_parts.specs.declared.error.Error.{Error}
use Rattle.store_parts.specs.declared.error.Error.TheVariants.{Year}
use Rattle.cookie_store.specs.Rows.{Row}
use Rattle.cookie_store.specs.SavedTexts.{IsAnyBeforeYears, IsSaveFault, IsWriteFault}

-- what is a text where that it is none is refuted
utf8_or : (text : List ℕ) (b : Bool) → is_utf8 text ≡ b → (¬ IsUtf8 text → ⊥) → IsUtf8 text
utf8_or text true is never = IsUtf8-from_is_utf8 text is
utf8_or text false is never =
    absurd (never (λ u. true≢false (sym (is_utf8-from_IsUtf8 text u) ∙ is)))

ok_err : {T E : Type 0} (x : T) (e : E) → Ok x ≡ Err e → ⊥
ok_err x e same = cc

-- a list that was parsed is that of a text
pub listed : {L : Type 0} (text : List ℕ) (given : L)
    → (let r : Result L ListError = Ok given in IsErrOf r list.NotText ↔ (¬ IsUtf8 text)) → IsUtf8 text
listed text given not_text =
    utf8_or text (is_utf8 text) refl (λ none. ok_err given list.NotText (not_text.1 none))

-- a client that isn't saved for `Year`
IsYear : Error → Type 0
IsYear Year = Unit {0}
IsYear e = ⊥

pub year_only : {Same : Type 0} (rows : List Row) (before after : ℕ) (e : Error) → e ≡ Year
    → (IsWriteFault before after e ⊎ (Same × IsSaveFault rows e)) → IsAnyBeforeYears rows
unfolding IsYear
year_only rows before after e is (inl wrote) = absurd (subst IsYear (sym is ∙ wrote.0) tt)
year_only rows before after e is (inr (same, inl year)) = year.1
year_only rows before after e is (inr (same, inr memory)) = absurd (subst IsYear (sym is ∙ memory) tt)
