-- Why bytes aren't read as a text.
use Rattle.std.proofs.Common.{◌≡◌, Bool, true, false, List, inl, inr, refl, sym, ap, subst}
use Rattle.std.specs.Prelude.{ℕ, ◌↔◌, Result, Ok, Err, IsErrOf, IfOk, IfErr}
use Rattle.std.specs.Str.{IsUtf8, is_utf8}
use Rattle.std.proofs.lemmas.Bool.{both_ways}
use Rattle.std.proofs.lemmas.Str.{is_utf8-from_IsUtf8, IsUtf8-from_is_utf8}
use Rattle.saved_text.specs.RonReading.{IsRonFault}
use Rattle.saved_text.specs.declared.error.SavedTextError.{SavedTextError}
use Rattle.saved_text.specs.declared.error.SavedTextError.TheVariants as fault
use Rattle.store_parts.specs.declared.error.Error.TheVariants.{OutOfMemory}
use Rattle.cookie_store.specs.Formats.{IsFaultIn}
use Rattle.cookie_store.specs.SavedTexts.{IsTextRefusal, of_saved_text}
use Rattle.cookie_store.specs.declared.serde.list.Format.{Format}
use Rattle.cookie_store.specs.declared.serde.list.Format.TheVariants.{Json, Ron}

is_ok : {T E : Type 0} → Result T E → Bool
is_ok (Ok x) = true
is_ok (Err e) = false

same_error : {T E : Type 0} (x y : E) → ◌≡◌ {A = Result T E} (Err x) (Err y) → x ≡ y
same_error x y e = cc

no_text : (text : List ℕ) → is_utf8 text ≡ false → IsUtf8 text → ⊥
no_text text is utf8 = both_ways (is_utf8 text) is (is_utf8-from_IsUtf8 text utf8)

-- bytes that were read are UTF-8, where those that aren't are told
read_is_text : {T : Type 0} (x : T) (text : List ℕ)
    → (IsErrOf {T = T} {E = SavedTextError} (Ok x) fault.NotText ↔ (¬ IsUtf8 text)) → IsUtf8 text
unfolding is_ok
read_is_text x text told = by (is_utf8 text) refl
  where
    by : (b : Bool) → is_utf8 text ≡ b → IsUtf8 text
    by true is = IsUtf8-from_is_utf8 text is
    by false is = absurd (both_ways true (ap is_ok (told.1 (no_text text is))) refl)

-- a fault of bytes, where those that aren't UTF-8 are told, is a refusal
text_refused : {T : Type 0} (IsFault : List ℕ → SavedTextError → Type 0) (text : List ℕ) (cause : SavedTextError)
    → (IsErrOf {T = T} {E = SavedTextError} (Err cause) fault.NotText ↔ (¬ IsUtf8 text)) → IsFault text cause
    → IsTextRefusal IsFault text (of_saved_text cause)
text_refused IsFault text cause told why = by (is_utf8 text) refl
  where
    by : (b : Bool) → is_utf8 text ≡ b → IsTextRefusal IsFault text (of_saved_text cause)
    by true is = inr (IsUtf8-from_is_utf8 text is, (cause, why, refl))
    by false is =
        inl (ap of_saved_text (same_error cause fault.NotText (told.1 (no_text text is))), no_text text is)

-- so it is with what reading them answers
pub reads_text : {T : Type 0} (text : List ℕ) (r : Result T SavedTextError)
    → (IsErrOf r fault.NotText ↔ (¬ IsUtf8 text)) → IfOk r (λ _. IsUtf8 text)
reads_text text (Ok x) told = read_is_text x text told
reads_text text (Err cause) told = tt

pub refuses_text : {T : Type 0} (format : Format) (text : List ℕ) (r : Result T SavedTextError) → format ≡ Ron
    → (IsErrOf r fault.NotText ↔ (¬ IsUtf8 text)) → IfErr r (IsRonFault text)
    → IfErr r (λ cause. IsTextRefusal (IsFaultIn format) text (of_saved_text cause))
refuses_text format text (Ok x) is told why = tt
refuses_text format text (Err cause) is told why =
    subst (λ f. IsTextRefusal (IsFaultIn f) text (of_saved_text cause)) (sym is)
    (text_refused IsRonFault text cause told why)

-- a text may be refused for want of memory
pub want_refused : (format : Format) (text : List ℕ) → IsUtf8 text → IsTextRefusal (IsFaultIn format) text OutOfMemory
want_refused Json text utf8 = inr (utf8, (fault.OutOfMemory, tt, refl))
want_refused Ron text utf8 = inr (utf8, (fault.OutOfMemory, tt, refl))
