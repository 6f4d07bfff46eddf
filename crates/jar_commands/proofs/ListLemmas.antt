-- The suffix list of a text.
use Rattle.std.proofs.Common.{◌≡◌, ◌⊎◌, ⊎_elim, ℕ, List, Result, Ok, Err, true, false, inl, inr, refl, subst, sym}
use Rattle.std.specs.Prelude.{◌≢◌, ◌↔◌, IfErr, IfOk, IsErrOf}
use Rattle.std.specs.Str.{IsUtf8}
use Rattle.publicsuffix.specs.Looks.{IsNotStrange, IsStrange}
use Rattle.publicsuffix.specs.Rules.{HasFirstFault, Rule}
use Rattle.publicsuffix.specs.declared.error.ListError.{ListError}
use Rattle.publicsuffix.specs.declared.error.ListError.TheVariants as list
use Rattle.cookie_client.specs.Loading.{IsSuffixList}
use Rattle.jar_commands.specs.Jars.{IsListOf, MakesNoList, has_rule}
use Rattle.jar_commands.specs.declared.failure.Failure.{Failure}
use Rattle.jar_commands.specs.declared.failure.Failure.TheVariants.{Memory, SuffixList}

-- one that has a rule, or none
pub list_given : (r : Result (List Rule) Failure) (text : List ℕ) (rules : List Rule) → IsSuffixList text rules
    → IsNotStrange text → IfOk r (λ given. (given ≡ rules) × (has_rule given ≡ true)) → IfOk r (IsListOf text)
list_given (Ok given) text rules is plain ok = ((subst (IsSuffixList text) (sym ok.0) is, plain), ok.1)
list_given (Err failure) text rules is plain ok = tt

pub list_ruleless : (r : Result (List Rule) Failure) (text : List ℕ) (rules : List Rule) → IsSuffixList text rules
    → IfErr r (λ failure. (failure ≡ SuffixList) × (has_rule rules ≡ false)) → IfErr r (MakesNoList text)
list_ruleless (Ok given) text rules is err = tt
list_ruleless (Err failure) text rules is err = inr (err.0, inr (rules, is, err.1))

-- why a text is no list
pub not_listed : {L : Type 0} (r : Result L ListError) (text : List ℕ) (cause : ListError) (failure : Failure)
    → r ≡ Err cause
    → ((failure ≡ Memory) × (cause ≡ list.OutOfMemory)) ⊎ ((failure ≡ SuffixList) × (cause ≢ list.OutOfMemory))
    → (IsErrOf r list.NotText ↔ (¬ IsUtf8 text))
    → ((number : ℕ) → r ≡ Err (list.Rule number) → HasFirstFault text number ⊎ IsStrange text number)
    → MakesNoList text failure
not_listed r text cause failure is (inl memory) not_text fault = inl memory.0
not_listed r text list.NotText failure is (inr other) not_text fault =
    inr (other.0, inl (inl (inl (not_text.0 is))))
not_listed r text (list.Rule number) failure is (inr other) not_text fault =
    ⊎_elim (λ (first : HasFirstFault text number). inr (other.0, inl (inl (inr (number, first)))))
    (λ (strange : IsStrange text number). inr (other.0, inl (inr (number, strange)))) (fault number is)
not_listed r text list.OutOfMemory failure is (inr other) not_text fault = absurd (other.1 refl)
