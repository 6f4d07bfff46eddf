-- What a command gives over the jar's file and its lock, put together of what its steps say.
use Rattle.std.proofs.Common.{◌≡◌, ◌⊎◌, ◌∙◌, ℕ, Bool, true, false, List, [], Option, None, Result, Ok, Err}
use Rattle.std.proofs.Common.{Bor, ap, inl, inr, refl, subst, sym}
use Rattle.std.specs.Prelude.{IfOk, IfErr, OnErr, unwrap_or}
use Rattle.std.specs.Option.{option_copied}
use Rattle.std.specs.Result.{result_map_both}
use Rattle.kept_file.specs.Locks.{Lock, bytes_of}
use Rattle.jar_commands.specs.KeptSteps.{GivesKept, IsBut, PerformsHeld, put_of}
use Rattle.jar_commands.specs.Outcomes.{OutcomeText, outcome_text}
use Rattle.jar_commands.specs.Performing.{AnswersTexts, Brings, BringsNothing, Source, UnreadBut}
use Rattle.jar_commands.specs.Plans.{PlanText}
use Rattle.jar_commands.specs.Program.{Ends, FilesGive, IsOfFiles, IsUnwritten, Printed, RunFails, Unprinted, Writer}
use Rattle.jar_commands.specs.Program.{output, output_by, prints_text, reads_input}
use Rattle.jar_commands.specs.ProgramKept.{KeepsJar, changes}
use Rattle.jar_commands.specs.declared.failure.Failure.{Failure}
use Rattle.jar_commands.specs.declared.failure.Failure.TheVariants.{Output}
use Rattle.jar_commands.specs.declared.about.Stopped.{Stopped}
use Rattle.jar_commands.specs.declared.outcome.Outcome.{Outcome}
use Rattle.jar_commands.specs.declared.printing.Done.{Done}

-- ---- under the lock

-- what was read under the lock gives a text, which is put in the jar's place
pub replaced_gives : (plan : PlanText) (suffixes : List ℕ) (brought : Option (List ℕ)) (old new : Lock)
    (whole : OutcomeText) (result : Result Outcome Stopped)
    → AnswersTexts plan suffixes (bytes_of old) brought (Ok whole)
    → IfOk result (λ done. IsBut whole (outcome_text done)) → IfErr result (λ stopped. IsUnwritten stopped.failure)
    → new ≡ put_of whole.jar old
    → PerformsHeld plan suffixes brought (old, new) (result_map_both outcome_text (λ stopped. stopped.failure) result)
replaced_gives plan suffixes brought old new whole (Ok done) texts ok err lock = (whole, texts, ok, lock)
replaced_gives plan suffixes brought old new whole (Err stopped) texts ok err lock = inr (whole, texts, err, lock)

-- what was read without the lock, which stays as it was
unlocked : (plan : PlanText) (suffixes : List ℕ) (brought stored : Option (List ℕ)) (lock : Lock)
    (result : Result OutcomeText Failure) → AnswersTexts plan suffixes stored brought result
    → GivesKept false plan suffixes brought (lock, lock) result
unlocked plan suffixes brought stored lock (Ok outcome) texts =
    (stored, outcome, texts, (refl, refl, refl), refl)
unlocked plan suffixes brought stored lock (Err failure) texts = inr (inl (stored, texts, refl))

pub unlocked_gives : (plan : PlanText) (suffixes : List ℕ) (brought stored : Option (List ℕ)) (lock : Lock)
    (b : Bool) (result : Result OutcomeText Failure) → b ≡ false → AnswersTexts plan suffixes stored brought result
    → GivesKept b plan suffixes brought (lock, lock) result
unlocked_gives plan suffixes brought stored lock b result none texts =
    subst (λ b. GivesKept b plan suffixes brought (lock, lock) result) (sym none)
    (unlocked plan suffixes brought stored lock result texts)

-- ---- the program

-- what is given is brought where nothing is read
pub brings_given : {V E : Type 0} (Unread : Type 0) (reader : Source) (b : Bool) (bytes_in : V → Option (List ℕ))
    (result : Result V E) → b ≡ false → Unread
    → IfOk result (λ brought. (given : Option (List ℕ)) × Brings Unread reader b given (bytes_in brought))
brings_given Unread reader b bytes_in (Ok brought) none unread = (
  bytes_in brought,
  subst (λ b. Brings Unread reader b (bytes_in brought) (bytes_in brought)) (sym none) (refl, unread),
)
brings_given Unread reader b bytes_in (Err failure) none unread = tt

brought_but : (Unread : Type 0) (reader : Source) (is_read : Bool) (given brought : Option (List ℕ))
    → Brings Unread reader is_read given brought → UnreadBut Unread is_read
brought_but Unread reader true given brought brings = tt
brought_but Unread reader false given brought brings = brings.1

-- nothing is brought, or the other file isn't read
not_brought : (Unread Unwritten : Type 0) (reader : Source) (writer : Writer) (plan : PlanText) (failure : Failure)
    → BringsNothing reader (reads_input plan.command) failure
    ⊎ (IsOfFiles failure × UnreadBut Unread (reads_input plan.command))
    → Unwritten → RunFails Unread Unwritten reader writer plan failure
not_brought Unread Unwritten reader writer plan failure (inl nothing) unwritten =
    inl (([], None, None, inl (failure, refl, nothing)), unwritten)
not_brought Unread Unwritten reader writer plan failure (inr of) unwritten = inr (inl (of.0, of.1, unwritten))

-- the jar isn't read either, which is told first
unread_too : (Unread : Type 0) (reader : Source) (is_read : Bool) (failure : Failure)
    → BringsNothing reader is_read failure ⊎ (IsOfFiles failure × UnreadBut Unread is_read) → UnreadBut Unread is_read
unread_too Unread reader true failure why = tt
unread_too Unread reader false failure (inl nothing) = absurd nothing
unread_too Unread reader false failure (inr of) = of.1

pub first_not_brought : (Unread Unwritten : Type 0) (reader : Source) (writer : Writer) (plan : PlanText)
    (failure first : Failure)
    → BringsNothing reader (reads_input plan.command) failure
    ⊎ (IsOfFiles failure × UnreadBut Unread (reads_input plan.command))
    → (first ≡ failure) ⊎ IsOfFiles first → Unwritten → RunFails Unread Unwritten reader writer plan first
first_not_brought Unread Unwritten reader writer plan failure first why (inl same) unwritten =
    subst (RunFails Unread Unwritten reader writer plan) (sym same)
    (not_brought Unread Unwritten reader writer plan failure why unwritten)
first_not_brought Unread Unwritten reader writer plan failure first why (inr of) unwritten =
    inr (inl (of, unread_too Unread reader (reads_input plan.command) failure why, unwritten))

-- the list isn't read, whether something was brought or not
pub list_not_read : {V : Type 0} (Unread Unwritten : Type 0) (reader : Source) (writer : Writer) (plan : PlanText)
    (bytes_in : V → Option (List ℕ)) (brought : Result V Stopped) (failure : Failure)
    → IfOk brought (λ x. (given : Option (List ℕ))
    × Brings Unread reader (reads_input plan.command) given (bytes_in x))
    → IfErr brought (λ stopped. BringsNothing reader (reads_input plan.command) stopped.failure
    ⊎ (IsOfFiles stopped.failure × UnreadBut Unread (reads_input plan.command)))
    → IsOfFiles failure → Unwritten → RunFails Unread Unwritten reader writer plan failure
list_not_read Unread Unwritten reader writer plan bytes_in (Ok x) failure ok err of unwritten =
    inr (inl (of, brought_but Unread reader (reads_input plan.command) ok.0 (bytes_in x) ok.1, unwritten))
list_not_read Unread Unwritten reader writer plan bytes_in (Err stopped) failure ok err of unwritten =
    inr (inl (of, unread_too Unread reader (reads_input plan.command) stopped.failure err, unwritten))

-- what is brought, lent
pub brought_as : (Unread : Type 0) (reader : Source) (b : Bool) (given : Option (List ℕ))
    (lent : Option (Bor (List ℕ))) (brought : Option (List ℕ)) → option_copied lent ≡ brought
    → Brings Unread reader b given brought → Brings Unread reader b given (option_copied lent)
brought_as Unread reader b given lent brought is brings =
    subst (Brings Unread reader b given) (sym is) brings

-- a file isn't read behind what was brought
not_read : (Unread Unwritten : Type 0) (reader : Source) (writer : Writer) (plan : PlanText)
    (given brought : Option (List ℕ)) (failure : Failure)
    → Brings Unread reader (reads_input plan.command) given brought → IsOfFiles failure → Unwritten
    → RunFails Unread Unwritten reader writer plan failure
not_read Unread Unwritten reader writer plan given brought failure brings of unwritten =
    inr (inl (of, brought_but Unread reader (reads_input plan.command) given brought brings, unwritten))

gives : (Unread : Type 0) (reader : Source) (plan : PlanText) (suffixes : List ℕ)
    (stored given brought : Option (List ℕ))
    (result : Result OutcomeText Failure) → Brings Unread reader (reads_input plan.command) given brought
    → AnswersTexts plan suffixes stored brought result → FilesGive Unread reader plan result
gives Unread reader plan suffixes stored given brought result brings texts =
    (suffixes, stored, given, inr (brought, brings, texts))

-- nothing is given over the jar's file
pub serves_not : (Unread Unwritten : Type 0) (reader : Source) (writer : Writer) (plan : PlanText) (suffixes : List ℕ)
    (given brought : Option (List ℕ)) (lock : Lock × Lock) (b : Bool) (failure : Failure)
    → Brings Unread reader (reads_input plan.command) given brought
    → GivesKept b plan suffixes brought lock (Err failure) → Unwritten
    → RunFails Unread Unwritten reader writer plan failure
serves_not Unread Unwritten reader writer plan suffixes given brought lock b failure brings (inl of) unwritten =
    not_read Unread Unwritten reader writer plan given brought failure brings of.0 unwritten
serves_not Unread Unwritten reader writer plan suffixes given brought lock b failure brings (inr (inl none)) unwritten =
    inl (gives Unread reader plan suffixes none.0 given brought (Err failure) brings none.1, unwritten)
serves_not Unread Unwritten reader writer plan suffixes given brought lock b failure brings (inr (inr does)) unwritten =
    inr (inr (inl (
      does.1,
      gives Unread reader plan suffixes does.0 given brought (Ok does.1) brings does.2,
      does.3,
      unwritten,
    )))

pub keeps_not : (Unread : Type 0) (reader : Source) (plan : PlanText) (suffixes : List ℕ)
    (given brought : Option (List ℕ)) (lock : Lock × Lock) (failure : Failure)
    → Brings Unread reader (reads_input plan.command) given brought
    → GivesKept (changes plan.command) plan suffixes brought lock (Err failure)
    → KeepsJar Unread reader plan lock 2
keeps_not Unread reader plan suffixes given brought lock failure brings (inl of) = inr (refl, of.1)
keeps_not Unread reader plan suffixes given brought lock failure brings (inr (inl none)) =
    inl (suffixes, none.0, given, Err failure, inr (brought, brings, none.1), refl, none.2)
keeps_not Unread reader plan suffixes given brought lock failure brings (inr (inr does)) =
    inl (suffixes, does.0, given, Ok does.1, inr (brought, brings, does.2), inr refl, does.4)

-- ---- all is given, and is printed or not

-- what an outcome prints is what the whole one prints
same_output : (b : Bool) (whole outcome : OutcomeText) → IsBut whole outcome
    → output_by b outcome ≡ output_by b whole
same_output true whole outcome but = ap (λ o. unwrap_or o []) but.2
same_output false whole outcome but = but.0

pub serves_ok : (Unread : Type 0) (reader : Source) (writer : Writer) (plan : PlanText) (suffixes : List ℕ)
    (given brought : Option (List ℕ)) (lock : Lock × Lock) (b : Bool) (outcome : OutcomeText)
    (result : Result Done Stopped) → Brings Unread reader (reads_input plan.command) given brought
    → GivesKept b plan suffixes brought lock (Ok outcome)
    → IfOk result (λ done. (done.status ≡ outcome.status) × Printed writer (output plan.command outcome))
    → IfOk result (λ done. Ends Unread reader writer plan done.status)
serves_ok Unread reader writer plan suffixes given brought lock b outcome (Ok done) brings does ok = (
  does.1,
  gives Unread reader plan suffixes does.0 given brought (Ok does.1) brings does.2,
  ok.0 ∙ does.3.1,
  subst (Printed writer) (same_output (prints_text plan.command) does.1 outcome does.3) ok.1,
)
serves_ok Unread reader writer plan suffixes given brought lock b outcome (Err stopped) brings does ok = tt

-- a file isn't written, or the writer failed
unfinished : (Unread Unwritten : Type 0) (reader : Source) (writer : Writer) (plan : PlanText)
    (whole outcome : OutcomeText) (failure : Failure) → FilesGive Unread reader plan (Ok whole) → IsBut whole outcome
    → (IsUnwritten failure × Unwritten)
    ⊎ ((failure ≡ Output) × Unprinted writer (output plan.command outcome))
    → RunFails Unread Unwritten reader writer plan failure
unfinished Unread Unwritten reader writer plan whole outcome failure files but (inl kept) =
    inr (inr (inl (whole, files, kept.0, kept.1)))
unfinished Unread Unwritten reader writer plan whole outcome failure files but (inr unprinted) =
    inr (inr (inr (
      whole,
      files,
      unprinted.0,
      subst (Unprinted writer) (same_output (prints_text plan.command) whole outcome but) unprinted.1,
    )))

pub serves_err : (Unread Unwritten : Type 0) (reader : Source) (writer : Writer) (plan : PlanText) (suffixes : List ℕ)
    (given brought : Option (List ℕ)) (lock : Lock × Lock) (b : Bool) (outcome : OutcomeText)
    (result : Result Done Stopped) → Brings Unread reader (reads_input plan.command) given brought
    → GivesKept b plan suffixes brought lock (Ok outcome)
    → IfErr result (λ stopped. (IsUnwritten stopped.failure × Unwritten)
    ⊎ ((stopped.failure ≡ Output) × Unprinted writer (output plan.command outcome)))
    → IfErr result (λ stopped. RunFails Unread Unwritten reader writer plan stopped.failure)
serves_err Unread Unwritten reader writer plan suffixes given brought lock b outcome (Ok done) brings does err = tt
serves_err Unread Unwritten reader writer plan suffixes given brought lock b outcome (Err stopped) brings does err =
    unfinished Unread Unwritten reader writer plan does.1 outcome stopped.failure
    (gives Unread reader plan suffixes does.0 given brought (Ok does.1) brings does.2) does.3 err

keeps_at : (Unread : Type 0) (reader : Source) (plan : PlanText) (suffixes : List ℕ) (given brought : Option (List ℕ))
    (lock : Lock × Lock) (outcome : OutcomeText) (status : ℕ)
    → Brings Unread reader (reads_input plan.command) given brought
    → GivesKept (changes plan.command) plan suffixes brought lock (Ok outcome)
    → (status ≡ outcome.status) ⊎ (status ≡ 2) → KeepsJar Unread reader plan lock status
keeps_at Unread reader plan suffixes given brought lock outcome status brings does (inl ends) =
    inl (suffixes, does.0, given, Ok does.1, inr (brought, brings, does.2), inl (ends ∙ does.3.1), does.4)
keeps_at Unread reader plan suffixes given brought lock outcome status brings does (inr two) =
    inl (suffixes, does.0, given, Ok does.1, inr (brought, brings, does.2), inr two, does.4)

pub keeps_ok : (Unread : Type 0) (reader : Source) (writer : Writer) (plan : PlanText) (suffixes : List ℕ)
    (given brought : Option (List ℕ)) (lock : Lock × Lock) (outcome : OutcomeText) (result : Result Done Stopped)
    → Brings Unread reader (reads_input plan.command) given brought
    → GivesKept (changes plan.command) plan suffixes brought lock (Ok outcome)
    → IfOk result (λ done. (done.status ≡ outcome.status) × Printed writer (output plan.command outcome))
    → IfOk result (λ done. KeepsJar Unread reader plan lock done.status)
keeps_ok Unread reader writer plan suffixes given brought lock outcome (Ok done) brings does ok =
    keeps_at Unread reader plan suffixes given brought lock outcome done.status brings does (inl ok.0)
keeps_ok Unread reader writer plan suffixes given brought lock outcome (Err stopped) brings does ok = tt

pub keeps_err : (Unread : Type 0) (reader : Source) (plan : PlanText) (suffixes : List ℕ)
    (given brought : Option (List ℕ)) (lock : Lock × Lock) (outcome : OutcomeText) (result : Result Done Stopped)
    → Brings Unread reader (reads_input plan.command) given brought
    → GivesKept (changes plan.command) plan suffixes brought lock (Ok outcome)
    → OnErr result (KeepsJar Unread reader plan lock 2)
keeps_err Unread reader plan suffixes given brought lock outcome (Ok done) brings does = tt
keeps_err Unread reader plan suffixes given brought lock outcome (Err stopped) brings does =
    keeps_at Unread reader plan suffixes given brought lock outcome 2 brings does (inr refl)
