-- What the program does without a jar, and how what it serves is told.
use Rattle.std.proofs.Common.{◌≡◌, ◌∷◌, ◌++◌, [], ℕ, List, Result, Ok, Err, inl, inr, subst, sym}
use Rattle.std.specs.Prelude.{IfErr, IfOk}
use Rattle.jar_commands.specs.Instead.{GivesPlain}
use Rattle.kept_file.specs.Locks.{Lock}
use Rattle.jar_commands.specs.Performing.{Source}
use Rattle.jar_commands.specs.Plans.{PlanText}
use Rattle.jar_commands.specs.Program.{Printed, PrintsOnly, Unprinted, Writer}
use Rattle.jar_commands.specs.ProgramKept.{KeepsJar}
use Rattle.jar_commands.specs.declared.failure.Failure.{Failure}
use Rattle.jar_commands.specs.declared.failure.Failure.TheVariants.{Output}

-- a text that was printed, or a front of it
pub prints_only : (Unwritten : Type 0) (writer : Writer) (text : List ℕ) (given : Result ℕ Failure)
    → IfOk given (λ s. (s ≡ 0) × Printed writer text)
    → IfErr given (λ failure. (failure ≡ Output) × Unprinted writer text) → PrintsOnly Unwritten writer given
prints_only Unwritten writer text (Ok s) ok err = (ok.0, (text, ok.1))
prints_only Unwritten writer text (Err failure) ok err = inr (text, err.1)

-- a plain text
pub plain_only : (Unwritten : Type 0) (writer : Writer) (text : List ℕ) (given : Result ℕ Failure)
    → GivesPlain Unwritten writer text given → PrintsOnly Unwritten writer given
plain_only Unwritten writer text (Ok s) gives = (gives.0, (gives.1.0 ++ 10 ∷ [], gives.1.2))
plain_only Unwritten writer text (Err failure) (inl none) = inl none.2
plain_only Unwritten writer text (Err failure) (inr (inl memory)) = inl memory.1
plain_only Unwritten writer text (Err failure) (inr (inr output)) = inr (output.1.0 ++ 10 ∷ [], output.1.2)

-- ---- what is served

pub kept_at : (Unread : Type 0) (reader : Source) (plan : PlanText) (lock : Lock × Lock) (done status : ℕ)
    → KeepsJar Unread reader plan lock done → status ≡ done → KeepsJar Unread reader plan lock status
kept_at Unread reader plan lock done status keeps is = subst (KeepsJar Unread reader plan lock) (sym is) keeps
