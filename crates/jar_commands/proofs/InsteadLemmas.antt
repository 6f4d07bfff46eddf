-- What is printed of a plain text.
use Rattle.std.proofs.Common.{◌≡◌, ℕ, List, [], ◌∷◌, ◌++◌, Result, Ok, Err, inr, subst}
use Rattle.std.specs.Prelude.{IfErr, IfOk}
use Rattle.jar_commands.specs.Instead.{GivesPlain, IsPlainInstead}
use Rattle.jar_commands.specs.Program.{Printed, Unprinted, Writer}
use Rattle.jar_commands.specs.declared.failure.Failure.{Failure}
use Rattle.jar_commands.specs.declared.failure.Failure.TheVariants.{Output}

pub prints_plain : (Unwritten : Type 0) (writer : Writer) (text plain line : List ℕ) (result : Result ℕ Failure)
    → IsPlainInstead text plain → line ≡ plain ++ 10 ∷ []
    → IfOk result (λ status. (status ≡ 0) × Printed writer line)
    → IfErr result (λ failure. (failure ≡ Output) × Unprinted writer line)
    → GivesPlain Unwritten writer text result
prints_plain Unwritten writer text plain line (Ok status) is same ok err =
    (ok.0, (plain, is, subst (Printed writer) same ok.1))
prints_plain Unwritten writer text plain line (Err failure) is same ok err =
    inr (inr (err.0, (plain, is, subst (Unprinted writer) same err.1)))
