-- A jar that isn't kept.
use Rattle.std.proofs.Common.{◌≡◌, ◌⊎◌, ℕ, Bool, List, Some, inl, inr}
use Rattle.url.specs.Parts.{Parts}
use Rattle.cookie_store.specs.Rows.{Row, Store}
use Rattle.cookie_jar.specs.declared.taking.End.{End}
use Rattle.jar_commands.specs.Performing.{FailsToReceive, FailsToSet, Unkept}
use Rattle.jar_commands.specs.Plans.{PlanText}
use Rattle.jar_commands.specs.Receiving.{TakesHeads}
use Rattle.jar_commands.specs.Setting.{TakesSet}
use Rattle.jar_commands.specs.declared.failure.Failure.{Failure}
use Rattle.jar_commands.specs.declared.failure.Failure.TheVariants.{Memory}
use Rattle.jar_commands.specs.declared.plan.Start.{Start}

-- behind heads that were taken
pub heads_unkept : (plan : PlanText) (jar : Store) (url : Parts) (start : Start) (is_one : Bool) (text : List ℕ)
    (refused : Bool) (new : List Row) (failure : Failure)
    → TakesHeads is_one plan.form plan.rules start jar plan.now url text refused new
    → (failure ≡ Memory) ⊎ Unkept plan new failure → FailsToReceive plan jar url start is_one (Some text) failure
heads_unkept plan jar url start is_one text refused new failure takes (inl memory) = inl memory
heads_unkept plan jar url start is_one text refused new failure takes (inr unkept) =
    inr (inr (refused, new, takes, unkept))

-- behind a line that was set
pub set_unkept : (plan : PlanText) (jar : Store) (url : Parts) (line : List ℕ) (ends : List End) (new : List Row)
    (failure : Failure) → TakesSet plan.form plan.rules jar.suffixes jar.rows url plan.now line ends new
    → (failure ≡ Memory) ⊎ Unkept plan new failure → FailsToSet plan jar url line failure
set_unkept plan jar url line ends new failure takes (inl memory) = inl memory
set_unkept plan jar url line ends new failure takes (inr unkept) = inr (ends, new, takes, unkept)
