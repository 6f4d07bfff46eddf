-- What `url TEXT` prints (this repository's own).
use Rattle.std.specs.Prelude.{◌≡◌, ◌⊎◌, ◌++◌, ℕ, List, [], ◌∷◌, Result, Ok, Err}
use Rattle.plain_url.specs.Plain.{HasNoPlain, IsPlain, IsPlainFor}
use Rattle.jar_commands.specs.Program.{Printed, Unprinted, Writer}
use Rattle.jar_commands.specs.declared.failure.Failure.{Failure}
use Rattle.jar_commands.specs.declared.failure.Failure.TheVariants.{Memory, Output, Url}

-- a plain text to ask for in the place of this one
abbrev pub IsPlainInstead : List ℕ → List ℕ → Type 0
IsPlainInstead text plain = IsPlainFor text plain × IsPlain plain

-- It prints the plain text for TEXT and a line feed, or TEXT is refused where there is none; or memory is, or the
-- writer fails.
abbrev pub GivesPlain : Type 0 → Writer → List ℕ → Result ℕ Failure → Type 0
GivesPlain Unwritten writer text (Ok status) =
    (status ≡ 0) × ((plain : List ℕ) × IsPlainInstead text plain × Printed writer (plain ++ 10 ∷ []))
GivesPlain Unwritten writer text (Err failure) =
    ((failure ≡ Url) × HasNoPlain text × Unwritten)
    ⊎ (((failure ≡ Memory) × Unwritten)
    ⊎ ((failure ≡ Output) × ((plain : List ℕ) × IsPlainInstead text plain × Unprinted writer (plain ++ 10 ∷ []))))
