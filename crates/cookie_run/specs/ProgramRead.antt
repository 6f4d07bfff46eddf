-- What the code reads of the program's words, beside the definition: for private contracts alone (own:
-- docs/DEFINITIONS.md).
use Rattle.std.specs.Prelude.{Result, Ok, Err, ◌≡◌}
use Rattle.jiff.specs.Words.{civil_nanos}
use Rattle.cookie_run.specs.Program as spec
use Rattle.cookie_run.specs.declared.program.arguments.Asked.{Asked}
use Rattle.cookie_run.specs.declared.program.failure.Failure.{Failure}

-- what was asked for as a plain value
abbrev pub asked_for : Asked → spec.Asked
asked_for a = record {
  suffix_file = a.suffix_file.now;
  seed = a.seed;
  store_file = a.store_file.now;
  at = civil_nanos a.at.date;
}

-- the words ask for this, or are refused for this
abbrev pub ReadsWords : Result Asked Failure → Result spec.Asked Failure → Type 0
ReadsWords (Ok asked) read = read ≡ Ok (asked_for asked)
ReadsWords (Err failure) read = read ≡ Err failure
