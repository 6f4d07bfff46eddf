use Rattle.std.specs.Prelude.{map}
use Rattle.jiff.specs.Words.{civil_nanos}
use Rattle.cookie_store.specs.Given.{ArePicked}
use Rattle.cookie_store.specs.Rows.{live}
use Rattle.cookie_store.specs.StoredCookie.{stored_of}
use Rattle.cookie_jar.specs.Entries.{entry_row}
use Rattle.cookie_jar.specs.Importing.{rows_in}
use Rattle.cookie_jar.specs.Keeping.{IsTaken}
use Rattle.cookie_jar.proofs.importing.kept_of.Given as goal

abbrev pub invariant-loop-entry : goal.invariant-loop-entry
invariant-loop-entry l =
    ArePicked (IsTaken l.form) (live (civil_nanos l.now) (rows_in (map entry_row l.yielded)))
    (map stored_of l.kept.items)
