use Rattle.std.specs.Prelude.{length, map, take}
use Rattle.jiff.specs.Words.{civil_nanos}
use Rattle.cookie_jar.specs.Entries.{entry_row}
use Rattle.cookie_jar.specs.Importing.{AreRefused}
use Rattle.cookie_jar.proofs.importing.refused_of.Given as goal

abbrev pub invariant-loop-entry : goal.invariant-loop-entry
invariant-loop-entry l =
    AreRefused l.form (civil_nanos l.now) (map entry_row (take l.entry-index l.entries)) (length l.refused.items)
