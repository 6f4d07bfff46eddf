use Rattle.std.proofs.Common.{map}
use Rattle.jiff.specs.Words.{civil_nanos}
use Rattle.cookie_store.specs.StoredCookie.{stored_of}
use Rattle.cookies_txt.specs.Entries.{entry_text}
use Rattle.fonnalich_c.specs.Importing.{Sorts}
use Rattle.fonnalich_c.proofs.importing.sorted_lines.Given as goal

abbrev pub invariant-loop-entry : goal.invariant-loop-entry
invariant-loop-entry l =
    Sorts (civil_nanos l.now) (map entry_text l.yielded) (map stored_of l.rows.items) l.refused.items
