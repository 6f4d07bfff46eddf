use Rattle.std.proofs.Common.{List, ◌++◌, map, drop}
use Rattle.jiff.specs.Words.{civil_nanos}
use Rattle.cookie_store.specs.Given.{AreGiven, lent_row}
use Rattle.cookie_store.specs.Rows.{Row}
use Rattle.cookie_store.specs.Steps.{IsJudged, rows_in}
use Rattle.cookie_store.specs.StoredCookie.{stored_in}
use Rattle.cookie_store.proofs.given.give_parts.Given as goal

-- what the rest of the parts give completes what was given, and what was judged last holds
abbrev pub invariant-loop-part : goal.invariant-loop-part
invariant-loop-part l =
    ((rest : List Row)
    → AreGiven (rows_in (drop l.part-index l.parts) (map stored_in l.cookies)) l.request_url (civil_nanos l.now) rest
    → AreGiven (rows_in l.parts (map stored_in l.cookies)) l.request_url (civil_nanos l.now)
    (map lent_row l.given.items ++ rest))
    × IsJudged l.last l.request_url
