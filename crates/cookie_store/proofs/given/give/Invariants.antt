use Rattle.std.proofs.Common.{List, ◌++◌, map, drop}
use Rattle.jiff.specs.Words.{civil_nanos}
use Rattle.cookie_store.specs.Given.{AreGiven, lent_row}
use Rattle.cookie_store.specs.Rows.{Row}
use Rattle.cookie_store.specs.Steps.{GivesMore, IsJudged}
use Rattle.cookie_store.specs.StoredCookie.{stored_in}
use Rattle.cookie_store.proofs.given.give.Given as goal

-- what the rest gives completes what was given, and what was judged last holds
abbrev pub invariant-loop-cookie : goal.invariant-loop-cookie
invariant-loop-cookie l =
    ((rest : List Row)
    → AreGiven (map stored_in (drop l.cookie-index l.cookies)) l.request_url (civil_nanos l.now) rest
    → GivesMore (map stored_in l.cookies) l.request_url (civil_nanos l.now) (map lent_row l.fn.given.items)
    (map lent_row l.given.items ++ rest))
    × IsJudged l.last l.request_url
