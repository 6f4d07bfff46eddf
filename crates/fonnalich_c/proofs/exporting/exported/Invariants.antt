use Rattle.std.proofs.Common.{◌≡◌, ◌++◌, ◌||◌, filter, is_some}
use Rattle.jiff.specs.Words.{civil_nanos}
use Rattle.cookies_txt.specs.Writing.{rows_in}
use Rattle.fonnalich_c.specs.Exporting.{exported}
use Rattle.fonnalich_c.proofs.exporting.exported.Given as goal

abbrev pub invariant-loop-cookie : goal.invariant-loop-cookie
invariant-loop-cookie l =
    rows_in l.rows.items ++ filter (λ row. l.sessions || is_some row.death) l.cookie-iterator
    ≡ exported l.sessions (civil_nanos l.fn.now) l.store.rows
