use Rattle.std.proofs.Common.{◌≡◌, ◌++◌}
use Rattle.fonnalich_c.specs.Listing.{rows_text}
use Rattle.fonnalich_c.proofs.listing.rows_text.Given as goal

abbrev pub invariant-loop-cookie : goal.invariant-loop-cookie
invariant-loop-cookie l =
    l.answer.items ++ rows_text l.cookie-iterator ≡ l.initial.answer.items ++ rows_text l.initial.cookie-iterator
