use Rattle.std.proofs.Common.{◌≡◌, ◌++◌, map}
use Rattle.std.specs.Prelude.{option_map}
use Rattle.jiff.specs.Words.{civil_nanos}
use Rattle.cookie_store.specs.Steps.{wanted}
use Rattle.cookie_store.proofs.saved_rows.copies.Given as goal

abbrev pub invariant-loop-cookie : goal.invariant-loop-cookie
invariant-loop-cookie g l =
    let at = option_map civil_nanos l.now in
    map g.C.StoreCookie.shows l.copies.items ++ wanted at l.cookie-iterator ≡ wanted at l.fn.cookies
