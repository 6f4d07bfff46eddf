use Rattle.std.proofs.Common.{◌≡◌, ◌++◌, map}
use Rattle.cookie_store.specs.StoredCookie.{stored_of}
use Rattle.cookie_store.proofs.saved_rows.taken.Given as goal

abbrev pub invariant-loop-cookie : goal.invariant-loop-cookie
invariant-loop-cookie g l =
    map stored_of l.taken.items ++ map g.C.StoreCookie.shows l.cookie-iterator.rest.items
    ≡ map g.C.StoreCookie.shows l.fn.cookies.items
