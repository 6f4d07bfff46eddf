use Rattle.std.proofs.Common.{◌≡◌, map}
use Rattle.jiff.specs.Words.{civil_nanos}
use Rattle.cookie_store.specs.Placing.{loaded}
use Rattle.cookie_store.specs.StoredCookie.{stored_of}
use Rattle.cookie_store.proofs.LoadLemmas.{kept}
use Rattle.cookie_store.proofs.store.CookieStore.of_loaded.Given as goal

-- what the rest leaves is what all leave
abbrev pub invariant-loop-cookie : goal.invariant-loop-cookie
invariant-loop-cookie l =
    kept l.with_expired (civil_nanos l.now) (map stored_of l.cookie-iterator.rest.items) l.rows
    ≡ loaded l.fn.with_expired (civil_nanos l.fn.now) (map stored_of l.fn.cookies.items)
