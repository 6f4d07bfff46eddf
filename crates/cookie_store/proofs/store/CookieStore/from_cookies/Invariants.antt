use Rattle.std.proofs.Common.{◌≡◌, List, Ok, map}
use Rattle.jiff.specs.Words.{civil_nanos}
use Rattle.cookie_store.specs.Placing.{loaded}
use Rattle.cookie_store.specs.StoredCookie.{stored_of}
use Rattle.cookie_store.specs.declared.stored_cookie.Cookie.{Cookie}
use Rattle.cookie_store.proofs.store.CookieStore.from_cookies.Given as goal

-- what was taken so far are cookies, and the store loaded them
abbrev pub invariant-loop-cookie : goal.invariant-loop-cookie
invariant-loop-cookie g l =
    (cookies : List Cookie) × (l.yielded ≡ map Ok cookies)
    × (l.rows ≡ loaded l.include_expired (civil_nanos l.now) (map stored_of cookies))
