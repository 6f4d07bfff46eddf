use Rattle.std.proofs.Common.{◌≡◌, List, Ok, map}
use Rattle.cookie_store.specs.declared.stored_cookie.Cookie.{Cookie}
use Rattle.cookie_client.proofs.HeldCopies.{CopiesSoFar}
use Rattle.cookie_client.proofs.client.held_copies.Given as goal

-- the cookies that are copied, and what is picked of the rest
abbrev pub invariant-loop-cookie : goal.invariant-loop-cookie
invariant-loop-cookie l =
    (cookies : List Cookie) × (l.copies.items ≡ map Ok cookies) × CopiesSoFar l.store.rows cookies l.cookie-iterator
