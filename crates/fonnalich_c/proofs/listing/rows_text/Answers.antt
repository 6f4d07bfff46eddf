use Rattle.cookie_store.specs.StoredCookie.{stored_of}
use Rattle.fonnalich_c.proofs.Listings.{listed_more}
use Rattle.fonnalich_c.proofs.listing.rows_text.Goals as goal

pub loop-cookie-preserved : goal.loop-cookie-preserved
loop-cookie-preserved c =
    listed_more _ _ _ c.loop-cookie.cookie-iterator c.next.new.self (stored_of c.in-Some.cookie.now)
    c.in-Some.ensures.steps c.in_ok-push_row.ensures c.loop-cookie.invariant
