use Rattle.std.proofs.Common.{◌≡◌, List, ◌∷◌, subst, sym}
use Rattle.std.specs.Prelude.{◌↔◌}
use Rattle.cookie_store.specs.Rows.{Row}
use Rattle.cookie_store.specs.StoredCookie.{stored_of}
use Rattle.cookie_jar.specs.Keeping.{AreKept, IsKept}
use Rattle.cookie_jar.proofs.keeping.are_kept.Goals as goal

kept_more : (rows left rest : List Row) (row : Row) → left ≡ row ∷ rest → IsKept row
    → AreKept rows ↔ AreKept left → AreKept rows ↔ AreKept rest
kept_more rows left rest row is kept both = (
  λ all. (subst AreKept is (both.0 all)).1,
  λ others. both.1 (subst AreKept (sym is) (kept, others)),
)

pub loop-cookie-preserved : goal.loop-cookie-preserved
loop-cookie-preserved c =
    kept_more c.args.store.now.rows c.loop-cookie.cookie-iterator c.next.new.self (stored_of c.in-Some.cookie.now)
    c.in-Some.ensures.steps (c.is_kept.ensures.0 c.if-not-is_kept.false) c.loop-cookie.invariant
