use Rattle.std.proofs.Common.{◌≡◌, List, ◌∷◌, subst, sym}
use Rattle.std.specs.Prelude.{◌↔◌}
use Rattle.cookie_store.specs.Rows.{Row}
use Rattle.cookie_store.specs.StoredCookie.{stored_of}
use Rattle.cookie_client.specs.HostPrefix.{AreHeldRightly, IsHeldRightly}
use Rattle.cookie_client.proofs.client.are_held.Goals as goal

held_more : (rows left rest : List Row) (row : Row) → left ≡ row ∷ rest → IsHeldRightly row
    → AreHeldRightly rows ↔ AreHeldRightly left → AreHeldRightly rows ↔ AreHeldRightly rest
held_more rows left rest row is held both = (
  λ all. (subst AreHeldRightly is (both.0 all)).1,
  λ others. both.1 (subst AreHeldRightly (sym is) (held, others)),
)

pub loop-cookie-preserved : goal.loop-cookie-preserved
loop-cookie-preserved c =
    held_more c.args.store.now.rows c.loop-cookie.cookie-iterator c.next.new.self (stored_of c.in-Some.cookie.now)
    c.in-Some.ensures.steps (c.is_held.ensures.0 c.if-not-is_held.false) c.loop-cookie.invariant
