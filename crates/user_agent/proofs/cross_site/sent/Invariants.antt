use Rattle.std.proofs.Common.{◌≡◌, map}
use Rattle.cookie_store.specs.Given.{lent_row}
use Rattle.user_agent.specs.CrossSite.{sent_rows}
use Rattle.user_agent.proofs.cross_site.sent.Given as goal

abbrev pub invariant-loop-cookie : goal.invariant-loop-cookie
invariant-loop-cookie l = map lent_row l.left.items ≡ sent_rows l.by_default l.is_let (map lent_row l.yielded)
