use Rattle.jiff.specs.Words.{civil_nanos}
use Rattle.cookie_store.specs.Rows.{live}
use Rattle.cookie_jar.proofs.RowLemmas.{lent_all, lent_next}
use Rattle.cookie_jar.proofs.rows.live_rows.Goals as goal

pub loop-cookie-preserved : goal.loop-cookie-preserved
loop-cookie-preserved c =
    lent_next (live (civil_nanos c.args.now) c.args.store.now.rows) c.loop-cookie.cookie-iterator c.next.new.self
    c.loop-cookie.rows.items c.push.new.self.items c.in-Some.cookie c.in-Some.ensures.steps c.in_ok-push.ensures.items
    c.loop-cookie.invariant

pub returns : goal.returns
returns c =
    lent_all (live (civil_nanos c.args.now) c.args.store.now.rows) c.loop-cookie.cookie-iterator
    c.loop-cookie.rows.items c.in-None.ensures.steps.0 c.loop-cookie.invariant
