use Rattle.cookie_jar.proofs.RowLemmas.{lent_all, lent_next}
use Rattle.cookie_jar.proofs.rows.rows_of.Goals as goal

pub loop-cookie-preserved : goal.loop-cookie-preserved
loop-cookie-preserved c =
    lent_next c.args.store.now.rows c.loop-cookie.cookie-iterator c.next.new.self c.loop-cookie.rows.items
    c.push.new.self.items c.in-Some.cookie c.in-Some.ensures.steps c.in_ok-push.ensures.items c.loop-cookie.invariant

pub returns : goal.returns
returns c =
    lent_all c.args.store.now.rows c.loop-cookie.cookie-iterator c.loop-cookie.rows.items c.in-None.ensures.steps.0
    c.loop-cookie.invariant
