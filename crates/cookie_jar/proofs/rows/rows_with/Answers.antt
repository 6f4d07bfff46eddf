use Rattle.std.proofs.Common.{sym, subst, ◌∙◌}
use Rattle.std.proofs.lemmas.Bool.{both_ways}
use Rattle.cookie_store.specs.Given.{lent_row}
use Rattle.cookie_jar.specs.Keeping.{IsTaken}
use Rattle.cookie_jar.specs.Rows.{lent_rows}
use Rattle.cookie_jar.proofs.RowLemmas.{PicksSoFar, picks_all, picks_more, picks_none, picks_same}
use Rattle.cookie_jar.proofs.rows.rows_with.Goals as goal

pub loop-cookie-init : goal.loop-cookie-init
loop-cookie-init c =
    let own = c.args.store.now.rows in
    let others = c.args.other.now.rows in
    let lent = lent_rows c.in_ok-rows.rows.items in
    subst (PicksSoFar (IsTaken c.args.form) own others lent)
    (sym (c.into_iter-cookie-iterator.ensures.into_iter_gives ∙ c.iter_any-cookie-items.ensures.rows))
    (picks_none (IsTaken c.args.form) own others lent c.in_ok-rows.ensures)

pub loop-cookie-preserved-in-Continue-branch-2 : goal.loop-cookie-preserved-in-Continue-branch-2
loop-cookie-preserved-in-Continue-branch-2 c =
    picks_more (IsTaken c.args.form) c.args.store.now.rows c.args.other.now.rows
    c.loop-cookie.cookie-iterator c.next.new.self c.loop-cookie.rows.items c.push.new.self.items c.in-Some.cookie
    c.in-Some.ensures.steps c.in_ok-push.ensures.items (c.is_taken.ensures.0 c.if-is_taken.true) c.loop-cookie.invariant

pub loop-cookie-preserved : goal.loop-cookie-preserved
loop-cookie-preserved c =
    picks_same (IsTaken c.args.form) c.args.store.now.rows c.args.other.now.rows (lent_rows c.loop-cookie.rows.items)
    c.loop-cookie.cookie-iterator c.next.new.self (lent_row c.in-Some.cookie) c.in-Some.ensures.steps
    (λ held. both_ways _ c.if-is_taken.false (c.is_taken.ensures.1 held)) c.loop-cookie.invariant

pub returns : goal.returns
returns c =
    picks_all (IsTaken c.args.form) c.args.store.now.rows c.args.other.now.rows (lent_rows c.loop-cookie.rows.items)
    c.loop-cookie.cookie-iterator c.in-None.ensures.steps.0 c.loop-cookie.invariant
