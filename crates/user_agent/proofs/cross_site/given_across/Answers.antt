use Rattle.std.proofs.Common.{◌≡◌, map, subst}
use Rattle.std.specs.Prelude.{IfOk}
use Rattle.jiff.specs.Words.{civil_nanos}
use Rattle.cookie_store.specs.Given.{lent_row}
use Rattle.user_agent.specs.CrossSite.{is_sent, sent_rows}
use Rattle.user_agent.specs.Sites.{is_safe_navigation}
use Rattle.user_agent.proofs.SentLemmas.{given_so}
use Rattle.user_agent.proofs.cross_site.given_across.Goals as goal

pub returns : goal.returns
returns c =
    let by_default = c.args.rules.now.lax_by_default in
    let given = map lent_row c.in_ok-given.given.items in
    given_so c.sent.result (is_sent by_default (is_safe_navigation c.args.initiator.now)) c.args.store.now.rows
    c.args.url.now (civil_nanos c.args.now) given c.in_ok-given.ensures
    (subst (λ is_let. IfOk c.sent.result (λ left. map lent_row left.items ≡ sent_rows by_default is_let given))
    c.is_safe_navigation-is_let.ensures c.sent.ensures)
