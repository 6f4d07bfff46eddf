use Rattle.std.proofs.Common.{refl}
use Rattle.jiff.specs.Words.{civil_nanos}
use Rattle.cookie_client.proofs.Receiving.{line_ok, line_err}
use Rattle.cookie_client.proofs.client.accept_read.Goals as goal

pub returns-clause-ok : goal.returns-clause-ok
returns-clause-ok c =
    line_ok c.accept_cookie.result c.one_outcome.ensures.plain c.args.store.now.suffixes c.args.store.now.rows
    c.accept_cookie.new.store.rows c.args.url.now (civil_nanos c.args.now) c.args.line.now c.args.line.now
    c.args.cookie.now c.utf8.line refl c.requires c.accept_cookie.ensures.ok

pub returns-clause-err : goal.returns-clause-err
returns-clause-err c =
    line_err c.accept_cookie.result c.one_outcome.ensures.plain c.args.store.now.rows c.accept_cookie.new.store.rows
    c.args.url.now c.args.line.now c.args.line.now c.args.cookie.now c.utf8.line refl c.requires
    c.accept_cookie.ensures.err
