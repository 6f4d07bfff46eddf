use Rattle.jiff.specs.Words.{civil_nanos}
use Rattle.cookie_client.proofs.Receiving.{line_ok, line_err, no_cookie}
use Rattle.cookie_client.proofs.client.accept_line.Goals as goal

pub returns-in-Ok-parse-clause-ok : goal.returns-in-Ok-parse-clause-ok
returns-in-Ok-parse-clause-ok c =
    line_ok c.accept_cookie.result c.one_outcome.ensures.plain c.args.store.now.suffixes c.args.store.now.rows
    c.accept_cookie.new.store.rows c.args.url.now (civil_nanos c.args.now) c.args.line.now c.in-Ok.text.now
    c.in-Ok-parse.cookie c.in-Ok.ensures.cases.1 c.in-Ok.ensures.cases.0 c.in-Ok-parse.ensures
    c.accept_cookie.ensures.ok

pub returns-in-Ok-parse-clause-err : goal.returns-in-Ok-parse-clause-err
returns-in-Ok-parse-clause-err c =
    line_err c.accept_cookie.result c.one_outcome.ensures.plain c.args.store.now.rows c.accept_cookie.new.store.rows
    c.args.url.now c.args.line.now c.in-Ok.text.now c.in-Ok-parse.cookie c.in-Ok.ensures.cases.1
    c.in-Ok.ensures.cases.0 c.in-Ok-parse.ensures c.accept_cookie.ensures.err

pub returns-in-Err-clause-ok : goal.returns-in-Err-clause-ok
returns-in-Err-clause-ok c =
    no_cookie c.args.store.now.suffixes c.args.store.now.rows c.args.url.now (civil_nanos c.args.now) c.args.line.now
    c.in-Ok.text.now c.in-Err.field-0 c.in-Ok.ensures.cases.1 c.in-Ok.ensures.cases.0 c.in-Err.ensures
