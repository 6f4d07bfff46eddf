use Rattle.std.specs.Prelude.{string_bytes}
use Rattle.jiff.specs.Words.{civil_nanos}
use Rattle.http_cookies.proofs.Carried.{header_put, header_not_put}
use Rattle.http_cookies.proofs.client.put_header.Goals as goal

pub returns-clause-ok : goal.returns-clause-ok
returns-clause-ok c =
    header_put c.put_header_text.result c.args.client.now.rows c.args.url.now (civil_nanos c.args.now)
    c.args.request.now c.put_header_text.new.fields (string_bytes c.in_ok-header.header) c.in_ok-header.ensures
    c.put_header_text.ensures.ok

pub returns-clause-err : goal.returns-clause-err
returns-clause-err c =
    header_not_put c.put_header_text.result c.args.client.now.rows c.args.url.now (civil_nanos c.args.now)
    c.args.request.now (string_bytes c.in_ok-header.header) c.in_ok-header.ensures c.put_header_text.ensures.err
