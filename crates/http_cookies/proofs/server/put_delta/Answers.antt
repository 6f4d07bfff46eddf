use Rattle.std.proofs.Common.{map}
use Rattle.std.specs.Prelude.{string_bytes}
use Rattle.http_cookies.proofs.Carried.{delta_put, delta_not_put}
use Rattle.http_cookies.proofs.server.put_delta.Goals as goal

pub returns-clause-ok : goal.returns-clause-ok
returns-clause-ok c =
    delta_put c.put_line_texts.result c.args.jar.now c.args.answer.now c.put_line_texts.new.fields c.delta.result
    (map string_bytes c.in_ok-lines.lines.items) c.delta.ensures c.in_ok-lines.ensures c.put_line_texts.ensures.ok

pub returns-clause-err : goal.returns-clause-err
returns-clause-err c =
    delta_not_put c.put_line_texts.result c.args.jar.now c.args.answer.now c.delta.result
    (map string_bytes c.in_ok-lines.lines.items) c.delta.ensures c.in_ok-lines.ensures c.put_line_texts.ensures.err
