use Rattle.std.proofs.Common.{map}
use Rattle.std.specs.Prelude.{string_bytes}
use Rattle.http_cookies.proofs.Carried.{lines_put_by, lines_not_put}
use Rattle.http_cookies.proofs.server.put_lines.Goals as goal

pub returns-in-Ok-clause-ok : goal.returns-in-Ok-clause-ok
returns-in-Ok-clause-ok c =
    lines_put_by c.put_line_texts.result c.args.session.now.jar c.args.answer.now c.put_line_texts.new.fields
    (map string_bytes c.in-Ok.lines.items) c.in-Ok.ensures.lines c.put_line_texts.ensures.ok

pub returns-in-Ok-clause-err : goal.returns-in-Ok-clause-err
returns-in-Ok-clause-err c =
    lines_not_put c.put_line_texts.result c.args.session.now.jar c.args.answer.now
    (map string_bytes c.in-Ok.lines.items) c.in-Ok.ensures.lines c.put_line_texts.ensures.err
