use Rattle.std.proofs.Common.{map}
use Rattle.std.specs.Prelude.{string_bytes}
use Rattle.http_cookies.proofs.Putting.{lines_put, lines_refused}
use Rattle.http_cookies.proofs.fields.put_line_texts.Goals as goal

pub returns-clause-ok : goal.returns-clause-ok
returns-clause-ok c =
    lines_put c.put_values.result c.args.fields.now c.put_values.new.fields (map string_bytes c.args.lines.items)
    c.in_ok-values.values.items c.in_ok-values.ensures.ok c.put_values.ensures.ok

pub returns-clause-err : goal.returns-clause-err
returns-clause-err c =
    lines_refused c.put_values.result c.args.fields.now (map string_bytes c.args.lines.items)
    c.in_ok-values.values.items c.in_ok-values.ensures.ok c.put_values.ensures.err
