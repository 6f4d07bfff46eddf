use Rattle.std.proofs.Common.{rules}
use Rattle.http_cookies.proofs.Putting.{put_exits, put_ok}
use Rattle.http_cookies.proofs.fields.put_values.Goals as goal

pub returns-in_err-append_all-clause-err : goal.returns-in_err-append_all-clause-err
returns-in_err-append_all-clause-err c =
    put_exits c.from_residual-in_err-append_all.result c.args.fields.now _ c.args.values.items
    c.in_err-append_all.field-0.0 c.from_residual-in_err-append_all.ensures (search rules)
    c.in_err-append_all.ensures.err

pub returns-clause-ok : goal.returns-clause-ok
returns-clause-ok c =
    put_ok c.append_all.new.fields c.args.fields.now _ c.args.values.items (search rules)
    c.in_ok-append_all.ensures.ok
