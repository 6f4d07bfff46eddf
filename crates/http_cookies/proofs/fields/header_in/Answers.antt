use Rattle.std.proofs.Common.{rules}
use Rattle.http_header.specs.HeaderMap.{get_all}
use Rattle.http_cookies.specs.Fields.{cookie_name}
use Rattle.http_cookies.proofs.Reading.{header_begins}
use Rattle.http_cookies.proofs.fields.header_in.Goals as goal

pub loop-value-init : goal.loop-value-init
loop-value-init c =
    header_begins _ (get_all c.args.fields.now cookie_name) c.in-Some.first.now _ (search rules) (search rules)
