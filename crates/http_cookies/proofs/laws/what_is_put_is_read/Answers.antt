use Rattle.http_cookies.proofs.Carried.{header_opened, lines_received}
use Rattle.http_cookies.proofs.laws.what_is_put_is_read.Goals as goal

pub returns-clause-lines : goal.returns-clause-lines
returns-clause-lines c = lines_received

pub returns-clause-header : goal.returns-clause-header
returns-clause-header c = header_opened
