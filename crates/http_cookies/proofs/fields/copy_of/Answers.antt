use Rattle.http_cookies.proofs.Putting.{copies}
use Rattle.http_cookies.proofs.fields.copy_of.Goals as goal

pub returns : goal.returns
returns c = copies c.clone.result c.args.fields.now _ c.clone.ensures.cases
