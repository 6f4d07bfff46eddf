use Rattle.std.proofs.Common.{lit<}
use Rattle.std.proofs.lemmas.Str.Pattern.{split_parts}
use Rattle.cookies_txt.proofs.ExpiryLemmas.{cut_dotted}
use Rattle.cookies_txt.proofs.fields.cut_at_dot.Goals as goal

pub returns : goal.returns
returns c =
    cut_dotted c.args.text.now c.split_once.result
    (split_parts 46 c.args.text.now c.split_once.result c.split_once.ensures.cases (lit< tt))
