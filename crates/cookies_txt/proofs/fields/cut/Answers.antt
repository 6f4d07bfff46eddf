use Rattle.std.proofs.Common.{lit<}
use Rattle.std.proofs.lemmas.Str.Pattern.{split_parts}
use Rattle.cookies_txt.proofs.FieldLemmas.{cut_parts}
use Rattle.cookies_txt.proofs.fields.cut.Goals as goal

pub returns : goal.returns
returns c =
    cut_parts c.args.text.now c.split_once.result
    (split_parts 9 c.args.text.now c.split_once.result c.split_once.ensures.cases (lit< tt))
