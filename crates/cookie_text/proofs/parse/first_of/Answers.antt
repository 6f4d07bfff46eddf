use Rattle.std.proofs.Common.{lit<, sym}
use Rattle.std.proofs.lemmas.Str.Pattern.{split_once_first}
use Rattle.cookie_text.proofs.ReadingLemmas.{one_piece}
use Rattle.cookie_text.proofs.parse.first_of.Goals as goal

pub returns-in-Some : goal.returns-in-Some
returns-in-Some c =
    let cut = rw c.in-Some.is at (split_once_first 59 c.args.text.now c.split_once.result c.split_once.ensures.cases
    (lit< tt)) in
    cut.1

pub returns-in-None : goal.returns-in-None
returns-in-None c =
    let cut = rw c.in-None.is at (split_once_first 59 c.args.text.now c.split_once.result c.split_once.ensures.cases
    (lit< tt)) in
    sym (one_piece c.args.text.now cut)
