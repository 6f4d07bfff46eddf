use Rattle.std.proofs.Common.{lit<}
use Rattle.std.proofs.lemmas.Str.Pattern.{split_once_first}
use Rattle.cookie_text.proofs.SplittingLemmas.{cut_some, cut_none}
use Rattle.cookie_text.proofs.split.cut.Goals as goal

pub returns-in-Some : goal.returns-in-Some
returns-in-Some c =
    let cut = rw c.in-Some.is at (split_once_first 59 c.args.text.now c.split_once.result c.split_once.ensures.cases
    (lit< tt)) in
    cut_some c.args.text.now c.in-Some.piece.now c.in-Some.rest.now cut.0 cut.1 cut.2

pub returns-in-None : goal.returns-in-None
returns-in-None c =
    cut_none c.args.text.now (rw c.in-None.is at (split_once_first 59 c.args.text.now c.split_once.result
    c.split_once.ensures.cases (lit< tt)))
