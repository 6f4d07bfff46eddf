use Rattle.std.proofs.Common.{lit<, sym}
use Rattle.std.proofs.lemmas.Str.Pattern.{split_once_first}
use Rattle.user_agent.proofs.LongLemmas.{valueless}
use Rattle.user_agent.proofs.long_attributes.is_short.Goals as goal

pub returns-in-None : goal.returns-in-None
returns-in-None c =
    let none = rw c.in-None.is at (split_once_first 61 c.args.piece.now c.split_once.result c.split_once.ensures.cases
    (lit< tt)) in
    sym (valueless c.args.piece.now none)
