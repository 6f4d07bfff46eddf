use Rattle.std.proofs.Common.{inr, lit<}
use Rattle.std.proofs.lemmas.Str.Pattern.{split_once_first}
use Rattle.user_agent.proofs.LeftLemmas.{named_or, no_value, short_value, valueless}
use Rattle.user_agent.proofs.LongLemmas as long
use Rattle.user_agent.proofs.left_alone.says_life.Goals as goal

pub returns-then-is_short_value : goal.returns-then-is_short_value
returns-then-is_short_value c =
    let cut = rw c.in-Some.is at (split_once_first 61 c.args.piece.now c.split_once.result c.split_once.ensures.cases
    (lit< tt)) in (
      short_value c.args.piece.now c.in-Some.value.now c.is_short_value.result cut.2 c.is_short_value.ensures
          c.if-is_short_value.true,
      named_or c.args.piece.now c.in-Some.name.now c.trim.result.now c.is_name_of_life.result cut.1
          c.trim.ensures.trim c.is_name_of_life.ensures,
    )

pub returns-in-None : goal.returns-in-None
returns-in-None c =
    let none = rw c.in-None.is at (split_once_first 61 c.args.piece.now c.split_once.result c.split_once.ensures.cases
    (lit< tt)) in
    (long.valueless c.args.piece.now none, inr (valueless c.args.piece.now (no_value c.args.piece.now none)))
