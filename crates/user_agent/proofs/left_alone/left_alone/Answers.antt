use Rattle.std.proofs.Common.{lit<}
use Rattle.std.proofs.lemmas.Str.Pattern.{split_once_first}
use Rattle.jiff.specs.Words.{civil_nanos}
use Rattle.user_agent.proofs.LeftLemmas.{left_line_alone, line_left}
use Rattle.user_agent.proofs.left_alone.left_alone.Goals as goal

pub returns-in-Some : goal.returns-in-Some
returns-in-Some c =
    let cut = rw c.in-Some.is at (split_once_first 59 c.args.line.now c.split_once.result c.split_once.ensures.cases
    (lit< tt)) in
    line_left (civil_nanos c.args.now) c.args.line.now c.in-Some.rest.now c.pieces_left_alone.result cut.0 cut.2
    c.pieces_left_alone.ensures

pub returns-in-None : goal.returns-in-None
returns-in-None c =
    let none = rw c.in-None.is at (split_once_first 59 c.args.line.now c.split_once.result c.split_once.ensures.cases
    (lit< tt)) in
    left_line_alone (civil_nanos c.args.now) c.args.line.now none
