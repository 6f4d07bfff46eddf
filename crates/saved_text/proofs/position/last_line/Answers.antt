use Rattle.saved_text.proofs.PositionLemmas.{last_line-whole, last_line-behind}
use Rattle.saved_text.proofs.position.last_line.Goals as goal

pub returns-in-Some : goal.returns-in-Some
returns-in-Some c = last_line-behind c.args.text.now _ c.in-Some.line.now c.in-Some.ensures.cases

pub returns-in-None : goal.returns-in-None
returns-in-None c = last_line-whole c.args.text.now c.in-None.ensures.cases
