use Rattle.saved_text.proofs.RowLemmas.{Takes-cut}
use Rattle.saved_text.proofs.ron_parts.sign_of.Goals as goal

pub returns-in-Some : goal.returns-in-Some
returns-in-Some c = Takes-cut c.args.byte c.args.text.now c.in-Some.rest.now c.in-Some.ensures.some
