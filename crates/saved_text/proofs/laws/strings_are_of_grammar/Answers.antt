use Rattle.saved_text.proofs.WrittenLemmas.{strings}
use Rattle.saved_text.proofs.laws.strings_are_of_grammar.Goals as goal

pub returns : goal.returns
returns c = strings
