use Rattle.saved_text.proofs.LayoutLemmas.{written}
use Rattle.saved_text.proofs.laws.written_is_of_grammar.Goals as goal

pub returns : goal.returns
returns c = written
