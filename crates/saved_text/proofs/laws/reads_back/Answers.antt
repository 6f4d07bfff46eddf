use Rattle.saved_text.proofs.JsonLemmas.{reads}
use Rattle.saved_text.proofs.laws.reads_back.Goals as goal

pub returns : goal.returns
returns c = reads
