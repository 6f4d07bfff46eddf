use Rattle.saved_text.proofs.JsonListLemmas.{lists}
use Rattle.saved_text.proofs.laws.lists_read_back.Goals as goal

pub returns : goal.returns
returns c = lists
