use Rattle.plain_url.proofs.ReadLemmas.{own_is_read}
use Rattle.plain_url.proofs.laws.own_texts_are_read_alike.Goals as goal

pub returns : goal.returns
returns c = λ text url valid own. own_is_read text url valid own
