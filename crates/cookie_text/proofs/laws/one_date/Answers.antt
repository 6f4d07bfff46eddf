use Rattle.cookie_text.proofs.DateLemmas.{one_date}
use Rattle.cookie_text.proofs.laws.one_date.Goals as goal

pub returns : goal.returns
returns c = one_date
