use Rattle.saved_text.proofs.DateLemmas.{civil_nanos-first}
use Rattle.saved_text.proofs.date.first_moment.Goals as goal

pub returns : goal.returns
returns c = civil_nanos-first c.datetime.result c.datetime.ensures.date c.datetime.ensures.time
