use Rattle.saved_text.proofs.DateLemmas.{of_one_moment}
use Rattle.saved_text.proofs.laws.dates_are_of_one_moment.Goals as goal

pub returns : goal.returns
returns c = of_one_moment
