use Rattle.user_agent.proofs.StrictLemmas.{strict_dates_show_the_same}
use Rattle.user_agent.proofs.dates.strict_dates_show_the_same.Goals as goal

pub returns : goal.returns
returns c = strict_dates_show_the_same
