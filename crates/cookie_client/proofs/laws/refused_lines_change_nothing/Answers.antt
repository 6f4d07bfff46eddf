use Rattle.cookie_client.proofs.Refusals.{lines_same}
use Rattle.cookie_client.proofs.laws.refused_lines_change_nothing.Goals as goal

pub returns : goal.returns
returns c = lines_same
