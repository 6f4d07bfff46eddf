use Rattle.user_agent.proofs.CutLemmas.{cut_lines}
use Rattle.user_agent.proofs.cut_life.cut_lines_read_the_same.Goals as goal

pub returns : goal.returns
returns c = cut_lines c.one_outcome.ensures.plain
