use Rattle.user_agent.proofs.LongLemmas.{short_lines}
use Rattle.user_agent.proofs.long_attributes.short_lines_read_the_rest.Goals as goal

pub returns : goal.returns
returns c = short_lines
