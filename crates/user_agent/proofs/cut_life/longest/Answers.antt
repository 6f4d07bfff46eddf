use Rattle.user_agent.proofs.cut_life.longest.Goals as goal

pub returns : goal.returns
returns c = c.from_secs.ensures
