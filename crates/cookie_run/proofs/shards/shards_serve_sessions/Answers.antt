use Rattle.cookie_run.proofs.ShardMade.{sessions_served}
use Rattle.cookie_run.proofs.shards.shards_serve_sessions.Goals as goal

pub returns : goal.returns
returns c = sessions_served c.one_outcome.ensures.plain c.laws.ensures.given c.laws.ensures.order
