use Rattle.cookie_run.proofs.ShardCuts.{shards_cut}
use Rattle.cookie_run.proofs.shards.shards_are_the_client.Goals as goal

pub returns : goal.returns
returns c = shards_cut c.one_outcome.ensures.plain c.laws.ensures.given c.laws.ensures.order
