use Rattle.cookie_run.proofs.ShardLemmas.{shard_once, related_shard, shard_related}
use Rattle.cookie_run.proofs.shards.related_hosts_have_one_shard.Goals as goal

pub returns-clause-one : goal.returns-clause-one
returns-clause-one c = shard_once

pub returns-clause-related : goal.returns-clause-related
returns-clause-related c = related_shard

pub returns-clause-finest : goal.returns-clause-finest
returns-clause-finest c = shard_related
