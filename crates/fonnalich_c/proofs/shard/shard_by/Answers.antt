use Rattle.fonnalich_c.proofs.Shards.{shard_of_text}
use Rattle.fonnalich_c.proofs.shard.shard_by.Goals as goal

pub returns-in-Some-clause-ok : goal.returns-in-Some-clause-ok
returns-in-Some-clause-ok c =
    shard_of_text c.args.host.now c.in-Ok.host.now c.in-Some.shard.now c.as_bytes.result.now c.args.list.now
    c.in-Ok.ensures.cases.0 c.in-Ok.ensures.cases.1 c.in-Some.ensures c.as_bytes.ensures.value
