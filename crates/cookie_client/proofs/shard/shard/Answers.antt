use Rattle.std.proofs.lemmas.Bool.{both_ways}
use Rattle.cookie_client.proofs.Shards.{whole_of_address, whole_of_name}
use Rattle.cookie_client.proofs.shard.shard.Goals as goal

pub returns-then-not-is_host_name : goal.returns-then-not-is_host_name
returns-then-not-is_host_name c =
    whole_of_address c.args.list.now c.args.host.now
    (λ named. both_ways _ c.if-not-is_host_name.true (c.is_host_name.ensures.1 named))

pub returns-in-None : goal.returns-in-None
returns-in-None c = whole_of_name c.args.list.now c.args.host.now c.in-None.ensures
