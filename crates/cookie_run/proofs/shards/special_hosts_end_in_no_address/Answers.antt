use Rattle.cookie_run.proofs.ShardWeb.{special_ends}
use Rattle.cookie_run.proofs.shards.special_hosts_end_in_no_address.Goals as goal

pub returns : goal.returns
returns c = special_ends
