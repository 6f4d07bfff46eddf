use Rattle.store_parts.proofs.ExpiryLemmas.{civil_nanos-latest}
use Rattle.store_parts.proofs.cookie_expiration.latest.Goals as goal

pub returns : goal.returns
returns c = civil_nanos-latest c.datetime.result c.datetime.ensures.date c.datetime.ensures.time
