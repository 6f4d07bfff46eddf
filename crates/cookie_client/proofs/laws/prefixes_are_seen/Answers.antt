use Rattle.cookie_client.proofs.SeenPrefixes.{prefixes_are_seen}
use Rattle.cookie_client.proofs.laws.prefixes_are_seen.Goals as goal

pub returns : goal.returns
returns c = prefixes_are_seen
