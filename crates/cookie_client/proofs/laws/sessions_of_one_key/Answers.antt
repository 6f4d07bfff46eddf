use Rattle.cookie_client.proofs.RingSessions.{that_session}
use Rattle.cookie_client.proofs.laws.sessions_of_one_key.Goals as goal

pub returns : goal.returns
returns c = that_session c.ring_of_one.ensures.signed c.ring_of_one.ensures.sealed
