use Rattle.user_agent.proofs.SecureReadLemmas.{secure_names_are_read_securely}
use Rattle.user_agent.proofs.integrity.secure_names_are_read_securely.Goals as goal

pub returns : goal.returns
returns c = secure_names_are_read_securely
