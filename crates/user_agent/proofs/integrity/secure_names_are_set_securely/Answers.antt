use Rattle.user_agent.proofs.SecureRunLemmas.{secure_names_are_set_securely}
use Rattle.user_agent.proofs.integrity.secure_names_are_set_securely.Goals as goal

pub returns : goal.returns
returns c = secure_names_are_set_securely
