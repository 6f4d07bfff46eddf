use Rattle.cookie_text.proofs.EscapeLemmas.{same_byte, encoded_by_profile}
use Rattle.cookie_text.proofs.laws.profile_is_the_list.Goals as goal

pub returns-clause-bytes : goal.returns-clause-bytes
returns-clause-bytes c = same_byte

pub returns-clause-texts : goal.returns-clause-texts
returns-clause-texts c = encoded_by_profile
