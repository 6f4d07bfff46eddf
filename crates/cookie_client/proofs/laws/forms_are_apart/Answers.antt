use Rattle.cookie_client.proofs.EndingBack.{forms_apart, names_signed}
use Rattle.cookie_client.proofs.laws.forms_are_apart.Goals as goal

pub returns-clause-forms : goal.returns-clause-forms
returns-clause-forms c = forms_apart c.lengths.ensures.code

pub returns-clause-names : goal.returns-clause-names
returns-clause-names c = names_signed c.lengths.ensures.code
