use Rattle.publicsuffix.proofs.RegistrableLemmas.{no_suffix_has_one, one_registrable}
use Rattle.publicsuffix.proofs.laws.one_registrable_domain.Goals as goal

pub returns-clause-one : goal.returns-clause-one
returns-clause-one c = one_registrable

pub returns-clause-none : goal.returns-clause-none
returns-clause-none c = no_suffix_has_one
