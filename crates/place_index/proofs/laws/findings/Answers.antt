use Rattle.place_index.proofs.FoundLemmas.{finds_exactly, looks_are_few}
use Rattle.place_index.proofs.laws.findings.Goals as goal

pub returns-clause-exactly : goal.returns-clause-exactly
returns-clause-exactly c = finds_exactly

pub returns-clause-few : goal.returns-clause-few
returns-clause-few c = looks_are_few
