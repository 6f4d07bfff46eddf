use Rattle.cookie.specs.Reading.{IsSigned, IsSealed}
use Rattle.cookie.proofs.RingLawLemmas.{is_that_key}
use Rattle.cookie.proofs.laws.ring_of_one.Goals as goal

pub returns-clause-signed : goal.returns-clause-signed
returns-clause-signed c = is_that_key IsSigned

pub returns-clause-sealed : goal.returns-clause-sealed
returns-clause-sealed c = is_that_key IsSealed
