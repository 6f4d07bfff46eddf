use Rattle.cookie_client.proofs.ending.read_until.Goals as goal

pub returns-in-Signed : goal.returns-in-Signed
returns-in-Signed c = rw c.in-Signed.is c.verified_until.ensures

pub returns-in-Sealed : goal.returns-in-Sealed
returns-in-Sealed c = rw c.in-Sealed.is c.opened_until.ensures
