use Rattle.cookie_client.proofs.PlainSetLemmas.{signed_plain, sealed_plain}
use Rattle.cookie_client.proofs.laws.sets_are_plain.Goals as goal

pub returns-clause-signed : goal.returns-clause-signed
returns-clause-signed c = signed_plain c.texts_are_utf8.ensures.signed

pub returns-clause-sealed : goal.returns-clause-sealed
returns-clause-sealed c = sealed_plain c.texts_are_utf8.ensures.sealed
