use Rattle.std.proofs.Common.{ap, sym, ⊎_elim}
use Rattle.fonnalich_c.specs.Exchange.{nonce_length}
use Rattle.fonnalich_c.proofs.exchange.nonce_len.Goals as goal

pub returns-in-Plain : goal.returns-in-Plain
returns-in-Plain c =
    ⊎_elim (λ is. sym (ap nonce_length is)) (⊎_elim (λ is. sym (ap nonce_length is))
    (⊎_elim (λ is. sym (ap nonce_length is)) (λ is. sym (ap nonce_length is)))) c.in-Plain.is

pub returns-in-Sealed : goal.returns-in-Sealed
returns-in-Sealed c = sym (ap nonce_length c.in-Sealed.is)
