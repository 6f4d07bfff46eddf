use Rattle.std.proofs.Common.{◌∙◌, sym, refl}
use Rattle.cookie.specs.Signing.{signing}
use Rattle.cookie.proofs.SigningLemmas.{drop-signing}
use Rattle.cookie.proofs.LawLemmas.{one_value}
use Rattle.cookie.proofs.laws.one_value.Goals as goal

pub returns-clause-signed : goal.returns-clause-signed
returns-clause-signed c = λ key v w is.
    sym (drop-signing c.lengths.ensures.code key v (signing key v) refl)
    ∙ drop-signing c.lengths.ensures.code key w (signing key v) is

pub returns-clause-sealed : goal.returns-clause-sealed
returns-clause-sealed c = λ key name v w text half hv hw.
    one_value key name v w text c.lengths.ensures.tag c.opening_is_the_converse.ensures.only half hv hw
