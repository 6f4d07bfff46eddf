use Rattle.std.proofs.Common.{refl}
use Rattle.cookie_text.proofs.ExpiryLemmas.{latest_is, civil_nanos-last}
use Rattle.cookie_text.proofs.expiration.latest.Goals as goal

pub returns : goal.returns
returns c =
    latest_is c.saturating_sub.result _ _ (civil_nanos-last _ ((refl, refl, refl), refl)) c.from_nanos.ensures
    c.saturating_sub.ensures.fits
