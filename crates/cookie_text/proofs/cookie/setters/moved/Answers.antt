use Rattle.cookie_text.proofs.ExpiryLemmas.{stopped_is}
use Rattle.cookie_text.proofs.cookie.setters.moved.Goals as goal

pub returns : goal.returns
returns c = stopped_is c.args.now c.saturating_add.result _ c.saturating_add.ensures.fits
    c.saturating_add.ensures.beyond
