use Rattle.std.proofs.Common.{◌∙◌, ap}
use Rattle.std.specs.Prelude.{Some}
use Rattle.store_parts.proofs.ExpiryLemmas.{int_min-stopped}
use Rattle.store_parts.proofs.cookie_expiration.CookieExpiration.from_duration.Goals as goal

pub returns-then-is_positive : goal.returns-then-is_positive
returns-then-is_positive c =
    let sum = c.saturating_add.ensures in
    c.from.ensures ∙ ap Some (int_min-stopped c.args.now c.saturating_add.result c.args.length.nanos
    (c.is_positive.ensures.0 c.if-is_positive.true) sum.fits sum.beyond)
