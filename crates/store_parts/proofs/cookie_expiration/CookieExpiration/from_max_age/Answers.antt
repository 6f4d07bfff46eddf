use Rattle.std.proofs.Common.{◌∙◌, ap, FitsSigned, w64, rules}
use Rattle.std.specs.Prelude.{Some}
use Rattle.std.proofs.lemmas.Int.{to_z-of_z}
use Rattle.jiff.specs.Words.{civil_nanos}
use Rattle.store_parts.specs.Expiry.{expiry_after}
use Rattle.store_parts.proofs.ExpiryLemmas.{expiry_after-capped}
use Rattle.store_parts.proofs.cookie_expiration.CookieExpiration.from_max_age.Goals as goal

pub returns : goal.returns
returns c =
    let fits : FitsSigned w64 c.unwrap_or-seconds.result = search rules in
    let length = simp to_z-of_z at c.from_secs.ensures in
    c.from_duration.ensures
    ∙ ap (λ n. Some (expiry_after n (civil_nanos c.args.now))) length
    ∙ ap Some (expiry_after-capped c.args.now c.args.max_age c.try_from.result
    c.unwrap_or-seconds.result c.try_from.ensures c.unwrap_or-seconds.ensures)
