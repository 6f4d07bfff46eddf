use Rattle.std.proofs.Common.{refl}
use Rattle.cookie_text.proofs.ExpiryLemmas.{removal_is}
use Rattle.cookie_text.proofs.cookie.Cookie.make_removal.Goals as goal

pub returns : goal.returns
returns c =
    removal_is c.args.self.now c.set_value.new.self c.set_max_age.new.self c.set_expires.new.self c.args.now
    c.moved.result _ _ c.from_hours-back.ensures refl c.set_value.ensures c.set_max_age.ensures c.moved.ensures
    c.set_expires.ensures
