use Rattle.cookie_text.proofs.ExpiryLemmas.{permanent_is}
use Rattle.cookie_text.proofs.cookie.Cookie.make_permanent.Goals as goal

pub returns : goal.returns
returns c =
    permanent_is c.args.self.now c.set_max_age.new.self c.set_expires.new.self c.args.now c.moved.result _
    c.from_hours-lifetime.ensures c.set_max_age.ensures c.moved.ensures c.set_expires.ensures
