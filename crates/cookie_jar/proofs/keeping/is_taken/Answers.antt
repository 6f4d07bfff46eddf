use Rattle.cookie_store.specs.StoredCookie.{stored_of}
use Rattle.cookie_jar.proofs.KeepLemmas.{taken_fit, taken_unfit}
use Rattle.cookie_jar.proofs.keeping.is_taken.Goals as goal

pub returns-in-Some : goal.returns-in-Some
returns-in-Some c =
    taken_unfit c.args.form (stored_of c.args.cookie.now) c.fault_in.result c.in-Some.field-0 c.fault_in.ensures
    c.in-Some.is

pub returns-in-None : goal.returns-in-None
returns-in-None c =
    taken_fit c.args.form (stored_of c.args.cookie.now) c.fault_in.result c.is_kept.result c.fault_in.ensures
    c.in-None.is c.is_kept.ensures
