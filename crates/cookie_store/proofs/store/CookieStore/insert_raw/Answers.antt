use Rattle.std.proofs.Common.{refl}
use Rattle.jiff.specs.Words.{civil_nanos}
use Rattle.cookie_store.specs.StoredCookie.{stored_of}
use Rattle.cookie_store.proofs.StoreLemmas.{receives_made, receives_refused}
use Rattle.cookie_store.proofs.store.CookieStore.insert_raw.Goals as goal

pub returns-in-Ok-clause-rows : goal.returns-in-Ok-clause-rows
returns-in-Ok-clause-rows c =
    receives_made c.args.self.now.suffixes c.args.self.now.rows c.args.request_url.now (civil_nanos c.args.now) _
    c.args.cookie.now (stored_of c.in-Ok.cookie) c.in-Ok.ensures c.insert_made.ensures.rows

pub returns-in-Err-clause-rows : goal.returns-in-Err-clause-rows
returns-in-Err-clause-rows c =
    receives_refused c.args.self.now.suffixes c.args.self.now.rows c.args.request_url.now (civil_nanos c.args.now) _
    c.args.cookie.now c.in-Err.cause c.in-Err.ensures refl
