use Rattle.std.proofs.Common.{subst}
use Rattle.jiff.specs.Words.{civil_nanos}
use Rattle.cookie_store.specs.Insertion.{End, Inserts, OrLacks}
use Rattle.cookie_store.specs.StoredCookie.{stored_of}
use Rattle.cookie_store.proofs.StoreLemmas.{ends_owned}
use Rattle.cookie_store.proofs.store.CookieStore.insert_made.Goals as goal

pub returns-in-Ok-clause-rows : goal.returns-in-Ok-clause-rows
returns-in-Ok-clause-rows c =
    let list = c.args.self.now.suffixes in
    let rows = c.args.self.now.rows in
    let url = c.args.request_url.now in
    let now = civil_nanos c.args.now in
    let end : End = (c.insert.result, c.insert.new.self.rows) in
    ends_owned list rows url now end (stored_of c.args.cookie)
    (subst (λ row. OrLacks (Inserts list rows url now row) rows end) c.in-Ok.ensures c.insert.ensures.rows)
