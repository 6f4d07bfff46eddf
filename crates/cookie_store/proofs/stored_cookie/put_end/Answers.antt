use Rattle.cookie_store.proofs.StrippedLemmas.{sets_end}
use Rattle.cookie_store.proofs.stored_cookie.put_end.Goals as goal

pub returns-in-AtUtc : goal.returns-in-AtUtc
returns-in-AtUtc c =
    rw c.in-AtUtc.is (sets_end c.in-AtUtc.end c.args.raw_cookie.now c.set_expires.new.self c.set_expires.ensures)
