use Rattle.cookies_txt.proofs.PartLemmas.{sets_end}
use Rattle.cookies_txt.proofs.line.put_end.Goals as goal

pub returns-in-AtUtc : goal.returns-in-AtUtc
returns-in-AtUtc c =
    rw c.in-AtUtc.is (sets_end c.in-AtUtc.end c.args.raw.now c.set_expires.new.self c.set_expires.ensures)
