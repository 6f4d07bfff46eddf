use Rattle.std.proofs.Common.{◌≡◌, rules, take}
use Rattle.fonnalich_c.specs.Ring.{IsUntil}
use Rattle.fonnalich_c.proofs.ring.earlier_key.Goals as goal

pub returns-clause-ok : goal.returns-clause-ok
returns-clause-ok c =
    let key : c.from.result ≡ take 64 c.args.keys.now = c.from.ensures in
    let until : IsUntil c.args.end.now c.in_ok-until.until = search rules in
    (key, until)
