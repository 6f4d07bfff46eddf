use Rattle.std.proofs.Common.{take, map}
use Rattle.fonnalich_c.specs.Exchange.{AllTell}
use Rattle.fonnalich_c.proofs.exchange.obey_all.Given as goal

abbrev pub invariant-loop-line : goal.invariant-loop-line
invariant-loop-line l = AllTell l.on_ring l.fn.session l.now l.nonces
    (map (λ line. line.now) (take l.line-index l.lines)) l.told.items l.session l.left
