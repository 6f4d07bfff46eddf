use Rattle.std.proofs.Common.{◌≡◌, ◌⊎◌, inl, inr, ⊎_elim, map, subst, sym}
use Rattle.fonnalich_c.specs.Exchange.{StopsAt}
use Rattle.fonnalich_c.specs.declared.refusal.Refusal.TheVariants.{Memory}
use Rattle.fonnalich_c.proofs.Exchanges.{err_gives}
use Rattle.fonnalich_c.proofs.Exchanges.{next_tell, stops_at}
use Rattle.fonnalich_c.proofs.exchange.obey_all.Goals as goal

pub returns-in_err-left-clause-err : goal.returns-in_err-left-clause-err
returns-in_err-left-clause-err c =
    err_gives c.from_residual.result _ _ c.from_residual.ensures (λ refused is.
    subst (λ r. (r ≡ Memory) ⊎ StopsAt c.args.on_ring c.args.session.now c.args.now
    (map (λ line. line.now) c.args.lines.now)
    c.args.nonces.now r) (sym is)
    (⊎_elim (λ lack. inl lack) (λ why. inr (stops_at c.args.on_ring (λ line. line.now) c.args.lines.now
    c.loop-line.line-index _
    c.args.session.now c.loop-line.session c.args.now c.args.nonces.now c.loop-line.left.now c.loop-line.told.items _
    c.loop-line-test.true c.loop-line.invariant why)) c.in_err-left.ensures.err))

pub loop-line-preserved : goal.loop-line-preserved
loop-line-preserved c =
    next_tell c.args.on_ring (λ line. line.now) c.args.lines.now c.loop-line.line-index _ c.args.session.now
    c.loop-line.session
    c.tell.new.session c.args.now c.args.nonces.now c.loop-line.left.now c.in_ok-left.left.now
    c.loop-line.told.items c.tell.new.told.items c.in_ok-left.ensures.ok.0 c.loop-line-test.true
    c.loop-line.invariant c.in_ok-left.ensures.ok.2 c.in_ok-left.ensures.ok.1
