use Rattle.std.proofs.Common.{[], refl, subst, sym}
use Rattle.std.proofs.lemmas.List.{append-nil}
use Rattle.fonnalich_c.specs.Exchange.{Tells}
use Rattle.fonnalich_c.specs.declared.command.RingCommand.TheVariants.{Kept}
use Rattle.fonnalich_c.proofs.Exchanges.{ok_gives}
use Rattle.fonnalich_c.proofs.exchange.obey.Goals as goal

pub returns-in-Set-clause-ok : goal.returns-in-Set-clause-ok
returns-in-Set-clause-ok c =
    ok_gives c.set.result _ _ (λ left by. (
      [],
      sym (append-nil c.args.told.now.items),
      subst (λ it. Tells c.args.on_ring c.args.session.now c.args.now c.args.nonces.now (Kept it) []
          c.set.new.session left.now)
          (sym c.in-Set.is) (refl, by.0, by.1),
    )) c.set.ensures.ok

pub returns-in_ok-remove-in-Remove-clause-ok : goal.returns-in_ok-remove-in-Remove-clause-ok
returns-in_ok-remove-in-Remove-clause-ok c =
    let by = c.in_ok-remove-in-Remove.ensures.ok in (
      [],
      sym (append-nil c.args.told.now.items),
      subst (λ it. Tells c.args.on_ring c.args.session.now c.args.now c.args.nonces.now (Kept it) []
          c.remove.new.session c.args.nonces.now)
          (sym c.in-Remove.is) (refl, by.0, by.1, refl),
    )
