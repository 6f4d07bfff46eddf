use Rattle.std.proofs.Common.{[], refl, subst, sym}
use Rattle.std.proofs.lemmas.List.{append-nil}
use Rattle.fonnalich_c.specs.Commands.{IsCommandBy}
use Rattle.fonnalich_c.specs.declared.command.RingCommand.TheVariants.{Kept, SetUntil}
use Rattle.fonnalich_c.proofs.Exchanges.{ok_gives}
use Rattle.fonnalich_c.proofs.exchange.tell.Goals as goal

pub returns-in-Kept-clause-ok : goal.returns-in-Kept-clause-ok
returns-in-Kept-clause-ok c =
    ok_gives c.obey.result _ _ (λ left by. (
      by.0,
      by.1,
      (
        Kept c.in-Kept.command,
        subst (IsCommandBy c.args.on_ring c.args.line.now) c.in-Kept.is c.in_ok-command.ensures.ok,
        by.2,
      ),
    )) c.obey.ensures.ok

pub returns-in-SetUntil-clause-ok : goal.returns-in-SetUntil-clause-ok
returns-in-SetUntil-clause-ok c =
    ok_gives c.set_until.result _ _ (λ left by. (
      [],
      sym (append-nil c.args.told.now.items),
      (
        SetUntil c.in-SetUntil.way c.in-SetUntil.cookie c.in-SetUntil.until,
        subst (IsCommandBy c.args.on_ring c.args.line.now) c.in-SetUntil.is c.in_ok-command.ensures.ok,
        (refl, by.0, by.1),
      ),
    )) c.set_until.ensures.ok
