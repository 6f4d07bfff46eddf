use Rattle.std.proofs.Common.{◌≡◌, ◌∙◌, ap, inl, inr, map, subst}
use Rattle.fonnalich_c.specs.Exchange.{Answers, StopsAt}
use Rattle.fonnalich_c.specs.Given.{lines_of}
use Rattle.fonnalich_c.proofs.Exchanges.{fault_gives, ok_gives}
use Rattle.fonnalich_c.proofs.exchange.converse_on.Goals as goal

pub returns-clause-ok : goal.returns-clause-ok
returns-clause-ok c =
    let opened = c.in_ok-session.session in
    let lines : map (λ line. line.now) c.deref.result.now ≡ lines_of c.args.commands.now =
    ap (map (λ line. line.now)) c.deref.ensures.value ∙ c.in_ok-lines.ensures in
    ok_gives c.converse.result _ _ (λ answer so. (
      opened,
      c.in_ok-session.ensures,
      subst (λ ls. Answers c.args.on_ring opened c.args.now ls c.args.nonces.now answer.items) lines so,
    )) c.converse.ensures.ok

pub returns-clause-err : goal.returns-clause-err
returns-clause-err c =
    let opened = c.in_ok-session.session in
    let lines : map (λ line. line.now) c.deref.result.now ≡ lines_of c.args.commands.now =
    ap (map (λ line. line.now)) c.deref.ensures.value ∙ c.in_ok-lines.ensures in
    fault_gives c.converse.result _ _ (λ refused why. elim why [
      | inl lack ↦ inl lack
      | inr stops ↦ inr (
        opened,
        c.in_ok-session.ensures,
        subst (λ ls. StopsAt c.args.on_ring opened c.args.now ls c.args.nonces.now refused) lines stops,
      )
    ]) c.converse.ensures.err
