use Rattle.std.proofs.Common.{inr, refl, sym, subst}
use Rattle.cookie_client.specs.Loading.{IsSuffixList}
use Rattle.fonnalich_c.specs.Given.{IsListOf, IsNoListOf}
use Rattle.cookie_client.proofs.Loading.{listed}
use Rattle.fonnalich_c.proofs.Exchanges.{fault_gives, ok_gives}
use Rattle.fonnalich_c.proofs.Refusals.{not_listed}
use Rattle.fonnalich_c.proofs.given.list.Goals as goal

pub returns-in-Ok-clause-ok : goal.returns-in-Ok-clause-ok
returns-in-Ok-clause-ok c =
    let text = c.args.text.now in
    let is : IsSuffixList text c.in-Ok.list =
    (listed text c.in-Ok.list c.in-Ok.ensures.not_text, c.in-Ok.ensures.rules.0) in
    ok_gives c.with_rule.result _ (IsListOf text) (λ given same. (
      (
        subst (IsSuffixList text) (sym same.0) is,
        c.in-Ok.ensures.rules.1,
      ),
      same.1,
    ))
    c.with_rule.ensures.ok

pub returns-in-Ok-clause-err : goal.returns-in-Ok-clause-err
returns-in-Ok-clause-err c =
    let text = c.args.text.now in
    let is : IsSuffixList text c.in-Ok.list =
    (listed text c.in-Ok.list c.in-Ok.ensures.not_text, c.in-Ok.ensures.rules.0) in
    fault_gives c.with_rule.result _ (IsNoListOf text)
    (λ refused why. inr (inr (why.0, subst (IsSuffixList text) why.1 is))) c.with_rule.ensures.err

pub returns-in-Err-clause-err : goal.returns-in-Err-clause-err
returns-in-Err-clause-err c =
    not_listed _ c.args.text.now c.in-Err.cause c.unlisted.result refl c.unlisted.ensures c.in-Err.ensures.not_text
    c.in-Err.ensures.fault
