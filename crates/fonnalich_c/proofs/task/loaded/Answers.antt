use Rattle.std.proofs.Common.{◌≡◌, inr, rules, subst, FitsSigned, w64}
use Rattle.std.proofs.lemmas.Int.{to_z-of_z}
use Rattle.std.specs.Prelude.{IfErr, IfOk}
use Rattle.fonnalich_c.specs.Given.{IsListOf}
use Rattle.fonnalich_c.specs.Tasks.{IsLoaded, IsLoadedBy, IsNoLoad, IsNoLoadBy}
use Rattle.fonnalich_c.proofs.Exchanges.{fault_gives, ok_gives}
use Rattle.fonnalich_c.proofs.task.loaded.Goals as goal

pub returns-clause-ok : goal.returns-clause-ok
returns-clause-ok c =
    let given = c.args.given.now in
    let fits : FitsSigned w64 c.given.inside.number = search rules in
    let number : c.given.inside.number ≡ given.number = search rules in
    let subject : c.given.inside.subject.now ≡ given.subject = search rules in
    let text : c.given.inside.text.now ≡ given.text = search rules in
    let is = subst (λ t. IsListOf t c.in_ok-list.list) text c.in_ok-list.ensures.ok in
    let made : IfOk c.loaded_by.result (λ client. IsLoadedBy c.given.inside.number c.given.inside.subject.now
    c.in_ok-list.list client) = simp to_z-of_z at c.loaded_by.ensures.ok in
    ok_gives c.loaded_by.result _ (IsLoaded given.number given.subject given.text) (λ client loaded. (
      c.in_ok-list.list,
      is,
      subst (λ n. IsLoadedBy n given.subject c.in_ok-list.list client) number
          (subst (λ s. IsLoadedBy c.given.inside.number s c.in_ok-list.list client) subject loaded),
    )) made

pub returns-clause-err : goal.returns-clause-err
returns-clause-err c =
    let given = c.args.given.now in
    let fits : FitsSigned w64 c.given.inside.number = search rules in
    let number : c.given.inside.number ≡ given.number = search rules in
    let subject : c.given.inside.subject.now ≡ given.subject = search rules in
    let text : c.given.inside.text.now ≡ given.text = search rules in
    let is = subst (λ t. IsListOf t c.in_ok-list.list) text c.in_ok-list.ensures.ok in
    let not : IfErr c.loaded_by.result (λ refused. IsNoLoadBy c.given.inside.number c.given.inside.subject.now
    refused) = simp to_z-of_z at c.loaded_by.ensures.err in
    fault_gives c.loaded_by.result _ (IsNoLoad given.number given.subject given.text) (λ refused why. inr (
      (c.in_ok-list.list, is),
      subst (λ n. IsNoLoadBy n given.subject refused) number
          (subst (λ s. IsNoLoadBy c.given.inside.number s refused) subject why),
    )) not
