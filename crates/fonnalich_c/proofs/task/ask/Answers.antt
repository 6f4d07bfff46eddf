use Rattle.std.proofs.Common.{◌≡◌, [], IfErr, IfOk, rules, subst, sym}
use Rattle.fonnalich_c.specs.Tasks.{Does, IsNoReload, Refuses, Reloads}
use Rattle.fonnalich_c.proofs.task.ask.Goals as goal

pub returns-in-Reload-clause-ok : goal.returns-in-Reload-clause-ok
returns-in-Reload-clause-ok c =
    let old = c.args.client.now in
    let new = c.reload.new.client in
    let subject : c.given.inside.subject.now ≡ c.args.given.now.subject = search rules in
    subst (λ task. IfOk c.reload.result (λ answer. Does task c.args.given.now c.args.browsing.now.rules old answer.items
    new)) (sym c.in-Reload.is)
    (subst (λ s. IfOk c.reload.result (λ answer. (answer.items ≡ []) × Reloads s old new)) subject c.reload.ensures.ok)

pub returns-in-Reload-clause-err : goal.returns-in-Reload-clause-err
returns-in-Reload-clause-err c =
    let old = c.args.client.now in
    let new = c.reload.new.client in
    let subject : c.given.inside.subject.now ≡ c.args.given.now.subject = search rules in
    let done : IfErr c.reload.result (λ refused. (new ≡ old) × IsNoReload c.given.inside.subject.now refused) =
    search rules in
    subst (λ task. IfErr c.reload.result (λ refused. Refuses task c.args.given.now c.args.browsing.now.rules old refused
    new)) (sym c.in-Reload.is)
    (subst (λ s. IfErr c.reload.result (λ refused. (new ≡ old) × IsNoReload s refused)) subject done)
