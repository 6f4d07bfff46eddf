use Rattle.std.proofs.Common.{◌≡◌, inl, refl, rules, subst, sym}
use Rattle.std.specs.Prelude.{◌↔◌, IsTrue}
use Rattle.jiff.specs.Words.{civil_nanos}
use Rattle.user_agent.specs.Agent.{AsksForMemory}
use Rattle.user_agent.specs.CrossAnswers.{ComesAcross, TakesLineFrom}
use Rattle.user_agent.specs.declared.sites.Initiator.{Initiator}
use Rattle.fonnalich_c.specs.Faults.{IsTold}
use Rattle.fonnalich_c.specs.Given.{nanos_of}
use Rattle.fonnalich_c.specs.Started.{IsRequestFault, IsStarted}
use Rattle.fonnalich_c.specs.Tasks.{request_of}
use Rattle.fonnalich_c.proofs.Exchanges.{err_gives}
use Rattle.fonnalich_c.proofs.Receiving.{one_line_stopped, one_line_told}
use Rattle.fonnalich_c.proofs.started.receive_line.Goals as goal

pub returns-in_err-request-clause-err : goal.returns-in_err-request-clause-err
returns-in_err-request-clause-err c =
    let request = request_of c.args.start c.args.given.now in
    err_gives c.from_residual.result _ _ c.from_residual.ensures (λ refused is.
    inl (refl, subst (λ r. IsTold (IsRequestFault request) r) (sym is) c.in_err-request.ensures.err))

pub returns-in-Ok-clause-ok : goal.returns-in-Ok-clause-ok
returns-in-Ok-clause-ok c =
    let request = request_of c.args.start c.args.given.now in
    let old = c.args.client.now in
    let url = c.in_ok-request.request.url.now in
    let started : Initiator = c.initiator.result in
    let is_started : IsStarted request started = search rules in
    let moment : civil_nanos c.in_ok-request.request.now ≡ nanos_of request.second = c.in_ok-request.ensures.ok.0 in
    let comes = subst (λ s. IsTrue c.comes_across-across.result ↔ ComesAcross s.suffixes url started)
    c.store.ensures.store c.comes_across-across.ensures in
    let text : c.given.inside.text.now ≡ c.args.given.now.text = search rules in
    let taken = subst (λ t. TakesLineFrom c.args.browsing.now.rules c.comes_across-across.result old.suffixes old.rows
    url (civil_nanos c.in_ok-request.request.now) t c.in-Ok.outcome c.take.new.client.rows) text c.in-Ok.ensures.ok in
    one_line_told c.args.browsing.now.rules request c.args.given.now.text old c.take.new.client url started
    c.comes_across-across.result (civil_nanos c.in_ok-request.request.now) c.in-Ok.outcome c.outcome_for_number.result
    moment c.in_ok-request.ensures.ok.1 is_started comes c.requires.one c.in-Ok.ensures.list taken
    c.outcome_for_number.ensures

pub returns-clause-err : goal.returns-clause-err
returns-clause-err c =
    let request = request_of c.args.start c.args.given.now in
    let old = c.args.client.now in
    let url = c.in_ok-request.request.url.now in
    let started : Initiator = c.initiator.result in
    let is_started : IsStarted request started = search rules in
    let comes = subst (λ s. IsTrue c.comes_across-across.result ↔ ComesAcross s.suffixes url started)
    c.store.ensures.store c.comes_across-across.ensures in
    let text : c.given.inside.text.now ≡ c.args.given.now.text = search rules in
    let asks = subst (λ t. AsksForMemory c.args.browsing.now.rules url t) text c.in-Err.ensures.err.1 in
    one_line_stopped c.args.browsing.now.rules request c.args.given.now.text old c.take.new.client url started
    c.comes_across-across.result c.in_ok-request.ensures.ok.1 is_started comes c.requires.one c.in-Err.ensures.list
    c.in-Err.ensures.err.0 asks
