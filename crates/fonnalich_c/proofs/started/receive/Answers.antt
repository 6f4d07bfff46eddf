use Rattle.std.proofs.Common.{◌≡◌, inl, inr, refl, rules, subst, sym}
use Rattle.jiff.specs.Words.{civil_nanos}
use Rattle.user_agent.specs.CrossAnswers.{IsStoppedFor, ReceivesFor}
use Rattle.user_agent.specs.declared.sites.Initiator.{Initiator}
use Rattle.fonnalich_c.specs.Faults.{IsTold}
use Rattle.fonnalich_c.specs.Given.{lines_of, nanos_of}
use Rattle.fonnalich_c.specs.Started.{IsRequestFault, IsStarted, Receives, RefusesLines}
use Rattle.fonnalich_c.specs.Tasks.{request_of}
use Rattle.fonnalich_c.proofs.Exchanges.{err_gives, fault_gives, ok_gives}
use Rattle.fonnalich_c.proofs.started.receive.Goals as goal

pub returns-in_err-request-clause-err : goal.returns-in_err-request-clause-err
returns-in_err-request-clause-err c =
    let request = request_of c.args.start c.args.given.now in
    err_gives c.from_residual.result _ _ c.from_residual.ensures (λ refused is.
    inl (refl, subst (λ r. IsTold (IsRequestFault request) r) (sym is) c.in_err-request.ensures.err))

pub returns-clause-ok : goal.returns-clause-ok
returns-clause-ok c =
    let request = request_of c.args.start c.args.given.now in
    let old = c.args.client.now in
    let url = c.in_ok-request.request.url.now in
    let started : Initiator = c.initiator-initiator.result in
    let is_started : IsStarted request started = search rules in
    let moment : civil_nanos c.in_ok-request.request.now ≡ nanos_of request.second = c.in_ok-request.ensures.ok.0 in
    let text : c.given.inside.text.now ≡ c.args.given.now.text = search rules in
    ok_gives c.take_all.result _
    (λ answer. Receives c.args.browsing.now.rules request c.args.given.now.text old answer.items c.take_all.new.client)
    (λ answer is. (
      c.take_all.ensures.list,
      (
        url,
        started,
        is.0,
        c.in_ok-request.ensures.ok.1,
        is_started,
        subst (λ t. ReceivesFor c.args.browsing.now.rules old.suffixes old.rows url started (nanos_of request.second)
            (lines_of t) is.0 c.take_all.new.client.rows) text
            (subst (λ at. ReceivesFor c.args.browsing.now.rules old.suffixes old.rows url started at
            (lines_of c.given.inside.text.now) is.0 c.take_all.new.client.rows) moment is.1),
        is.2,
      ),
    )) c.take_all.ensures.ok

pub returns-clause-err : goal.returns-clause-err
returns-clause-err c =
    let request = request_of c.args.start c.args.given.now in
    let old = c.args.client.now in
    let url = c.in_ok-request.request.url.now in
    let started : Initiator = c.initiator-initiator.result in
    let is_started : IsStarted request started = search rules in
    let moment : civil_nanos c.in_ok-request.request.now ≡ nanos_of request.second = c.in_ok-request.ensures.ok.0 in
    let text : c.given.inside.text.now ≡ c.args.given.now.text = search rules in
    fault_gives c.take_all.result _ (λ refused. RefusesLines c.args.browsing.now.rules request c.args.given.now.text old
    refused c.take_all.new.client) (λ refused why. elim why [
      | inl memory ↦ inl (memory.1, inl memory.0)
      | inr stops ↦ inr (
        stops.0,
        stops.1,
        (
          c.take_all.ensures.list,
          (
            url,
            started,
            c.in_ok-request.ensures.ok.1,
            is_started,
            subst (λ t. IsStoppedFor c.args.browsing.now.rules old.suffixes old.rows url started
                (nanos_of request.second) (lines_of t) stops.0 c.take_all.new.client.rows) text
                (subst (λ at. IsStoppedFor c.args.browsing.now.rules old.suffixes old.rows url started at
                (lines_of c.given.inside.text.now) stops.0 c.take_all.new.client.rows) moment stops.2),
          ),
        ),
      )
    ]) c.take_all.ensures.err
