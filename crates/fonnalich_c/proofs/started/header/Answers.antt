use Rattle.std.proofs.Common.{◌≡◌, false, refl, rules, string_bytes, subst, sym, true}
use Rattle.jiff.specs.Words.{civil_nanos}
use Rattle.user_agent.specs.CrossSite.{IsHeaderFor}
use Rattle.user_agent.specs.declared.sites.Initiator.{Initiator}
use Rattle.fonnalich_c.specs.Control.{has_control}
use Rattle.fonnalich_c.specs.Faults.{IsTold}
use Rattle.fonnalich_c.specs.Given.{nanos_of}
use Rattle.fonnalich_c.specs.Started.{Heads, HeadsSo, IsHeaderFault, IsStarted}
use Rattle.fonnalich_c.specs.Tasks.{request_of}
use Rattle.fonnalich_c.specs.declared.refusal.Refusal.TheVariants as refusal
use Rattle.fonnalich_c.proofs.Exchanges.{err_gives}
use Rattle.fonnalich_c.proofs.Faults.{is_moment, line_unheaded, unheaded}
use Rattle.fonnalich_c.proofs.started.header.Goals as goal

pub returns-in_err-request-clause-err : goal.returns-in_err-request-clause-err
returns-in_err-request-clause-err c =
    let request = request_of c.args.start c.args.given.now in
    let rules = c.args.browsing.now.rules in
    err_gives c.from_residual.result _ _ c.from_residual.ensures (λ refused is.
    subst (λ r. IsTold (IsHeaderFault rules request c.args.client.now) r) (sym is)
    (unheaded rules request c.args.client.now c.in_err-request.field-0.0 c.in_err-request.ensures.err))

pub returns-then-has_control-clause-err : goal.returns-then-has_control-clause-err
returns-then-has_control-clause-err c =
    let request = request_of c.args.start c.args.given.now in
    let store = c.args.client.now in
    let url = c.in_ok-request.request.url.now in
    let started : Initiator = c.initiator-initiator.result in
    let header = string_bytes c.in_ok-header.header in
    let is_started : IsStarted request started = search rules in
    let moment : civil_nanos c.in_ok-request.request.now ≡ nanos_of request.second = c.in_ok-request.ensures.ok.0 in
    let is = subst (λ at. IsHeaderFor c.args.browsing.now.rules store.suffixes store.rows url started at header) moment
    c.in_ok-header.ensures in
    let broken : has_control header ≡ true = search rules in
    let heads : HeadsSo true c.args.browsing.now.rules request store header =
    (broken, (url, started, c.in_ok-request.ensures.ok.1, is_started, is)) in
    line_unheaded c.args.browsing.now.rules request store url c.in_ok-request.request.page refusal.Line
    (is_moment c.in_ok-request.request.now request.second moment) c.in_ok-request.ensures.ok.1
    c.in_ok-request.ensures.ok.2 (refl, (header, heads))

pub returns-clause-ok : goal.returns-clause-ok
unfolding Heads
returns-clause-ok c =
    let request = request_of c.args.start c.args.given.now in
    let store = c.args.client.now in
    let url = c.in_ok-request.request.url.now in
    let started : Initiator = c.initiator-initiator.result in
    let is_started : IsStarted request started = search rules in
    let moment : civil_nanos c.in_ok-request.request.now ≡ nanos_of request.second = c.in_ok-request.ensures.ok.0 in
    let is = subst (λ at. IsHeaderFor c.args.browsing.now.rules store.suffixes store.rows url started at
    (string_bytes c.in_ok-header.header)) moment c.in_ok-header.ensures in
    let whole : has_control (string_bytes c.in_ok-header.header) ≡ false = search rules in
    let same : c.into_bytes.result.items ≡ string_bytes c.in_ok-header.header = search rules in
    subst (λ h. HeadsSo false c.args.browsing.now.rules request store h) (sym same)
    (whole, (url, started, c.in_ok-request.ensures.ok.1, is_started, is))
