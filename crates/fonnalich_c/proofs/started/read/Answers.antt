use Rattle.std.proofs.Common.{◌≡◌, subst, sym, rules}
use Rattle.jiff.specs.Words.{civil_nanos}
use Rattle.fonnalich_c.specs.Faults.{IsTold}
use Rattle.fonnalich_c.specs.Given.{nanos_of}
use Rattle.fonnalich_c.specs.Started.{IsRequestFault}
use Rattle.fonnalich_c.specs.Tasks.{request_of}
use Rattle.fonnalich_c.proofs.Exchanges.{err_gives}
use Rattle.fonnalich_c.proofs.Faults.{is_moment, url_unread}
use Rattle.fonnalich_c.proofs.started.read.Goals as goal

pub returns-in_err-page-clause-err : goal.returns-in_err-page-clause-err
returns-in_err-page-clause-err c =
    let moment : civil_nanos c.in_ok-now.now ≡ nanos_of c.args.given.now.number = search rules in
    let request = request_of c.args.start c.args.given.now in
    err_gives c.from_residual-in_err-page.result _ _ c.from_residual-in_err-page.ensures (λ refused is.
    subst (λ r. IsTold (IsRequestFault request) r) (sym is) (url_unread request c.in_err-page.field-0.0
    (is_moment c.in_ok-now.now c.args.given.now.number moment) (search rules)))

pub returns-in_err-url-clause-err : goal.returns-in_err-url-clause-err
returns-in_err-url-clause-err c =
    let moment : civil_nanos c.in_ok-now.now ≡ nanos_of c.args.given.now.number = search rules in
    let request = request_of c.args.start c.args.given.now in
    err_gives c.from_residual-in_err-url.result _ _ c.from_residual-in_err-url.ensures (λ refused is.
    subst (λ r. IsTold (IsRequestFault request) r) (sym is) (url_unread request c.in_err-url.field-0.0
    (is_moment c.in_ok-now.now c.args.given.now.number moment) (search rules)))
