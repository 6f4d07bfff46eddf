use Rattle.std.proofs.Common.{[], subst, refl, inl}
use Rattle.std.proofs.lemmas.Result.{IfErr-weaker}
use Rattle.std.specs.Prelude.{string_bytes}
use Rattle.cookie_client.specs.Steps.{Never}
use Rattle.cookie_client.specs.Jar.{IsOpened}
use Rattle.cookie_run.proofs.DrawnRuns.{reads_none_by, stops_opened_by}
use Rattle.cookie_client.proofs.Outcomes.{err_gives}
use Rattle.cookie_run.proofs.Runs.{on_ok}
use Rattle.cookie_run.proofs.play.exchange.Goals as goal

pub returns-in_err-header-clause-err : goal.returns-in_err-header-clause-err
returns-in_err-header-clause-err g c =
    err_gives c.from_residual.result _ _ c.from_residual.ensures
    (λ kind e. ([], refl, inl (e, reads_none_by _ _ _ _ _ Never _ _ refl)))

pub returns-in_err-session-clause-err : goal.returns-in_err-session-clause-err
returns-in_err-session-clause-err g c =
    err_gives c.from_residual-in_err-session.result _ _ c.from_residual-in_err-session.ensures
    (λ kind e. ([], refl, inl (e, reads_none_by _ _ _ _ _ Never _ _ refl)))

pub returns-clause-rows : goal.returns-clause-rows
returns-clause-rows g c =
    let header = string_bytes c.in_ok-header.header in
    let opened : IsOpened c.args.key.now header c.in_ok-session.session = subst
    (λ k. IsOpened k header c.in_ok-session.session) c.copy_of.ensures
    (subst (λ h. IsOpened c.copy_of.result h c.in_ok-session.session) c.as_bytes.ensures.value
    c.in_ok-session.ensures) in
    on_ok c.converse.result _ _ (λ d. (
      d.0,
      d.1,
      (
        d.2.0,
        d.2.1,
        (
          header,
          c.in_ok-header.ensures,
          (c.in_ok-session.session, opened, (c.converse.new.session, d.2.2, d.2.3)),
        ),
      ),
    )) c.converse.ensures.rows

pub returns-clause-err : goal.returns-clause-err
returns-clause-err g c =
    let header = string_bytes c.in_ok-header.header in
    let opened : IsOpened c.args.key.now header c.in_ok-session.session = subst
    (λ k. IsOpened k header c.in_ok-session.session) c.copy_of.ensures
    (subst (λ h. IsOpened c.copy_of.result h c.in_ok-session.session) c.as_bytes.ensures.value
    c.in_ok-session.ensures) in
    IfErr-weaker c.converse.result _ _ (λ kind d. (
      d.0,
      d.1,
      stops_opened_by d.0 _ header _ _ _ _ _ c.in_ok-session.session _ _ _ _ c.in_ok-header.ensures opened d.2,
    )) c.converse.ensures.err
