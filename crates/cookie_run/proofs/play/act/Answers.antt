use Rattle.std.proofs.Common.{◌∙◌, [], ◌∷◌, refl, sym, ap, subst, inl, inr}
use Rattle.std.specs.Prelude.{map}
use Rattle.std.proofs.lemmas.Result.{IfErr-weaker}
use Rattle.jiff.specs.Words.{civil_nanos}
use Rattle.cookie_client.specs.Accept.{Takes}
use Rattle.cookie_client.specs.Header.{IsHeader}
use Rattle.cookie_client.specs.declared.command.Reading.TheVariants.{Header}
use Rattle.cookie_client.proofs.Outcomes.{err_gives}
use Rattle.cookie_run.proofs.Runs.{on_ok, readings_nil}
use Rattle.cookie_run.proofs.play.act.Goals as goal

pub returns-in_err-lines-in-Foreign-clause-err : goal.returns-in_err-lines-in-Foreign-clause-err
returns-in_err-lines-in-Foreign-clause-err g c =
    err_gives c.from_residual-in_err-lines-in-Foreign.result _ _ c.from_residual-in_err-lines-in-Foreign.ensures
    (λ kind e. rw c.in-Foreign.is (
      [],
      refl,
      inr (
        c.in_ok-come_to-in-Foreign.ensures.ok.0,
        inl
            (e, ([], (refl, refl), sym (readings_nil _))),
      ),
    ))

pub returns-in_err-header-in-Header-clause-err : goal.returns-in_err-header-in-Header-clause-err
returns-in_err-header-in-Header-clause-err g c =
    err_gives c.from_residual-in_err-header-in-Header.result _ _ c.from_residual-in_err-header-in-Header.ensures
    (λ kind e. rw c.in-Header.is (
      [],
      refl,
      inr (
        c.in_ok-come_to-in-Header.ensures.ok.0,
        inl
            (e, ([], (refl, refl), sym (readings_nil _))),
      ),
    ))

pub returns-in_err-push-in-Header-clause-err : goal.returns-in_err-push-in-Header-clause-err
returns-in_err-push-in-Header-clause-err g c =
    err_gives c.from_residual-in_err-push-in-Header.result _ _ c.from_residual-in_err-push-in-Header.ensures
    (λ kind e. rw c.in-Header.is (
      [],
      refl,
      inr (
        c.in_ok-come_to-in-Header.ensures.ok.0,
        inl
            (e, ([], (refl, refl), c.in_err-push-in-Header.ensures.items ∙ sym (readings_nil _))),
      ),
    ))

pub returns-in_ok-come_to-in-Exchange-clause-step : goal.returns-in_ok-come_to-in-Exchange-clause-step
returns-in_ok-come_to-in-Exchange-clause-step g c =
    rw (c.in-Exchange.is, sym c.deref.ensures.value, sym c.in_ok-come_to-in-Exchange.ensures.ok.1)
    c.exchange.ensures.rows

pub returns-in_ok-come_to-in-Exchange-clause-err : goal.returns-in_ok-come_to-in-Exchange-clause-err
returns-in_ok-come_to-in-Exchange-clause-err g c =
    rw (c.in-Exchange.is, sym c.deref.ensures.value) (IfErr-weaker c.exchange.result _ _
    (λ kind s. (
      s.0,
      s.1,
      inr (c.in_ok-come_to-in-Exchange.ensures.ok.0, rw (sym c.in_ok-come_to-in-Exchange.ensures.ok.1) s.2),
    ))
    c.exchange.ensures.err)

pub returns-in_ok-lines-in-Foreign-clause-step : goal.returns-in_ok-lines-in-Foreign-clause-step
returns-in_ok-lines-in-Foreign-clause-step g c =
    let lines = ap (map (λ line. line.now)) c.deref-in-Foreign-2.ensures.value
    ∙ (c.in_ok-lines-in-Foreign.ensures ∙ ap (map (λ line. line.items)) c.deref-in-Foreign.ensures.value) in
    rw c.in-Foreign.is (on_ok c.receive.result _ _ (λ takes. (
      [],
      refl,
      (
        [],
        sym (readings_nil _),
        (
          (
            refl,
            subst (λ ls. Takes c.args.client.now.suffixes c.args.client.now.rows c.in-Foreign.url
                (civil_nanos c.in-Foreign.at) ls c.receive.new.client.rows) lines takes,
          ),
          refl,
        ),
      ),
    ))
    c.receive.ensures.rows)

pub returns-in_ok-lines-in-Foreign-clause-err : goal.returns-in_ok-lines-in-Foreign-clause-err
returns-in_ok-lines-in-Foreign-clause-err g c =
    rw c.in-Foreign.is (IfErr-weaker c.receive.result _ _ (λ kind e. (
      [],
      refl,
      inr
          (c.in_ok-come_to-in-Foreign.ensures.ok.0, inl (e, ([], (refl, refl), sym (readings_nil _)))),
    )) c.receive.ensures.err)

pub returns-in_ok-come_to-in-Restart-clause-step : goal.returns-in_ok-come_to-in-Restart-clause-step
returns-in_ok-come_to-in-Restart-clause-step g c = rw c.in-Restart.is
    (on_ok c.restart.result _ _ (λ kept. ([], refl, ([], sym (readings_nil _), ((refl, kept), refl))))
    c.restart.ensures.rows)

pub returns-in_ok-come_to-in-Restart-clause-err : goal.returns-in_ok-come_to-in-Restart-clause-err
returns-in_ok-come_to-in-Restart-clause-err g c =
    rw c.in-Restart.is (IfErr-weaker c.restart.result _ _ (λ kind e. (
      [],
      refl,
      inr
          (c.in_ok-come_to-in-Restart.ensures.ok.0, inl (e, ([], (refl, refl), sym (readings_nil _)))),
    )) c.restart.ensures.err)

pub returns-in_ok-push-in-Header-clause-step : goal.returns-in_ok-push-in-Header-clause-step
returns-in_ok-push-in-Header-clause-step g c =
    let is_header : IsHeader c.args.client.now.rows c.in-Header.url (civil_nanos c.in-Header.at) c.of.result = subst
    (IsHeader c.args.client.now.rows c.in-Header.url (civil_nanos c.in-Header.at)) (sym c.of.ensures)
    c.in_ok-header-in-Header.ensures in
    rw c.in-Header.is (
      [],
      refl,
      (
        Header c.of.result ∷ [],
        c.in_ok-push-in-Header.ensures.items,
        (((c.of.result, is_header, refl), refl), refl),
      ),
    )
