use Rattle.std.proofs.Common.{◌∙◌, List, ℕ, subst, refl}
use Rattle.std.specs.Prelude.{string_bytes}
use Rattle.jiff.specs.Words.{civil_nanos}
use Rattle.cookie_client.specs.RingSession.{IsOpenedOn}
use Rattle.cookie_run.specs.ScriptLine as spec
use Rattle.cookie_run.specs.ScriptText.{obeyed}
use Rattle.cookie_run.proofs.Halting.{no_memory, open_already, open_open}
use Rattle.cookie_client.proofs.Outcomes.{err_gives}
use Rattle.cookie_run.proofs.Standings.{begins}
use Rattle.cookie_run.proofs.script.visit.begin.Goals as goal

pub returns-clause-ok : goal.returns-clause-ok
returns-clause-ok c = λ first start r output drawn s.
    let header : List ℕ = string_bytes c.in_ok-header.header in
    let at = c.args.at.date in
    let session = c.in_ok-session.session in
    let opened : IsOpenedOn c.args.ring.now at header session = subst
    (λ k. IsOpenedOn k at header session) c.in_ok-keys.ensures
    (subst (λ h. IsOpenedOn c.in_ok-keys.keys at h session)
    (c.as_bytes.ensures.value ∙ c.as_str.ensures.value) c.in_ok-session.ensures) in
    begins drawn c.args.client.now.suffixes first start c.args.ring.now c.args.client.now.rows r
    (civil_nanos c.args.last.now) c.args.visit.now output (string_bytes c.new.result) c.args.url c.args.at _ header
    session s (cc) c.in_ok-header.ensures opened c.new.ensures.bytes refl

pub returns-then-is_some-clause-err : goal.returns-then-is_some-clause-err
returns-then-is_some-clause-err c = λ first start r output drawn s.
    open_already drawn c.args.client.now.suffixes first start c.args.ring.now c.args.client.now.rows r
    (civil_nanos c.args.last.now) c.args.visit.now output (spec.Opens c.args.url c.args.at.date) s (cc)
    (open_open r c.args.url c.args.at.date)

pub returns-in_err-header-clause-err : goal.returns-in_err-header-clause-err
returns-in_err-header-clause-err c =
    err_gives c.from_residual.result _ _ c.from_residual.ensures (λ cause e first start r output drawn s.
    no_memory drawn c.args.client.now.suffixes first start c.args.ring.now c.args.client.now.rows r
    (civil_nanos c.args.last.now) c.args.visit.now output
    (obeyed r.acts r.ring r.last r.now (spec.Opens c.args.url c.args.at.date)) cause s e)

pub returns-in_err-keys-clause-err : goal.returns-in_err-keys-clause-err
returns-in_err-keys-clause-err c =
    err_gives c.from_residual-in_err-keys.result _ _ c.from_residual-in_err-keys.ensures
    (λ cause e first start r output drawn s.
    no_memory drawn c.args.client.now.suffixes first start c.args.ring.now c.args.client.now.rows r
    (civil_nanos c.args.last.now) c.args.visit.now output
    (obeyed r.acts r.ring r.last r.now (spec.Opens c.args.url c.args.at.date)) cause s e)

pub returns-in_err-session-clause-err : goal.returns-in_err-session-clause-err
returns-in_err-session-clause-err c =
    err_gives c.from_residual-in_err-session.result _ _ c.from_residual-in_err-session.ensures
    (λ cause e first start r output drawn s.
    no_memory drawn c.args.client.now.suffixes first start c.args.ring.now c.args.client.now.rows r
    (civil_nanos c.args.last.now) c.args.visit.now output
    (obeyed r.acts r.ring r.last r.now (spec.Opens c.args.url c.args.at.date)) cause s e)
