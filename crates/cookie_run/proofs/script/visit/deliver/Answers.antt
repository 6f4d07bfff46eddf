use Rattle.std.proofs.Common.{◌∙◌, ap, subst, refl}
use Rattle.std.specs.Prelude.{string_bytes, map}
use Rattle.jiff.specs.Words.{civil_nanos}
use Rattle.cookie_client.specs.Accept.{IsStopped, Takes}
use Rattle.cookie_run.specs.ScriptLine as spec
use Rattle.cookie_run.specs.ScriptText.{obeyed}
use Rattle.cookie_run.proofs.Following.{takes_of, stopped_at}
use Rattle.cookie_run.proofs.Halting.{half_deliver, no_memory}
use Rattle.cookie_client.proofs.Outcomes.{err_gives}
use Rattle.cookie_run.proofs.Standings.{delivers}
use Rattle.cookie_run.proofs.script.visit.deliver.Goals as goal

pub returns-clause-ok : goal.returns-clause-ok
returns-clause-ok c =
    let open_visit = c.in-Some.open in
    let list = c.args.client.now.suffixes in
    let rows = c.args.client.now.rows in
    let new = c.receive.new.self.rows in
    let at = civil_nanos c.args.at in
    let answer = map string_bytes c.in_ok-lines.lines.items in
    let lines = ap (map (λ view. view.now)) c.deref-2.ensures.value
    ∙ (c.in_ok-views.ensures ∙ ap (map string_bytes) c.deref.ensures.value) in
    let taken = subst (λ ls. Takes list rows open_visit.url at ls new) lines
    (takes_of list rows new open_visit.url at _ c.receive.result c.if-is_err.ensures.value c.receive.ensures.all) in
    λ ring first start r output drawn s.
    delivers drawn list first start ring rows new r (civil_nanos c.args.last.now) c.args.visit.now open_visit answer
    output
    (string_bytes c.new.result) at at s c.in-Some.is c.in_ok-lines.ensures.lines taken c.new.ensures.bytes refl

pub returns-then-is_err-clause-err : goal.returns-then-is_err-clause-err
returns-then-is_err-clause-err c =
    let open_visit = c.in-Some.open in
    let list = c.args.client.now.suffixes in
    let rows = c.args.client.now.rows in
    let new = c.receive.new.self.rows in
    let at = civil_nanos c.args.at in
    let answer = map string_bytes c.in_ok-lines.lines.items in
    let lines = ap (map (λ view. view.now)) c.deref-2.ensures.value
    ∙ (c.in_ok-views.ensures ∙ ap (map string_bytes) c.deref.ensures.value) in
    let stopped = stopped_at c.receive.result _ c.if-is_err.ensures.value c.receive.ensures.stopped in
    let half = subst (λ ls. IsStopped list rows open_visit.url at ls stopped.0.0 new) lines stopped.1 in
    λ ring first start r output drawn s.
    half_deliver drawn list first start ring rows new r (civil_nanos c.args.last.now) c.args.visit.now open_visit answer
    output
    stopped.0.0 at s c.in-Some.is c.in_ok-lines.ensures.lines half

pub returns-in_err-lines-clause-err : goal.returns-in_err-lines-clause-err
returns-in_err-lines-clause-err c =
    err_gives c.from_residual.result _ _ c.from_residual.ensures (λ cause e ring first start r output drawn s.
    no_memory drawn c.args.client.now.suffixes first start ring c.args.client.now.rows r (civil_nanos c.args.last.now)
    c.args.visit.now output (obeyed r.acts r.ring r.last r.now (spec.Delivers (civil_nanos c.args.at))) cause s
    (e ∙ c.in_err-lines.ensures.err))

pub returns-in_err-views-clause-err : goal.returns-in_err-views-clause-err
returns-in_err-views-clause-err c =
    err_gives c.from_residual-in_err-views.result _ _ c.from_residual-in_err-views.ensures
    (λ cause e ring first start r output drawn s.
    no_memory drawn c.args.client.now.suffixes first start ring c.args.client.now.rows r (civil_nanos c.args.last.now)
    c.args.visit.now output (obeyed r.acts r.ring r.last r.now (spec.Delivers (civil_nanos c.args.at))) cause s e)
