use Rattle.std.proofs.Common.{◌∙◌, sym, ap, subst, refl}
use Rattle.std.specs.Prelude.{string_bytes, map}
use Rattle.jiff.specs.Words.{civil_nanos}
use Rattle.cookie_client.specs.Accept.{Takes}
use Rattle.cookie_run.proofs.Standings.{receives}
use Rattle.cookie_run.proofs.Following.{takes_of}
use Rattle.cookie_run.specs.ScriptLine as spec
use Rattle.cookie_run.proofs.Halting.{open_already, open_receive}
use Rattle.cookie_run.proofs.script.visit.receive.Goals as goal

pub returns-clause-ok : goal.returns-clause-ok
returns-clause-ok c =
    let lines = ap (map (λ view. view.now)) c.deref.ensures.value ∙ c.in_ok-views.ensures in
    let list = c.args.client.now.suffixes in
    let at = civil_nanos c.args.at in
    let rows = c.args.client.now.rows in
    let new = c.receive.new.self.rows in
    let taken = subst (λ ls. Takes list rows c.args.url.now at ls new) lines
    (takes_of list rows new c.args.url.now at _ c.receive.result c.if-is_err.ensures.value c.receive.ensures.all) in
    λ ring first start r output drawn s.
    receives drawn list first start ring rows new r (civil_nanos c.args.last.now) c.args.visit.now output
    (string_bytes c.new.result) c.args.url.now (map (λ line. line.items) c.args.lines.now) at at s
    (sym c.if-is_some.ensures) taken c.new.ensures.bytes refl

pub returns-then-is_some-clause-err : goal.returns-then-is_some-clause-err
returns-then-is_some-clause-err c =
    let answer = map (λ line. line.items) c.args.lines.now in
    λ ring first start r output drawn s.
    open_already drawn c.args.client.now.suffixes first start ring c.args.client.now.rows r (civil_nanos
    c.args.last.now)
    c.args.visit.now output (spec.Receives c.args.url.now answer (civil_nanos c.args.at)) s (c.if-is_some.ensures)
    (open_receive r c.args.url.now answer (civil_nanos c.args.at))
