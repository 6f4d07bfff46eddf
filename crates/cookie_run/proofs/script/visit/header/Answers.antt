use Rattle.std.proofs.Common.{◌∙◌, sym, ap, refl}
use Rattle.std.specs.Prelude.{string_bytes}
use Rattle.jiff.specs.Words.{civil_nanos}
use Rattle.cookie_run.specs.ScriptText.{reading_text}
use Rattle.cookie_run.specs.RingPlay.{Header}
use Rattle.cookie_run.proofs.Standings.{heads}
use Rattle.cookie_run.specs.ScriptLine as spec
use Rattle.cookie_run.proofs.Halting.{open_already, open_header}
use Rattle.cookie_run.proofs.script.visit.header.Goals as goal

pub returns-clause-ok : goal.returns-clause-ok
returns-clause-ok c = λ ring first start r output drawn s.
    heads drawn c.args.client.now.suffixes first start ring c.args.client.now.rows r (civil_nanos c.args.last.now)
    c.args.visit.now output (string_bytes c.in_ok-line.line) c.args.url.now (string_bytes c.in_ok-header.header)
    (civil_nanos c.args.at) (civil_nanos c.args.at) s
    (sym c.if-is_some.ensures) c.in_ok-header.ensures (c.in_ok-line.ensures
    ∙ ap (λ h. reading_text (Header h)) c.as_str.ensures.value) refl

pub returns-then-is_some-clause-err : goal.returns-then-is_some-clause-err
returns-then-is_some-clause-err c = λ ring first start r output drawn s.
    open_already drawn c.args.client.now.suffixes first start ring c.args.client.now.rows r (civil_nanos
    c.args.last.now)
    c.args.visit.now output (spec.Heads c.args.url.now (civil_nanos c.args.at)) s (c.if-is_some.ensures)
    (open_header r c.args.url.now (civil_nanos c.args.at))
