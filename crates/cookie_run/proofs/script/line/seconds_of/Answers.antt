use Rattle.std.proofs.Common.{◌∙◌, sym, lit<, eq-eqb}
use Rattle.std.proofs.lemmas.Bool.{false≢true}
use Rattle.cookie_run.proofs.ScriptNumbers.{seconds_are}
use Rattle.cookie_run.proofs.script.line.seconds_of.Goals as goal

pub returns : goal.returns
returns c = c.ok.ensures.value ∙ seconds_are c.args.text.now c.parse.result c.parse.ensures.value.0
    (λ e. false≢true (sym c.if-starts_with.false ∙ (c.starts_with.ensures.byte (lit< tt) (lit< tt) (λ w o h. h)
    ∙ eq-eqb _ 43 e)))
