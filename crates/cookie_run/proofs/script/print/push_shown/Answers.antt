use Rattle.std.proofs.Common.{◌≡◌, ◌∙◌, ◌++◌, sym, ap, subst}
use Rattle.std.specs.Prelude.{OnOk, string_bytes}
use Rattle.percent_encoding.specs.Percent.{percent_encode}
use Rattle.cookie_run.specs.declared.script.print.TheConstants.{SHOWN}
use Rattle.cookie_run.proofs.Shown.{shown-percent_encode}
use Rattle.cookie_run.proofs.script.print.push_shown.Goals as goal

pub returns : goal.returns
returns c =
    subst (λ t. OnOk c.append_to.result (string_bytes c.append_to.new.out ≡ string_bytes c.args.line.now ++ t))
    (c.percent_encode.ensures.text ∙ (ap (percent_encode SHOWN) c.as_bytes.ensures.value
    ∙ sym (shown-percent_encode c.args.text.now)))
    c.append_to.ensures.ok
