use Rattle.std.proofs.Common.{◌≡◌, ◌∙◌, ◌++◌, sym, subst}
use Rattle.std.specs.Prelude.{OnOk, string_bytes}
use Rattle.std.proofs.lemmas.Str.{IsUtf8-string_bytes}
use Rattle.cookie_jar.specs.Terminal.{ShowsNoControl}
use Rattle.cookie_jar.proofs.ShownLemmas.{shown-percent_encode, shows_encoded}
use Rattle.cookie_jar.proofs.TerminalLemmas.{shows_result}
use Rattle.cookie_jar.proofs.terminal.Shown.bytes.Goals as goal

pub invariant_of-self : goal.invariant_of-self
invariant_of-self c =
    shows_result _ _ _ _ c.append_to.ensures.ok c.append_to.ensures.err (IsUtf8-string_bytes c.self.inside.text)
    c.self.invariant (subst ShowsNoControl (sym c.percent_encode.ensures.text) (shows_encoded c.args.bytes.now))

pub returns : goal.returns
returns c =
    subst (λ t. OnOk c.append_to.result (string_bytes c.append_to.new.out ≡
    t ++ Rattle.cookie_jar.specs.Terminal.shown c.args.bytes.now))
    c.self.view_is
    (subst (λ t. OnOk c.append_to.result (string_bytes c.append_to.new.out ≡ string_bytes c.self.inside.text ++ t))
    (c.percent_encode.ensures.text ∙ sym (shown-percent_encode c.args.bytes.now))
    c.append_to.ensures.ok)
