use Rattle.std.proofs.Common.{◌∙◌, ap}
use Rattle.std.specs.Prelude.{option_map}
use Rattle.jiff.specs.Words.{signed_nanos}
use Rattle.cookie_text.specs.Record.{bare, unsliced}
use Rattle.cookie_text.specs.Setting.{with_max_age}
use Rattle.cookie_run.proofs.ScriptNumbers.{dated_is}
use Rattle.cookie_run.proofs.script.line.dated.Goals as goal

pub returns-in-Some : goal.returns-in-Some
returns-in-Some c =
    let age = option_map signed_nanos c.args.max_age in
    dated_is c.args.name c.args.value age c.args.expires c.in-Some.date c.set_max_age.new.self c.set_expires.new.self
    (c.set_max_age.ensures ∙ ap (λ s. with_max_age s age) (c.new_owned-cookie.ensures
    ∙ (λ i. unsliced (bare (c.into_string.ensures i) (c.into_string-2.ensures i))))) c.in-Some.is c.requires.whole
    c.set_expires.ensures
