use Rattle.std.proofs.Common.{◌∙◌, ap, refl, sym}
use Rattle.cookie_text.specs.Setting.{with_value}
use Rattle.cookie.proofs.secure.signed_jar.verified.Goals as goal

pub returns-in-Some : goal.returns-in-Some
returns-in-Some c = (
  c.in-Some.value.now,
  sym c.value.ensures ∙ (c.in-Some.ensures c.in-Some.value.now).0 refl,
  c.set_value_owned.ensures ∙ ap (with_value c.args.cookie) c.in_ok-value-in-Some.ensures.ok,
)

pub returns : goal.returns
returns c = λ value e. let is = (c.in-None.ensures value).1 (c.value.ensures ∙ e) in cc is
