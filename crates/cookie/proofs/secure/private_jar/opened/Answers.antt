use Rattle.std.proofs.Common.{ap}
use Rattle.std.specs.Prelude.{string_bytes}
use Rattle.std.specs.Option.{option_map}
use Rattle.cookie.proofs.ReadingLemmas.{opened_some, opened_none}
use Rattle.cookie.proofs.secure.private_jar.opened.Goals as goal

pub returns-in-Some : goal.returns-in-Some
returns-in-Some c = (
  string_bytes c.in-Some.value,
  opened_some c.args.key.now c.name.result.now c.value.result.now c.args.cookie
      (option_map string_bytes c.in_ok-value.field-0) (string_bytes c.in-Some.value) c.name.ensures c.value.ensures
      c.in_ok-value.ensures (ap (option_map string_bytes) c.in-Some.is),
  c.set_value_owned.ensures,
)

pub returns : goal.returns
returns c =
    opened_none c.args.key.now c.name.result.now c.value.result.now c.args.cookie
    (option_map string_bytes c.in_ok-value.field-0) c.name.ensures c.value.ensures
    c.in_ok-value.ensures (ap (option_map string_bytes) c.in-None.is)
