use Rattle.std.proofs.Common.{◌∙◌, min, ap}
use Rattle.std.specs.Str.Parse.{digits_value}
use Rattle.std.proofs.lemmas.Str.Parse.{parse_digits}
use Rattle.cookies_txt.specs.Writing.{latest_second}
use Rattle.cookies_txt.proofs.ExpiryLemmas.{own, largest_second, digits_in}
use Rattle.cookies_txt.proofs.fields.whole_second_of.Goals as goal

pub returns-in-Err-clause-second : goal.returns-in-Err-clause-second
returns-in-Err-clause-second c =
    let whole = c.in_ok-whole.whole.now in
    let (is, same, number) = c.in_ok-whole.ensures.whole in
    let digits = digits_in whole number in
    let parsed = parse_digits own 64 whole c.parse.result c.parse.ensures.value.0 digits.1 in (
      is,
      largest_second whole c.parse.result c.in-Err.field-0 digits.0 parsed c.in-Err.is
          ∙ ap (λ t. min (digits_value 10 t) latest_second) same,
    )
