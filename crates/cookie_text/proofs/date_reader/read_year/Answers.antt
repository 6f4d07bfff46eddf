use Rattle.std.proofs.Common.{◌≡◌, arith, sym, subst, take, ap, ◌∙◌}
use Rattle.cookie_text.specs.Date.{AreYearDigits}
use Rattle.cookie_text.specs.DateReader.{digits_len}
use Rattle.cookie_text.proofs.DateNumbers.{AreYearDigits-taken}
use Rattle.cookie_text.proofs.date_reader.read_year.Goals as goal

pub returns-then-len-le4-clause-digits : goal.returns-then-len-le4-clause-digits
returns-then-len-le4-clause-digits c =
    let text = c.args.text.now in
    let len : c.digits_len-len.result ≡ digits_len text = c.digits_len-len.ensures.value in
    let front : c.split_at.result.0.now ≡ take (digits_len text) text = c.split_at.ensures.front
    ∙ ap (λ n. take n text) len in
    subst AreYearDigits (sym front) (AreYearDigits-taken text (omega (arith, len)) (omega (arith, len)))
