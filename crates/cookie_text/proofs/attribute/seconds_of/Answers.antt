use Rattle.std.proofs.Common.{lit<, w64, sym, ◌∙◌}
use Rattle.std.proofs.lemmas.Bool.{false≢true}
use Rattle.std.proofs.lemmas.Str.Pattern.{strip_prefix_char}
use Rattle.std.proofs.lemmas.Str.Parse.{parse_signed_digits}
use Rattle.cookie_text.proofs.AttributeLemmas.{own, largest_seconds, no_seconds}
use Rattle.cookie_text.proofs.attribute.seconds_of.Goals as goal

pub returns-then-not-are_digits : goal.returns-then-not-are_digits
returns-then-not-are_digits c =
    no_seconds c.args.text.now (λ d. false≢true (sym c.if-not-are_digits.true ∙ c.are_digits-in-None.ensures.1 d))
    (rw c.in-None.is at (strip_prefix_char 45 c.args.text.now c.strip_prefix.result c.strip_prefix.ensures.cases
    (lit< tt)))

pub returns-in-Err : goal.returns-in-Err
returns-in-Err c =
    let d = c.are_digits-in-None.ensures.0 c.if-not-are_digits.false in
    let parsed = parse_signed_digits own w64 c.args.text.now c.parse.result c.parse.ensures.value.0 d.1 in
    largest_seconds c.args.text.now c.parse.result c.in-Err.field-0 d parsed c.in-Err.is
