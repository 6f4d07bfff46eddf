use Rattle.saved_text.proofs.RonLemmas.{Stops-undigited, Stops-second_digit, Takes-two_digits}
use Rattle.saved_text.proofs.ron_text.two_digits.Goals as goal

pub returns-in_default : goal.returns-in_default
returns-in_default c = Stops-undigited 1 2 0 c.args.text.now c.in_default.ensures.none

pub returns-in_default-next_digit : goal.returns-in_default-next_digit
returns-in_default-next_digit c = Stops-second_digit c.args.text.now c.in-Some.rest.now c.in-Some.high
    c.in-Some.ensures.some c.in_default-next_digit.ensures.none

pub returns : goal.returns
returns c = Takes-two_digits c.args.text.now c.in-Some.rest.now c.in-Some-next_digit.rest.now c.in-Some.high
    c.in-Some-next_digit.low c.from.result c.in-Some.ensures.some c.in-Some-next_digit.ensures.some c.from.ensures
