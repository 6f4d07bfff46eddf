use Rattle.std.proofs.Common.{encode_utf8}
use Rattle.saved_text.specs.Grammar.{letters}
use Rattle.saved_text.proofs.RonLemmas.{result_step, Goes-first_digit, Stops-undigited_brace}
use Rattle.saved_text.proofs.ron_text.braced.Goals as goal

pub returns-in-Some : goal.returns-in-Some
returns-in-Some c = result_step (λ k. letters (encode_utf8 k)) _ _ c.args.text.now c.in-Some.rest.now
    c.more_digits.result (Goes-first_digit c.args.text.now c.in-Some.rest.now c.in-Some.digit c.in-Some.ensures.some)
    c.more_digits.ensures

pub returns-in-None : goal.returns-in-None
returns-in-None c = Stops-undigited_brace c.args.text.now c.in-None.ensures.none
