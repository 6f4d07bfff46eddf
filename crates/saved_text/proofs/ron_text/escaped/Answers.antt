use Rattle.std.proofs.Common.{encode_utf8}
use Rattle.saved_text.specs.Grammar.{letters}
use Rattle.saved_text.proofs.RonLemmas.{result_step, Goes-hex, Goes-braced, Stops-u, Takes-letter, Stops-escape}
use Rattle.saved_text.proofs.ron_text.escaped.Goals as goal

pub returns-in-Some : goal.returns-in-Some
returns-in-Some c = result_step (λ k. letters (encode_utf8 k)) _ _ c.args.text.now c.in-Some.rest.now
    c.two_digits.result (Goes-hex c.args.text.now c.in-Some.rest.now c.in-Some.ensures.some) c.two_digits.ensures

pub returns-in-Some-cut-2 : goal.returns-in-Some-cut-2
returns-in-Some-cut-2 c = result_step (λ k. letters (encode_utf8 k)) _ _ c.args.text.now c.in-Some-cut-2.rest.now
    c.braced.result (Goes-braced c.args.text.now c.in-Some-cut.rest.now c.in-Some-cut-2.rest.now
    c.in-Some-cut.ensures.some c.in-Some-cut-2.ensures.some) c.braced.ensures

pub returns-in-None : goal.returns-in-None
returns-in-None c = Stops-u c.args.text.now c.in-Some-cut.rest.now c.in-Some-cut.ensures.some c.in-None.ensures.none

pub returns-in-Some-next_letter : goal.returns-in-Some-next_letter
returns-in-Some-next_letter c = Takes-letter c.args.text.now c.in-Some-next_letter.rest.now c.in-Some-next_letter.byte
    c.from.result c.in-Some-next_letter.ensures.some c.from.ensures c.in_default.ensures.none
    c.in_default-cut.ensures.none

pub returns-in-None-next_letter : goal.returns-in-None-next_letter
returns-in-None-next_letter c = Stops-escape c.args.text.now c.in_default.ensures.none c.in_default-cut.ensures.none
    c.in-None-next_letter.ensures.none
