use Rattle.saved_text.proofs.RowLemmas.{word_ends, word_on, result_rest}
use Rattle.saved_text.proofs.ron_parts.+bytes_of.Goals as goal

pub returns-in-empty : goal.returns-in-empty
returns-in-empty t c = word_ends c.args.bytes.now c.args.text.now c.in-empty.len_below

pub returns-in-Some : goal.returns-in-Some
returns-in-Some t c = result_rest _ _ c.args.text.now c.in-Some.rest.now c.bytes_of.result
    (word_on c.args.bytes.now c.args.text.now c.in-Some.rest.now c.in-len1-up.len_at_least c.in-Some.ensures.some)
    c.bytes_of.ensures
