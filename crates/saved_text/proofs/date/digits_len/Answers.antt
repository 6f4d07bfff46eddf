use Rattle.std.proofs.Common.{arith, sym, ◌∙◌}
use Rattle.saved_text.proofs.DateLemmas.{front_more}
use Rattle.saved_text.proofs.date.digits_len.Goals as goal

pub loop-len-preserved : goal.loop-len-preserved
loop-len-preserved c =
    let i = c.loop-len.invariant in
    let m = front_more c.args.text.now c.loop-len.len c.loop-len-test.true (sym c.is_ascii_digit.ensures.value
    ∙ c.if-is_ascii_digit.true) i.digits i.front in
    record {
      fits = omega (arith, c.loop-len-test.true);
      digits = m.0;
      front = m.1;
    }
