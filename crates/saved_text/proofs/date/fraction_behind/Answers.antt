use Rattle.std.proofs.Common.{arith}
use Rattle.saved_text.proofs.DateLemmas.{scaled_bound}
use Rattle.saved_text.proofs.date.fraction_behind.Goals as goal

pub overflow_mul-result : goal.overflow_mul-result
overflow_mul-result c =
    let b = scaled_bound c.number.result c.digits_len-len.result c.pow.result _ c.if-len-gt9.false
    c.split_at.ensures.front_len c.number.ensures.bound c.pow.ensures in
    omega (arith, b)

pub returns-clause-bound : goal.returns-clause-bound
returns-clause-bound c = scaled_bound c.number.result c.digits_len-len.result c.pow.result _ c.if-len-gt9.false
    c.split_at.ensures.front_len c.number.ensures.bound c.pow.ensures
