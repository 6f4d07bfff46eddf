use Rattle.std.proofs.Common.{◌≡◌, ◌∙◌, ◌+◌, ◌*◌, ◌-◌, get_or, ap, arith}
use Rattle.saved_text.proofs.DateLemmas.{digit_bounds, few_digits, number_step, number_grows}
use Rattle.saved_text.proofs.date.number.Goals as goal

pub overflow_sub-digit : goal.overflow_sub-digit
overflow_sub-digit c = (digit_bounds c.args.digits.now c.loop-digit.digit-index c.requires.digits
    c.loop-digit-test.true).0

pub loop-digit-preserved : goal.loop-digit-preserved
loop-digit-preserved c =
    let i = c.loop-digit.digit-index in
    let b = digit_bounds c.args.digits.now i c.requires.digits c.loop-digit-test.true in
    let is : c.from.result ≡ get_or c.args.digits.now i 0 - 48 = cc in
    record {
      value = ap (λ d. c.loop-digit.n * 10 + d) is ∙ number_step c.args.digits.now i c.loop-digit.n c.requires.digits
          c.loop-digit-test.true c.loop-digit.invariant.value;
      bound = number_grows c.loop-digit.n c.from.result i c.loop-digit.invariant.bound (omega (arith, is, b));
    }

pub overflow_mul-n : goal.overflow_mul-n
overflow_mul-n c =
    let few = few_digits c.loop-digit.digit-index (omega (arith, c.loop-digit-test.true, c.requires.few)) in
    omega (arith, c.loop-digit.invariant.bound, few)

pub overflow_add-n : goal.overflow_add-n
overflow_add-n c =
    let i = c.loop-digit.digit-index in
    let few = few_digits i (omega (arith, c.loop-digit-test.true, c.requires.few)) in
    let b = digit_bounds c.args.digits.now i c.requires.digits c.loop-digit-test.true in
    let is : c.from.result ≡ get_or c.args.digits.now i 0 - 48 = cc in
    omega (arith, c.loop-digit.invariant.bound, few, is, b)
