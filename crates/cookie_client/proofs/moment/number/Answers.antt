use Rattle.std.proofs.Common.{◌≡◌, ◌∙◌, ◌+◌, ◌*◌, ◌-◌, get_or, ap, arith}
use Rattle.cookie_client.proofs.MomentText.{digit_bounds, number_step, number_grows}
use Rattle.cookie_client.proofs.moment.number.Goals as goal

pub overflow_sub-digit : goal.overflow_sub-digit
overflow_sub-digit c = (digit_bounds c.args.digits.now c.loop-digit.digit-index c.requires.digits
    c.loop-digit-test.true).0

pub loop-digit-preserved : goal.loop-digit-preserved
loop-digit-preserved c =
    let i = c.loop-digit.digit-index in
    let b = digit_bounds c.args.digits.now i c.requires.digits c.loop-digit-test.true in
    let is : c.from.result ≡ get_or c.args.digits.now i 0 - 48 = cc in
    record {
      value = ap (λ d. c.loop-digit.n * 10 + d) is ∙ number_step c.args.digits.now i c.loop-digit.n c.requires.digits
          c.loop-digit-test.true c.loop-digit.invariant.value;
      bound = number_grows c.loop-digit.n c.from.result i c.loop-digit.invariant.bound (omega (arith, is, b));
    }
