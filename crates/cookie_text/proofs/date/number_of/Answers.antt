use Rattle.std.proofs.Common.{arith}
use Rattle.std.proofs.lemmas.Grind.{common_steps}
use Rattle.cookie_text.proofs.DateNumbers.{year_small, year_step}
use Rattle.cookie_text.proofs.date.number_of.Goals as goal

pub overflow_mul-number : goal.overflow_mul-number
overflow_mul-number c =
    let step = year_step c.args.digits.now c.loop-digit.digit-index c.requires c.loop-digit-test.true in
    omega (arith, step.0, step.1, c.loop-digit.invariant)

pub overflow_add-number : goal.overflow_add-number
overflow_add-number c =
    let step = year_step c.args.digits.now c.loop-digit.digit-index c.requires c.loop-digit-test.true in
    omega (arith, step.0, step.1, c.loop-digit.invariant)

pub loop-digit-preserved : goal.loop-digit-preserved
loop-digit-preserved c =
    let step = year_step c.args.digits.now c.loop-digit.digit-index c.requires c.loop-digit-test.true in
    omega (arith, step.0, c.loop-digit.invariant)

pub returns-clause-bound : goal.returns-clause-bound
returns-clause-bound c = grind (arith, common_steps, year_small c.args.digits.now c.requires)
