use Rattle.std.proofs.Common.{arith}
use Rattle.std.proofs.lemmas.Grind.{common_steps}
use Rattle.user_agent.proofs.TokenLemmas.{four_small, two_small, next_digit}
use Rattle.user_agent.proofs.token.number_of.Goals as goal

pub overflow_mul-number : goal.overflow_mul-number
overflow_mul-number c =
    let step = next_digit c.args.digits.now c.loop-digit.digit-index c.requires.digits c.requires.few
    c.loop-digit-test.true in
    omega (arith, step.0, step.1, c.loop-digit.invariant)

pub overflow_add-number : goal.overflow_add-number
overflow_add-number c =
    let step = next_digit c.args.digits.now c.loop-digit.digit-index c.requires.digits c.requires.few
    c.loop-digit-test.true in
    omega (arith, step.0, step.1, c.loop-digit.invariant)

pub loop-digit-preserved : goal.loop-digit-preserved
loop-digit-preserved c =
    let step = next_digit c.args.digits.now c.loop-digit.digit-index c.requires.digits c.requires.few
    c.loop-digit-test.true in
    omega (arith, step.0, c.loop-digit.invariant)

pub returns-clause-bound : goal.returns-clause-bound
returns-clause-bound c = grind (arith, common_steps, four_small c.args.digits.now c.requires.digits c.requires.few)

pub returns-clause-small : goal.returns-clause-small
returns-clause-small c = λ few. grind (arith, common_steps, two_small c.args.digits.now c.requires.digits few)
