use Rattle.std.proofs.Common.{◌∙◌, arith}
use Rattle.cookie_client.proofs.MomentText.{shape_wrong, shape_right}
use Rattle.cookie_client.proofs.moment.has_shape.Goals as goal

pub returns-then-blanked-i : goal.returns-then-blanked-i
returns-then-blanked-i c = shape_wrong c.args.text.now c.loop-i.i c.loop-i-test.true
    (λ e. c.if-blanked-i.true (c.blanked.ensures ∙ e))

pub returns : goal.returns
returns c = shape_right c.args.text.now c.if-text-ne20.false (λ k h. c.loop-i.invariant k (omega (arith, h)))
