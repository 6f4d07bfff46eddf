use Rattle.std.proofs.Common.{◌∙◌, arith}
use Rattle.saved_text.proofs.DateLemmas.{form_wrong, form_right}
use Rattle.saved_text.proofs.date.shows.Goals as goal

pub returns-then-blanked-form : goal.returns-then-blanked-form
returns-then-blanked-form c = form_wrong c.args.text.now c.args.form.now c.loop-i.i c.loop-i-test.true
    (λ e. c.if-blanked-form.true (c.blanked.ensures ∙ e))

pub returns : goal.returns
returns c = form_right c.args.text.now c.args.form.now c.if-text-form.false (λ k h. c.loop-i.invariant k
    (omega (arith, h)))
