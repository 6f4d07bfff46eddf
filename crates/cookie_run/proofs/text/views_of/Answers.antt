use Rattle.cookie_run.proofs.MappedSteps.{map_more}
use Rattle.cookie_run.proofs.text.views_of.Goals as goal

pub loop-line-preserved : goal.loop-line-preserved
loop-line-preserved c =
    map_more (λ x. x.now) (λ line. line.items) c.loop-line.views.items c.push.new.self.items c.as_slice.result
    c.args.lines.now c.loop-line.line-index c.line-item.result c.in_ok-push.ensures.items c.loop-line-test.true
    c.line-item.is c.as_slice.ensures.value c.loop-line.invariant
