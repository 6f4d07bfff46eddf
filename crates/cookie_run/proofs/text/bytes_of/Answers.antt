use Rattle.std.specs.Prelude.{string_bytes}
use Rattle.cookie_run.proofs.MappedSteps.{map_more}
use Rattle.cookie_run.proofs.text.bytes_of.Goals as goal

pub loop-line-preserved : goal.loop-line-preserved
loop-line-preserved c =
    map_more (λ x. x.now) string_bytes c.loop-line.views.items c.push.new.self.items c.as_bytes.result c.args.lines.now
    c.loop-line.line-index c.line-item.result c.in_ok-push.ensures.items c.loop-line-test.true c.line-item.is
    c.as_bytes.ensures.value c.loop-line.invariant
