use Rattle.std.proofs.Common.{rules}
use Rattle.saved_text.proofs.FrontRun.{spaces_more}
use Rattle.saved_text.proofs.ron_parts.gap.Goals as goal

pub loop-behind-preserved : goal.loop-behind-preserved
loop-behind-preserved c =
    let i = c.loop-behind.invariant in
    let m = spaces_more _ c.loop-behind.rest.now c.in-Some.behind.now (i.1, i.2, i.3) c.in-Some.ensures.some in
    (search rules, m.0, m.1, m.2)
