use Rattle.std.proofs.Common.{arith}
use Rattle.std.proofs.lemmas.Grind.{common_steps}
use Rattle.std.proofs.lemmas.Str.{IsCharBoundary-after_ascii}
use Rattle.place_index.proofs.find.ask_domains.Goals as goal

pub range_from-requires : goal.range_from-requires
range_from-requires g c = λ _.
    IsCharBoundary-after_ascii c.args.host.now c.loop-i.i c.utf8.host (grind (arith, common_steps))
    (grind (arith, common_steps))
