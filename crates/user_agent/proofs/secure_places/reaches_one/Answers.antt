use Rattle.std.proofs.Common.{refl}
use Rattle.std.proofs.lemmas.Bool.{both_ways}
use Rattle.user_agent.proofs.PlaceLemmas.{reached_here, reached_not}
use Rattle.user_agent.proofs.secure_places.reaches_one.Goals as goal

pub returns-then-reaches : goal.returns-then-reaches
returns-then-reaches c = (
  λ _. reached_here c.args.domain.now c.args.path.now c.args.places.now c.loop-place.place-index c.place-item.result
      c.loop-place-test.true c.place-item.is (c.reaches.ensures.0 c.if-reaches.true),
  λ _. refl,
)

pub loop-place-preserved : goal.loop-place-preserved
loop-place-preserved c =
    reached_not c.args.domain.now c.args.path.now c.args.places.now c.loop-place.place-index c.place-item.result
    c.loop-place-test.true c.place-item.is c.loop-place.invariant
    (λ is. both_ways _ c.if-reaches.false (c.reaches.ensures.1 is))
